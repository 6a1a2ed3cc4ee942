-- The names that one entry more leaves.
use Rattle.std.proofs.Common.{◌≡◌, List, [], ◌∷◌, ◌++◌, refl}
use Rattle.replica_core.specs.declared.entry.Entry.{Entry}
use Rattle.name_rules.specs.Names.{NameMap, applied, names_from}

pub names_after_one_more : (names : NameMap) (entries : List Entry) (e : Entry) → names_from names (entries ++ e ∷ []) ≡ applied e (names_from names entries)
names_after_one_more names [] e = refl
names_after_one_more names (first ∷ rest) e = names_after_one_more (applied first names) rest e
