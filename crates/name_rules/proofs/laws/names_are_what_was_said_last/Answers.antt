use Rattle.std.proofs.Common.{◌≡◌, List, ℕ, Option, Some, None, refl, ap, ◌∙◌}
use Rattle.std.specs.FinMap.{get, empty, get-insert, get-remove}
use Rattle.name_rules.specs.Grammar.{Change, Sets, Deletes, change_of}
use Rattle.name_rules.specs.Laws.{said_by}
use Rattle.name_rules.specs.Names.{NameMap, changed, names_of}
use Rattle.name_rules.proofs.Entries.{names_after_one_more}
use Rattle.name_rules.proofs.Order.{name_total}
use Rattle.name_rules.proofs.laws.names_are_what_was_said_last.Goals as goal

said : (names : NameMap) (name : List ℕ) (change : Option Change) → get (changed change names) name ≡ said_by name change (get names name)
said names name None = refl
said names name (Some (Sets other value)) = get-insert name_total names other value name
said names name (Some (Deletes other)) = get-remove name_total names other name

pub returns : goal.returns
returns c entries e name = ap (λ (m : NameMap). get m name) (names_after_one_more empty entries e) ∙ said (names_of entries) name (change_of e.bytes)
