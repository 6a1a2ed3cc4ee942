-- Rows in the order of their names, and the others where one is taken out.
use Rattle.std.proofs.Common.{◌≡◌, ℕ, ◌&&◌, Bool, true, false, cond, not, List, [], ◌∷◌, refl, ap, ◌∙◌}
use Rattle.std.specs.FinMap.Entries.{below_all, where_key}
use Rattle.std.proofs.lemmas.Bool.{both_ways}
use Rattle.std.specs.Ordering.{eq_by_cmp, is_eq, is_lt}
use Rattle.std.specs.declared.cmp.Ordering.{Ordering}
use Rattle.std.specs.declared.cmp.Ordering.TheVariants.{Less, Equal, Greater}
use Rattle.name_rules.specs.Names.{name_cmp}
use Rattle.name_rules.specs.Rows.{Rows}

less : (o : Ordering) → is_lt o ≡ true → o ≡ Less
less Less e = refl
less Equal e = absurd (both_ways false refl e)
less Greater e = absurd (both_ways false refl e)

pub first : (a b : Bool) → (a && b) ≡ true → a ≡ true
first true b e = refl
first false b e = absurd (both_ways false refl e)

pub second : (a b : Bool) → (a && b) ≡ true → b ≡ true
second true b e = e
second false b e = absurd (both_ways false refl e)

abbrev pub others : List ℕ → List ℕ → Bool
others k x = not (eq_by_cmp name_cmp k x)

pub all_others : (k : List ℕ) (es : Rows) → below_all name_cmp k es ≡ true → where_key name_cmp (others k) es ≡ es
all_others k [] h = refl
all_others k (e ∷ es) h =
    ap (λ r. cond (not (is_eq r)) (e ∷ where_key name_cmp (others k) es) (where_key name_cmp (others k) es)) (less _ (first _ _ h))
    ∙ ap (λ rest. e ∷ rest) (all_others k es (second _ _ h))
