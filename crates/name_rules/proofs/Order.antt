-- The order of names is total, and only equal names tie.
use Rattle.std.proofs.Common.{◌≡◌, ℕ, Bool, true, false, List, ap, refl, ◌∙◌}
use Rattle.std.proofs.lemmas.Bool.{both_ways}
use Rattle.std.specs.Cmp.{IsTotalOrder}
use Rattle.std.specs.FinMap.{nat_cmp-IsAntisymmetric, slice_cmp-IsAntisymmetric}
use Rattle.std.specs.Ordering.{eq_by_cmp, is_eq, ordering_then}
use Rattle.std.specs.declared.cmp.Ordering.{Ordering}
use Rattle.std.specs.declared.cmp.Ordering.TheVariants.{Less, Equal, Greater}
use Rattle.std.proofs.lemmas.Cmp.{then_total, on_total, lists_total, nat_cmp_total}
use Rattle.name_rules.specs.Grammar.{is_name}
use Rattle.name_rules.specs.Names.{name_cmp, point_of}

pub name_total : IsTotalOrder name_cmp
name_total = then_total (on_total point_of nat_cmp_total) (lists_total nat_cmp_total)

second_equal : (a b : Ordering) → ordering_then a b ≡ Equal → b ≡ Equal
second_equal Less b e = absurd (both_ways false refl (ap is_eq e))
second_equal Equal b e = e
second_equal Greater b e = absurd (both_ways false refl (ap is_eq e))

pub one_name : (a b : List ℕ) → name_cmp a b ≡ Equal → a ≡ b
one_name a b e = slice_cmp-IsAntisymmetric nat_cmp-IsAntisymmetric a b (second_equal _ _ e)

tie : (o : Ordering) → is_eq o ≡ true → o ≡ Equal
tie Equal t = refl
tie Less t = absurd (both_ways false refl t)
tie Greater t = absurd (both_ways false refl t)

pub unless : (a : Bool) → (a ≡ true → ⊥) → a ≡ false
unless true n = absurd (n refl)
unless false n = refl

-- what is no name ties with no name
pub apart : (k n : List ℕ) → is_name k ≡ false → is_name n ≡ true → eq_by_cmp name_cmp k n ≡ false
apart k n none is = unless (eq_by_cmp name_cmp k n) (λ t. both_ways (is_name k) none (ap is_name (one_name k n (tie _ t)) ∙ is))
