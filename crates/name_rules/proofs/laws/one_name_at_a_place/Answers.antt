use Rattle.std.proofs.Common.{◌≡◌, false, true, refl}
use Rattle.std.proofs.lemmas.Bool.{both_ways}
use Rattle.std.specs.Ordering.{is_eq}
use Rattle.std.specs.declared.cmp.Ordering.{Ordering}
use Rattle.std.specs.declared.cmp.Ordering.TheVariants.{Less, Equal, Greater}
use Rattle.name_rules.specs.Names.{name_cmp}
use Rattle.name_rules.proofs.Order.{one_name}
use Rattle.name_rules.proofs.laws.one_name_at_a_place.Goals as goal

tie : (o : Ordering) → is_eq o ≡ true → o ≡ Equal
tie Equal t = refl
tie Less t = absurd (both_ways false refl t)
tie Greater t = absurd (both_ways false refl t)

pub returns : goal.returns
returns c a b e = one_name a b (tie (name_cmp a b) e)
