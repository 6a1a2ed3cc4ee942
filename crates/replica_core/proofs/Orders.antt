-- The order of epochs.
use Rattle.std.proofs.Common.{◌≡◌, true, false, arith}
use Rattle.std.proofs.lemmas.Bool.Decides.{nat_tests}
use Rattle.ring_points.specs.declared.unit.Epoch.{Epoch}
use Rattle.ring_points.specs.Epochs.{is_older, same_epoch}

pub not_itself : (a : Epoch) → is_older a a ≡ false
not_itself a = grind (arith, nat_tests)

-- from one to the next none falls
pub none_falls : (a b c : Epoch) → is_older b a ≡ false → is_older c b ≡ false → is_older c a ≡ false
none_falls a b c first second = grind (arith, nat_tests, first, second)

pub same_is : (a b : Epoch) → same_epoch a b ≡ true → a ≡ b
same_is a b same = grind (arith, nat_tests, same)

-- an epoch that is not below another, and not the same, is above it
pub is_above : (a b e : Epoch) → is_older b a ≡ false → is_older e b ≡ false → same_epoch a e ≡ false → is_older a e ≡ true
is_above a b e first second other = grind (arith, nat_tests, first, second, other)

-- an epoch between the same two is that one
pub is_between : (a b : Epoch) → is_older b a ≡ false → is_older a b ≡ false → b ≡ a
is_between a b first second = grind (arith, nat_tests, first, second)

pub older_than_older : (a b c : Epoch) → is_older a b ≡ true → is_older b c ≡ true → is_older a c ≡ true
older_than_older a b c first second = grind (arith, nat_tests, first, second)
