-- The order of partitions and data loss numbers.
use Rattle.std.proofs.Common.{◌≡◌, ℕ, true, false, ◌&&◌, ◌==◌, arith}
use Rattle.std.proofs.lemmas.Bool.Decides.{nat_tests}
use Rattle.write_safety.specs.Books.{precedes}

pub precedes_on : (p d q e r f : ℕ) → precedes p d q e ≡ true → precedes q e r f ≡ true → precedes p d r f ≡ true
precedes_on p d q e r f h k = grind (arith, nat_tests)

-- what comes before is another
pub before_differs : (p d q e : ℕ) → precedes p d q e ≡ true → (p == q && d == e) ≡ false
before_differs p d q e h = grind (arith, nat_tests)

pub behind_differs : (p d q e : ℕ) → precedes p d q e ≡ true → (q == p && e == d) ≡ false
behind_differs p d q e h = grind (arith, nat_tests)

-- what is another and does not come before comes behind
pub behind : (p d q e : ℕ) → precedes p d q e ≡ false → (p == q && d == e) ≡ false → precedes q e p d ≡ true
behind p d q e h k = grind (arith, nat_tests)

-- the same numbers come before the same
pub same_key : (p d q e : ℕ) → (p == q && d == e) ≡ true → (p ≡ q) × (d ≡ e)
same_key p d q e h = (grind (arith, nat_tests), grind (arith, nat_tests))

pub key_itself : (p d : ℕ) → (p == p && d == d) ≡ true
key_itself p d = grind (arith, nat_tests)
