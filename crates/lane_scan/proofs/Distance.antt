-- The order of points by their distance from a key, then by the lower point.
use Rattle.std.proofs.Common.{◌≡◌, ◌≢◌, ℕ, ◌+◌, ◌-◌, ◌%◌, ◌^◌, ◌<◌, ◌==◌, min, Bool, true, false, ◌&&◌, ◌||◌, nat_lt, arith}
use Rattle.std.proofs.lemmas.Bool.Decides.{nat_tests}
use Rattle.ring_points.specs.Distances.{ahead_of, distance_of}

pub ahead_of-lt : (p key : ℕ) → ahead_of p key < 2 ^ 64
ahead_of-lt p key = omega arith

-- going up from the key by what a point stands above it leads to the point
pub back_again : (p key : ℕ) → p < 2 ^ 64 → key < 2 ^ 64 → (key + ahead_of p key) % 2 ^ 64 ≡ p
back_again p key a b = omega arith

pub distance_by_ahead : (p key : ℕ) → p < 2 ^ 64 → key < 2 ^ 64 → distance_of key p ≡ min (ahead_of p key) (2 ^ 64 - ahead_of p key)
distance_by_ahead p key a b = omega arith

-- the test of is_nearer, of two distances and two points
abbrev pub before : ℕ → ℕ → ℕ → ℕ → Bool
before dx x dy y = nat_lt dx dy || (dx == dy && nat_lt x y)

-- p is a or b, or further away than one of them
pub data Behind (da a db b dp p : ℕ) : Type 0 where
  is_first : p ≡ a → dp ≡ da → Behind da a db b dp p
  is_second : p ≡ b → dp ≡ db → Behind da a db b dp p
  further : da < dp → Behind da a db b dp p
  further_too : db < dp → Behind da a db b dp p

pub none_before_second : (da a db b dp p : ℕ) → before db b da a ≡ true → Behind da a db b dp p → before dp p db b ≡ false
none_before_second da a db b dp p t (is_first e d) = grind (arith, nat_tests)
none_before_second da a db b dp p t (is_second e d) = grind (arith, nat_tests)
none_before_second da a db b dp p t (further l) = grind (arith, nat_tests)
none_before_second da a db b dp p t (further_too l) = grind (arith, nat_tests)

pub none_before_first : (da a db b dp p : ℕ) → before db b da a ≡ false → Behind da a db b dp p → before dp p da a ≡ false
none_before_first da a db b dp p t (is_first e d) = grind (arith, nat_tests)
none_before_first da a db b dp p t (is_second e d) = grind (arith, nat_tests)
none_before_first da a db b dp p t (further l) = grind (arith, nat_tests)
none_before_first da a db b dp p t (further_too l) = grind (arith, nat_tests)

pub before_total : (dx x dy y : ℕ) → y ≢ x → before dy y dx x ≡ false → before dx x dy y ≡ true
before_total dx x dy y apart t = grind (arith, nat_tests)

pub before_none_itself : (dx x : ℕ) → before dx x dx x ≡ false
before_none_itself dx x = grind (arith, nat_tests)

pub before_one_way : (dx x dy y : ℕ) → before dx x dy y ≡ true → before dy y dx x ≡ false
before_one_way dx x dy y t = grind (arith, nat_tests)

pub before_no_further : (dx x dy y dz z : ℕ) → before dx x dy y ≡ false → before dy y dz z ≡ false → before dx x dz z ≡ false
before_no_further dx x dy y dz z t u = grind (arith, nat_tests)
