-- What holds of the definitions of points and sets.
use Rattle.std.specs.Prelude.{◌≡◌, ◌≢◌, ℕ, ◌^◌, ◌<◌, Bool, false, not, ◌&&◌, ◌||◌, List, IsTrue}
use Rattle.ring_points.specs.declared.interval.Interval.{Interval}
use Rattle.ring_points.specs.Ranges.{in_ranges, rises_from}
use Rattle.ring_points.specs.Sets.{union_of, minus_of, meet_of, nearer_part_of}
use Rattle.ring_points.specs.Distances.{is_nearer}

-- two rising lists with the same points of the ring are one list
abbrev pub OneList : Type 0
OneList = (is js : List Interval) → IsTrue (rises_from 0 is) → IsTrue (rises_from 0 js) → ((p : ℕ) → p < 2 ^ 64 → in_ranges p is ≡ in_ranges p js) → is ≡ js

-- the list rises, and these are its points
pub record IsListOf (has : ℕ → Bool) (is : List Interval) : Type 0 where
  pub rises : IsTrue (rises_from 0 is)
  pub points : (p : ℕ) → p < 2 ^ 64 → in_ranges p is ≡ has p

-- of two rising lists the union, the difference and the meet
abbrev pub Unions : Type 0
Unions = (is js : List Interval) → IsTrue (rises_from 0 is) → IsTrue (rises_from 0 js) → IsListOf (λ p. in_ranges p is || in_ranges p js) (union_of is js)

abbrev pub Differences : Type 0
Differences = (is js : List Interval) → IsTrue (rises_from 0 is) → IsTrue (rises_from 0 js) → IsListOf (λ p. in_ranges p is && not (in_ranges p js)) (minus_of is js)

abbrev pub Meets : Type 0
Meets = (is js : List Interval) → IsTrue (rises_from 0 is) → IsTrue (rises_from 0 js) → IsListOf (λ p. in_ranges p is && in_ranges p js) (meet_of is js)

-- of a rising list the points that are nearer to one of two points than to the other
abbrev pub NearerParts : Type 0
NearerParts = (is : List Interval) (mine other : ℕ) → IsTrue (rises_from 0 is) → mine < 2 ^ 64 → other < 2 ^ 64 → mine ≢ other → IsListOf (λ p. in_ranges p is && is_nearer p other mine) (nearer_part_of is mine other)

pub record IsStrictTotalOrder (before : ℕ → ℕ → Bool) : Type 0 where
  pub irreflexive : (a : ℕ) → before a a ≡ false
  pub transitive : (a b c : ℕ) → IsTrue (before a b) → IsTrue (before b c) → IsTrue (before a c)
  pub total : (a b : ℕ) → a ≢ b → IsTrue (before a b || before b a)

-- each point has all points in an order of nearness
abbrev pub Nearness : Type 0
Nearness = (p : ℕ) → IsStrictTotalOrder (is_nearer p)
