-- What the calls on a token do to points.
use Rattle.std.specs.Prelude.{◌≡◌, ℕ, not, ◌&&◌, ◌||◌, List, Some, IsTrue}
use Rattle.ring_points.specs.declared.interval.Interval.{Interval}
use Rattle.ring_points.specs.Ranges.{in_ranges, rises_from}
use Rattle.token_core.specs.Tokens.{Freeze, Token, frozen_part, announced, gained, frozen, given, inherited}

-- the ranges and the frozen part are lists of sets
pub record IsRising (t : Token) : Type 0 where
  pub ranges : IsTrue (rises_from 0 t.ranges)
  pub part : IsTrue (rises_from 0 (frozen_part t.freeze))

-- an owned point is announced unless it is frozen
abbrev pub Announcing : Type 0
Announcing = (t : Token) (p : ℕ) → IsRising t → in_ranges p (announced t) ≡ (in_ranges p t.ranges && not (in_ranges p (frozen_part t.freeze)))

-- a freeze keeps what is owned, and freezes the owned points of the part
pub record IsFreeze (t : Token) (part : List Interval) (slot : ℕ) : Type 0 where
  pub owned : (frozen t part slot).ranges ≡ t.ranges
  pub frozen : (p : ℕ) → in_ranges p (frozen_part (frozen t part slot).freeze) ≡ (in_ranges p t.ranges && in_ranges p part)

abbrev pub Freezing : Type 0
Freezing = (t : Token) (part : List Interval) (slot : ℕ) → IsRising t → IsFreeze t part slot

-- what is given is owned no more, and what is announced stays
pub record IsGift (t : Token) (z : Freeze) : Type 0 where
  pub owned : (p : ℕ) → in_ranges p (given t z).ranges ≡ (in_ranges p t.ranges && not (in_ranges p z.part))
  pub announced : announced (given t z) ≡ announced t

abbrev pub Giving : Type 0
Giving = (t : Token) (z : Freeze) → IsRising t → t.freeze ≡ Some z → IsGift t z

-- what is gained is owned too
abbrev pub Gaining : Type 0
Gaining = (t : Token) (part : List Interval) (p : ℕ) → IsRising t → IsTrue (rises_from 0 part) → in_ranges p (gained t part).ranges ≡ (in_ranges p t.ranges || in_ranges p part)

-- what is inherited was in the record or in the flight, and was not owned
abbrev pub Inheriting : Type 0
Inheriting = (t : Token) (held flight : List Interval) (p : ℕ) → IsRising t → IsTrue (rises_from 0 held) → IsTrue (rises_from 0 flight) → in_ranges p (inherited t held flight) ≡ ((in_ranges p held || in_ranges p flight) && not (in_ranges p t.ranges))
