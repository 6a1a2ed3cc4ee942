-- The token as a value, and what changes it.
use Rattle.std.specs.Prelude.{ℕ, ◌+◌, Bool, false, ◌&&◌, List, [], Option, Some, None, nat_le}
use Rattle.ring_points.specs.declared.interval.Interval.{Interval}
use Rattle.ring_points.specs.Ranges.{fits}
use Rattle.ring_points.specs.Sets.{union_of, minus_of, meet_of}
use Rattle.token_core.specs.declared.freeze.Freeze as kept

-- a part that is frozen for a slot, since this version
abbrev pub Freeze : Type 0
Freeze = kept.Freeze

-- what a node owns, what of it is frozen, the version of what it announces, and the number of its next flight
pub record Token : Type 0 where
  pub ranges : List Interval
  pub freeze : Option Freeze
  pub version : ℕ
  pub next_flight : ℕ

abbrev pub first_token : List Interval → Token
first_token ranges = record { ranges = ranges; freeze = None; version = 1; next_flight = 1 }

abbrev pub frozen_part : Option Freeze → List Interval
frozen_part None = []
frozen_part (Some z) = z.part

-- what is announced: the ranges without the frozen part
abbrev pub announced : Token → List Interval
announced t = minus_of t.ranges (frozen_part t.freeze)

-- versions, flights, sessions and instances end here
abbrev pub last_number : ℕ
last_number = 4294967295

-- a part is owned too
abbrev pub gained : Token → List Interval → Token
gained t part = record t { ranges = union_of t.ranges part; version = t.version + 1 }

abbrev pub can_gain : Token → List Interval → Bool
can_gain t part = fits (gained t part).ranges && fits (announced (gained t part))

-- the owned points of a part are frozen for a slot
abbrev pub frozen : Token → List Interval → ℕ → Token
frozen t part slot = record t { freeze = Some (record { part = meet_of t.ranges part; slot = slot; version = t.version + 1 }); version = t.version + 1 }

abbrev pub can_freeze : Token → List Interval → Bool
can_freeze t part = fits (meet_of t.ranges part) && fits (minus_of t.ranges (meet_of t.ranges part))

-- the freeze stands no more
abbrev pub unfrozen : Token → Token
unfrozen t = record t { freeze = None; version = t.version + 1 }

-- the frozen part is given away
abbrev pub given : Token → Freeze → Token
given t z = record t { ranges = minus_of t.ranges z.part; freeze = None; next_flight = t.next_flight + 1 }

abbrev pub is_ready : Option Freeze → ℕ → Bool
is_ready None least = false
is_ready (Some z) least = nat_le z.version least

-- of a record and a flight, what is not owned yet
abbrev pub inherited : Token → List Interval → List Interval → List Interval
inherited t held flight = minus_of (union_of held flight) t.ranges
