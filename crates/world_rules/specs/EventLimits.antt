-- The limits of a schedule: whether one more event has room.
use Rattle.std.specs.Prelude.{ℕ, ◌+◌, Bool, true, false, not, ◌&&◌, ◌||◌, nat_le, nat_lt}
use Rattle.fabric_terms.specs.declared.event.Event.{Event}
use Rattle.fabric_terms.specs.declared.event.Event.TheVariants.{Start, Tick, Fire, Give, Do}
use Rattle.ring_points.specs.Limits.{most_reading}
use Rattle.world_rules.specs.Uppers.{Upper}
use Rattle.world_rules.specs.Worlds.{World}

-- the events that a schedule may have, the frames after which no actor may act any more, and the greatest true time

abbrev pub most_events : ℕ
most_events = 1000000

abbrev pub most_frames : ℕ
most_frames = 200000

abbrev pub most_time : ℕ
most_time = most_reading

-- so many events and frames leave room for one more event, at which an actor acts or none does
abbrev pub is_room : (acts : Bool) → ℕ → ℕ → Bool
is_room acts events sent = nat_lt events most_events && (not acts || nat_lt sent most_frames)

-- an actor acts, and may send frames
abbrev pub acts : Event → Bool
acts (Start actor reading) = true
acts (Fire node) = true
acts (Give frame) = true
acts (Do node command) = true
acts _ = false

-- the true time after an event
abbrev pub time_after : ℕ → Event → ℕ
time_after time (Tick advance readings) = time + advance
time_after time _ = time

-- one more event, after so many that made this world, is within the limits
unfoldable pub has_room : {a : Upper} → World a → ℕ → Event → Bool
has_room w events e =
    is_room (acts e) events w.count && nat_le (time_after w.time e) most_time
