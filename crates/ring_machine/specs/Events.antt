-- What can happen to the world, and what is a valid history. Histories have the latest event first.
use Rattle.std.specs.Prelude.{◌≡◌, ℕ, ◌+◌, ◌<◌, ◌≤◌, Bool, true, false, List, [], ◌∷◌}
use Rattle.ring_points.specs.declared.who.Who.{Who}
use Rattle.ring_points.specs.Whos.{node_instance}
use Rattle.fabric_lemmas.specs.Members.{IsMember}
use Rattle.ring_machine.specs.Ends.{updated, replaced}
use Rattle.drift_clock.specs.Within.{FitsAll}
use Rattle.ring_machine.specs.Frames.{Accuse, RoundClaim}
use Rattle.ring_machine.specs.World.{Settings, Instance, World, Phase, Running, Left, Stopped, Live, has_clock, born, all_at, empty_world}
use Rattle.ring_machine.specs.Arbitration.{ruled, claimed}
use Rattle.ring_machine.specs.Deeds.{Deed}
use Rattle.ring_machine.specs.Guards.{May}
use Rattle.ring_machine.specs.Effects.{done}

-- Arbitrators answer what was asked at any time, from tables that outlive them. Again lets the ring come back: from then on
-- another instance begins with the whole of it.
pub data Event : Type 0 where
  Starts : (node reading : ℕ) → Event
  Stops : (who : Who) → Event
  Leaves : (who : Who) → Event
  Again : (whole : Who) → Event
  Ticks : (advance : ℕ) → (readings : Who → ℕ) → Event
  Answers : (arbiter : ℕ) → (accuser victim : Who) → Event
  Keeps : (arbiter : ℕ) → (claimer victim : Who) → (round : ℕ) → Event
  Does : (who : Who) → Deed → Event

-- the node's next instance
abbrev pub next_instance : World → ℕ → Who
next_instance w node = node_instance node (w.starts node + 1)

abbrev pub started : Settings → World → (node reading : ℕ) → World
started c w node reading = record w {
  starts = replaced w.starts node (w.starts node + 1);
  instance = updated w.instance (next_instance w node) (born w.whole w.time (next_instance w node) reading);
}

-- an instance that left, or stopped
abbrev pub in_phase : World → Who → Phase → World
in_phase w x phase = record w { instance = updated w.instance x (record (w.instance x) { phase = phase }) }

-- all points are at the instance that is to begin with them, wherever they were
abbrev pub come_back : World → Who → World
come_back w x = record w { whole = x; place = all_at x }

-- the instance at a later time
abbrev pub ticked : Instance → (time reading : ℕ) → (has_clock : Bool) → Instance
ticked i time reading true = record i { reading = reading; pairs = (time, reading) ∷ i.pairs }
ticked i time reading false = i

abbrev pub passed : World → ℕ → (Who → ℕ) → World
passed w advance readings = record w {
  time = w.time + advance;
  instance = λ x. ticked (w.instance x) (w.time + advance) (readings x) (has_clock (w.instance x).phase);
}

abbrev pub after : Settings → World → Event → World
after c w (Starts node reading) = started c w node reading
after c w (Stops x) = in_phase w x Stopped
after c w (Leaves x) = in_phase w x Left
after c w (Again x) = come_back w x
after c w (Ticks advance readings) = passed w advance readings
after c w (Answers arbiter accuser victim) = ruled w arbiter accuser victim
after c w (Keeps arbiter claimer victim round) = claimed w arbiter claimer victim round
after c w (Does x deed) = done c w x deed

-- the event can happen
abbrev pub Can : Settings → World → Event → Type 0
Can c w (Starts node reading) = Unit {0}
Can c w (Stops x) = has_clock (w.instance x).phase ≡ true
Can c w (Leaves x) = (w.instance x).phase ≡ Running
-- nobody holds anything; if the instance has started before, nobody begins with the ring
Can c w (Again x) = (y : Who) → Live c (w.instance y) → ⊥
Can c w (Ticks advance readings) =
    (x : Who) → (w.instance x).phase ≡ Running → FitsAll c.bound (w.instance x).pairs (w.time + advance, readings x)
Can c w (Answers arbiter accuser victim) = IsMember (Accuse accuser victim) w.sent
Can c w (Keeps arbiter claimer victim round) = IsMember (RoundClaim claimer victim round) w.sent
Can c w (Does x deed) = Live c (w.instance x) × May c w x deed

abbrev pub world_after : Settings → List Event → World
world_after c [] = empty_world c
world_after c (event ∷ events) = after c (world_after c events) event

-- each event can happen after those before it
abbrev pub Valid : Settings → List Event → Type 0
Valid c [] = Unit {0}
Valid c (event ∷ events) = Can c (world_after c events) event × Valid c events

-- what the law asks of the settings
pub record IsSound (c : Settings) : Type 0 where
  pub drift : c.bound.d ≤ 100
  pub answer : 0 < c.answer
