-- The arbitrators of the code, and those of the rules that they stand for.
use Rattle.std.specs.Prelude.{◌≡◌, ℕ, ◌+◌, ◌≤◌, Bool, true, false, List, Option, Some, None, length, slice_get}
use Rattle.arbiter_core.specs.Arbiters.{Arbiter, entries, fresh, restored}
use Rattle.ring_points.specs.Whos.{arbiter_actor}
use Rattle.world_rules.specs.Arbiters.{ArbiterState}
use Rattle.fabric_lemmas.specs.Maps.{at}
use Rattle.unit_rules.specs.Fabric.{fabric}
use Rattle.world_rules.specs.Worlds.{World as RuledWorld, kept_of}
use Rattle.ring_world.specs.declared.configured_arbiter.ConfiguredArbiter.{ConfiguredArbiter}

-- the state of an arbitrator: its table, and beside it the registers
abbrev pub state_of : Arbiter → ArbiterState fabric
state_of a = record { table = a.table; beside = a.registers }

-- its state, while it runs
abbrev pub state_where : Bool → Arbiter → Option (ArbiterState fabric)
state_where false a = None
state_where true a = Some (state_of a)

-- an arbitrator that has recorded nothing and does not run
abbrev pub empty_seat : ℕ → ConfiguredArbiter
empty_seat arbiter = record { arbiter = fresh arbiter; runs = false }

-- so many of them, from number 1
pub record AreEmpty (count : ℕ) (seats : List ConfiguredArbiter) : Type 0 where
  pub many : length seats ≡ count
  pub each : (k : ℕ) (s : ConfiguredArbiter) → slice_get seats k ≡ Some s → s ≡ empty_seat (k + 1)

-- the seat of this arbitrator has what its records amount to, each entry from an event of its own, and runs as the rules say
pub record IsSeat (w : RuledWorld fabric) (events arbiter : ℕ) (s : ConfiguredArbiter) : Type 0 where
  pub running : state_where s.runs s.arbiter ≡ at arbiter w.arbiters
  pub kept : s.arbiter ≡ restored arbiter (kept_of w (arbiter_actor arbiter))
  pub few : entries s.arbiter ≤ events
