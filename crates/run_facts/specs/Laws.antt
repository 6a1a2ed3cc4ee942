-- What the laws of this crate say, of whatever runs above the ring.
use Rattle.std.specs.Prelude.{◌≡◌, ◌↔◌, ℕ, Bool, List, ◌∷◌, ◌++◌, Some}
use Rattle.fabric_terms.specs.declared.config.FabricConfig.{FabricConfig}
use Rattle.fabric_terms.specs.declared.event.Event.{Event}
use Rattle.fabric_terms.specs.declared.record.Record.{Record}
use Rattle.fabric_terms.specs.Places.{has_left}
use Rattle.fabric_terms.specs.Reports.{told}
use Rattle.fabric_terms.specs.Runs.{clocks_of, own_of, reading_of}
use Rattle.join_phases.specs.Phases.{is_left}
use Rattle.ring_rules.specs.Arbiters.{no_table, table_after}
use Rattle.ring_points.specs.declared.who.Who.{Who}
use Rattle.ring_points.specs.Whos.{arbiter_actor, node_instance}
use Rattle.world_rules.specs.Arbiters.{ArbiterState}
use Rattle.fabric_lemmas.specs.Maps.{at}
use Rattle.world_rules.specs.Nodes.{boots_of}
use Rattle.world_rules.specs.Runs.{History, world_after, run_of}
use Rattle.world_rules.specs.Schedules.{Valid}
use Rattle.world_rules.specs.Uppers.{Upper}
use Rattle.world_rules.specs.Worlds.{Running, kept_of}
use Rattle.run_facts.specs.Held.{RunsAt, owned_by}

-- what a running instance told last is what its ring holds
abbrev pub LastOwnIsHeld : Upper → Type 0
LastOwnIsHeld a =
    (c : FabricConfig) (h : History) (node : ℕ) (s : Running a) → at node (world_after a c h).nodes ≡ Some s →
    own_of s.node.ring.me (run_of a c h) ≡ Some (owned_by c s.node.ring)

-- a running instance has told its leave exactly if it has left
abbrev pub LeaveIsTold : Upper → Type 0
LeaveIsTold a =
    (c : FabricConfig) (h : History) (node : ℕ) (s : Running a) → at node (world_after a c h).nodes ≡ Some s →
    has_left s.node.ring.me (told (run_of a c h)) ≡ is_left s.node.ring.phase

-- the clocks are those of the running instances, each with its present reading
abbrev pub ClocksAreOfRunning : Upper → Type 0
ClocksAreOfRunning a =
    (c : FabricConfig) (h : History) (x : Who) (reading : ℕ) →
    (reading_of x (clocks_of (run_of a c h)) ≡ Some reading) ↔ RunsAt (world_after a c h) x reading

-- who runs under a number is the instance of the number of starts that are recorded
abbrev pub InstancesAreCounted : Upper → Type 0
InstancesAreCounted a =
    (c : FabricConfig) (h : History) (node : ℕ) (s : Running a) → at node (world_after a c h).nodes ≡ Some s →
    s.node.ring.me ≡ node_instance node (boots_of (kept_of (world_after a c h) node))

-- synced records only grow at their end
abbrev pub RecordsGrow : Upper → Type 0
RecordsGrow a =
    (c : FabricConfig) (h : History) (e : ℕ × Event) (actor : ℕ) →
    (more : List Record) × (kept_of (world_after a c (e ∷ h)) actor ≡ kept_of (world_after a c h) actor ++ more)

-- a running arbitrator's table is that of its synced records
abbrev pub TableIsKept : Upper → Type 0
TableIsKept a =
    (is_frame : List ℕ → Bool) (c : FabricConfig) (h : History) → Valid a is_frame c h → (arbiter : ℕ) (s : ArbiterState a) →
    at arbiter (world_after a c h).arbiters ≡ Some s → s.table ≡ table_after no_table (kept_of (world_after a c h) (arbiter_actor arbiter))
