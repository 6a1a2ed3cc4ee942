-- What a caller hands in is what the rules read, and what a call does with it is the manager's part of a node's rows.
use Rattle.std.specs.Prelude.{◌≡◌, ℕ, true, List, map, is_some}
use Rattle.fabric_terms.specs.declared.message.Message.{Message}
use Rattle.failover_units.specs.Units.{Table}
use Rattle.replica_place.specs.declared.load.NodeLoad.{NodeLoad}
use Rattle.ring_rules.specs.Rings.{Ring}
use Rattle.ring_rules.specs.Up.{is_up, long_ago}
use Rattle.unit_rules.specs.Loads.{Site, loads}
use Rattle.unit_rules.specs.Steps.{Failover, by_manager, frame_row}
use Rattle.reconfig_phases.specs.Answers.{answered_unit}
use Rattle.unit_manager.specs.Managers.{loaded, manager_received}

-- a configured node, and whether it is up since a reading
abbrev pub unloaded_at : ℕ → Ring → ℕ × ℕ → NodeLoad
unloaded_at since r n = record { node = n.0; domain = n.1; up = is_up since r n.0; load = 0 }

-- all configured nodes at this reading, without their loads
abbrev pub unloaded : Site → ℕ → Ring → List NodeLoad
unloaded c now r = map (unloaded_at (long_ago now c.ring.lease) r) c.domains

abbrev pub LoadsAreTheRules : Type 0
LoadsAreTheRules = (c : Site) (now : ℕ) (r : Ring) (units : Table) → loaded units (unloaded c now r) ≡ loads c now r units

-- where a frame is an answer, its row is what the manager receives
abbrev pub AnswersAreTheRules : Type 0
AnswersAreTheRules =
    (c : Site) (now : ℕ) (r : Ring) (m : Message) (s : Failover) → is_some (answered_unit m.body) ≡ true
    → frame_row c now r m.from m.body s ≡ by_manager s (manager_received (loads c now r s.managed.units) m s.managed)
