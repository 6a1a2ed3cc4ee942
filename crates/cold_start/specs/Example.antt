-- Why nobody may run when a new life begins: a run in which the premise is broken, and two instances hold one point.
use Rattle.std.specs.Prelude.{ℕ, [], ◌∷◌, Some}
use Rattle.fabric_terms.specs.declared.config.FabricConfig.{FabricConfig}
use Rattle.fabric_terms.specs.declared.config.NodeEntry.{NodeEntry}
use Rattle.fabric_terms.specs.declared.event.Event.TheVariants.{Start}
use Rattle.fabric_terms.specs.Runs.{Holds}
use Rattle.ring_points.specs.Whos.{node_instance}
use Rattle.world_rules.specs.Nothing.{nothing}
use Rattle.cold_start.specs.Lives.{Again, Comes, Lives, lives_run}

abbrev pub entry : ℕ → ℕ → NodeEntry
entry node point = record { node = node; point = record { 0 = point }; domain = 1; at = []; longest = 3000 }

-- two nodes, at point 0 and half way round, and one arbitrator
abbrev pub pair : FabricConfig
pair = record {
  first = 1;
  near = 0;
  rounds = 1;
  lease = 3000;
  answer = 1000;
  bound = record { d = 10; grain = 1 };
  nodes = entry 1 0 ∷ entry 2 9223372036854775808 ∷ [];
  arbiters = (1, []) ∷ [];
}

-- node 1 starts and runs on; all the same a new life begins, and node 2 starts with the whole ring
abbrev pub broken : Lives
broken = (4, Comes (Start 2 (Some 0))) ∷ (3, Again (node_instance 2 1)) ∷ (2, Comes (Start 1 (Some 0))) ∷ []

-- both hold point 0
pub record TwoHold : Type 0 where
  pub one : Holds (lives_run nothing pair broken) (node_instance 1 1) 0
  pub other : Holds (lives_run nothing pair broken) (node_instance 2 1) 0
