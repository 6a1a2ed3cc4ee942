-- What the policy remembers.
use Rattle.std.specs.Prelude.{ℕ, false, not, ◌==◌, List, Option, None, filter, map}
use Rattle.fabric_terms.specs.declared.config.FabricConfig.{FabricConfig}
use Rattle.fabric_terms.specs.declared.config.NodeEntry.{NodeEntry}
use Rattle.service_file.specs.declared.settings.Declared.{Declared}
use Rattle.service_file.specs.declared.settings.ServiceSettings.{ServiceSettings}
use Rattle.fabric_steward.specs.declared.node_watch.NodeWatch.{NodeWatch}
use Rattle.fabric_steward.specs.declared.roll_call.RollCall.TheVariants.{NotBegun}
use Rattle.fabric_steward.specs.declared.unit_watch.UnitWatch.{UnitWatch}
use Rattle.fabric_steward.specs.Times.{first_pause}

pub record Policy : Type 0 where
  -- this node, the configured lease, and how long a cause of a heal must last
  pub me : ℕ
  pub lease : ℕ
  pub heal_after : ℕ
  -- the other nodes to join, the place of the next one, when it is due, and the pause after it
  pub joins : List ℕ
  pub turn : ℕ
  pub join_due : ℕ
  pub join_pause : ℕ
  -- the configured nodes
  pub nodes : List NodeWatch
  -- when the manager was looked for last
  pub manager_asked : Option ℕ
  -- since when this node manages, if it does
  pub manages_since : Option ℕ
  -- the declared partitions
  pub units : List UnitWatch

abbrev pub node_watched : NodeEntry → NodeWatch
node_watched n = record { node = n.node; point = n.point; domain = n.domain; asked = None; greeted = None }

abbrev pub unit_watched : (lease : ℕ) → Declared → UnitWatch
unit_watched lease d = record {
  partition = d.partition;
  replicas = d.replicas;
  learnt = false;
  missing = false;
  pause = first_pause lease;
  commanded = None;
  deed = None;
  served_by = None;
  down = None;
  few = None;
  roll = NotBegun;
  missed = None;
}

-- nothing has happened yet
abbrev pub fresh_policy : FabricConfig → ServiceSettings → (me : ℕ) → Policy
fresh_policy c s me = record {
  me = me;
  lease = c.lease;
  heal_after = s.heal_after;
  joins = filter (λ n. not (n == me)) s.join;
  turn = 0;
  join_due = 0;
  join_pause = first_pause c.lease;
  nodes = map node_watched c.nodes;
  manager_asked = None;
  manages_since = None;
  units = map (unit_watched c.lease) s.partitions;
}
