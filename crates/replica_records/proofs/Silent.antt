-- What a manager does is not recorded.
use Rattle.std.specs.Prelude.{◌≡◌, ℕ, Bool, List, []}
use Rattle.ring_points.specs.declared.unit.Epoch.{Epoch}
use Rattle.fabric_terms.specs.declared.message.Body.{Body}
use Rattle.replica_place.specs.declared.load.NodeLoad.{NodeLoad}
use Rattle.unit_rules.specs.declared.reconfig.Kind.{Kind}
use Rattle.unit_rules.specs.Deeds.{Deed, records_of}
use Rattle.unit_rules.specs.Manager.{Managed, manager_answered, reconfig_commanded}
use Rattle.unit_rules.specs.Questions.{reconfig_fired}
use Rattle.unit_rules.specs.Reconfigs.{Reconfig}
use Rattle.replica_records.proofs.ManagerDeeds.{answered_managed, commanded_managed, fires_managed, managed_silent}

-- the deeds record nothing
abbrev pub Silent : List Deed → Type 0
Silent ds = records_of ds ≡ []

pub answered_silent : (nodes : List NodeLoad) (actor q : ℕ) (e : Epoch) (b : Body) (s : Managed) → Silent (manager_answered nodes actor q e b s).deeds
answered_silent nodes actor q e b s = managed_silent (manager_answered nodes actor q e b s).deeds (answered_managed nodes actor q e b s)

pub commanded_silent : (is_manager : Bool) (k q : ℕ) (kind : Kind) (s : Managed) → Silent (reconfig_commanded is_manager k q kind s).deeds
commanded_silent is_manager k q kind s = managed_silent (reconfig_commanded is_manager k q kind s).deeds (commanded_managed is_manager k q kind s)

-- what it asks again is not recorded either
pub asked_silent : (r : Reconfig) → Silent (reconfig_fired r)
asked_silent r = managed_silent (reconfig_fired r) (fires_managed r)
