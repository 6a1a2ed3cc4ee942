-- Of each row of a manager: it reports no commit, and answers nothing about names.
use Rattle.std.specs.Prelude.{ℕ, Bool, List, [], ◌∷◌}
use Rattle.ring_points.specs.declared.unit.Epoch.{Epoch}
use Rattle.fabric_terms.specs.declared.message.Body.{Body}
use Rattle.fabric_terms.specs.declared.report.Report.{Report}
use Rattle.fabric_terms.specs.declared.report.Report.TheVariants as report
use Rattle.replica_place.specs.declared.load.NodeLoad.{NodeLoad}
use Rattle.unit_rules.specs.declared.reconfig.Kind.{Kind}
use Rattle.unit_rules.specs.Deeds.{Deed, Keep, Send, Tell}
use Rattle.unit_rules.specs.Manager.{Managed, manager_answered, reconfig_commanded}
use Rattle.unit_rules.specs.Questions.{reconfig_fired}
use Rattle.unit_rules.specs.Reconfigs.{Reconfig}
use Rattle.replica_records.proofs.ManagerDeeds.{IsEnding, Manages, answered_managed, commanded_managed, fires_managed}
use Rattle.epoch_safety.proofs.Committing.{ArePlain, IsPlain}

ends_plain : (r : Report) → IsEnding r → IsPlain r
ends_plain (report.Committed p e last) h = absurd h
ends_plain (report.Resolved p name value) h = absurd h
ends_plain (report.Unresolved p name) h = absurd h
ends_plain (report.NameList p names) h = absurd h
ends_plain r h = tt

managed_plain : (ds : List Deed) → Manages ds → ArePlain ds
managed_plain [] h = tt
managed_plain (Keep r ∷ ds) h = absurd h
managed_plain (Send to b ∷ ds) h = managed_plain ds h
managed_plain (Tell r ∷ ds) h = (ends_plain r h.0, managed_plain ds h.1)

pub answered_plain : (nodes : List NodeLoad) (actor q : ℕ) (e : Epoch) (b : Body) (s : Managed) → ArePlain (manager_answered nodes actor q e b s).deeds
answered_plain nodes actor q e b s = managed_plain (manager_answered nodes actor q e b s).deeds (answered_managed nodes actor q e b s)

pub commanded_plain : (is_manager : Bool) (k q : ℕ) (kind : Kind) (s : Managed) → ArePlain (reconfig_commanded is_manager k q kind s).deeds
commanded_plain is_manager k q kind s = managed_plain (reconfig_commanded is_manager k q kind s).deeds (commanded_managed is_manager k q kind s)

pub fires_plain : (r : Reconfig) → ArePlain (reconfig_fired r)
fires_plain r = managed_plain (reconfig_fired r) (fires_managed r)
