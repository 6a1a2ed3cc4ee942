-- Which bodies answer a manager.
use Rattle.std.specs.Prelude.{ℕ, List, Option, Some, None}
use Rattle.ring_points.specs.declared.unit.Epoch.{Epoch}
use Rattle.fabric_terms.specs.declared.message.Body.{Body}
use Rattle.fabric_terms.specs.declared.message.Body.TheVariants as body
use Rattle.fabric_terms.specs.declared.message.Message.{Message}
use Rattle.replica_place.specs.declared.load.NodeLoad.{NodeLoad}
use Rattle.unit_rules.specs.Deeds.{Acted}
use Rattle.unit_rules.specs.Reconfigs.{Reconfig, Step}
use Rattle.unit_rules.specs.Transitions.{stays, answer_received}

-- the partition and the epoch to which a body answers
abbrev pub answered_unit : Body → Option (ℕ × Epoch)
answered_unit (body.Prepared partition epoch old) = Some (partition, epoch)
answered_unit (body.NoPrepare partition epoch kept) = Some (partition, epoch)
answered_unit (body.Voted partition epoch kept) = Some (partition, epoch)
answered_unit (body.NoVote partition epoch kept) = Some (partition, epoch)
answered_unit (body.DoneKept partition epoch) = Some (partition, epoch)
answered_unit (body.NoDone partition epoch kept) = Some (partition, epoch)
answered_unit (body.Promised partition epoch at last) = Some (partition, epoch)
answered_unit (body.Adopted partition epoch last) = Some (partition, epoch)
answered_unit (body.Activated partition epoch) = Some (partition, epoch)
answered_unit (body.Older partition epoch kept) = Some (partition, epoch)
answered_unit _ = None

-- another body changes nothing
abbrev pub received_in : List NodeLoad → ℕ → Body → Reconfig → Option (ℕ × Epoch) → Acted Step
received_in nodes actor b r None = stays r
received_in nodes actor b r (Some u) = answer_received nodes actor u.1 b r

abbrev pub received : List NodeLoad → Message → Reconfig → Acted Step
received nodes m r = received_in nodes m.from.actor m.body r (answered_unit m.body)
