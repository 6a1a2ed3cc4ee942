-- Whom a phase asks what, and who has not answered yet.
use Rattle.std.specs.Prelude.{ℕ, ◌-◌, Bool, not, List, [], ◌∷◌, map, filter}
use Rattle.ring_points.specs.Whos.{node_instance, arbiter_actor}
use Rattle.arbiter_quorum.specs.Tallies.{has_answered}
use Rattle.arbiter_quorum.specs.Votes.{VoteTally}
use Rattle.fabric_terms.specs.declared.message.Body.{Body}
use Rattle.fabric_terms.specs.declared.message.Body.TheVariants as body
use Rattle.unit_rules.specs.Deeds.{Deed, send_all}
use Rattle.unit_rules.specs.Polls.{arbiters_to, waiting}
use Rattle.unit_rules.specs.Reconfigs.{Reconfig, Prepare, Phase0, Phase1, Decide, Phase2, Phase3, Phase4}

-- the arbitrator of this actor's number has voted
abbrev pub has_voted : VoteTally → ℕ → Bool
has_voted votes actor = has_answered (actor - arbiter_actor 0) votes.answers

-- the actors that the phase asks and that have not answered, rising
abbrev pub awaited : Reconfig → List ℕ
awaited (Prepare p) = waiting p.poll
awaited (Phase0 p) = p.old.primary ∷ []
awaited (Phase1 p) = waiting p.poll
awaited (Decide p) = filter (λ actor. not (has_voted p.votes actor)) (arbiters_to p.votes.arbitrators)
awaited (Phase2 p) = waiting p.poll
awaited (Phase3 p) = waiting p.poll
awaited (Phase4 p) = waiting p.poll

abbrev pub question : Reconfig → Body
question (Prepare p) = body.Prepare p.task.partition p.task.epoch
question (Phase0 p) = body.Promise p.task.partition p.task.epoch
question (Phase1 p) = body.Promise p.task.partition p.task.epoch
question (Decide p) = body.Vote p.config
question (Phase2 p) = body.Sync p.task.partition p.task.epoch p.source.origin p.source.last
question (Phase3 p) = body.DoneAsk p.config
question (Phase4 p) = body.Activate p.config

-- the question to these actors, whichever instance runs
abbrev pub asks : Reconfig → List ℕ → List Deed
asks r actors = send_all (map (λ actor. node_instance actor 0) actors) (question r)

-- A firing: the question again, to those that have not answered.
unfoldable pub reconfig_fired : Reconfig → List Deed
reconfig_fired r = asks r (awaited r)
