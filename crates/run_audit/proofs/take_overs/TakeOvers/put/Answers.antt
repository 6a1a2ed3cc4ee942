use Rattle.run_audit.specs.Owners.{instance_of}
use Rattle.run_audit.proofs.Replicas.{on_ok}
use Rattle.run_audit.proofs.TakenOver.{taken-put}
use Rattle.run_audit.proofs.take_overs.TakeOvers.put.Goals as goal

pub returns-clause-put : goal.returns-clause-put
returns-clause-put c = λ v.
    taken-put c.args.victim v c.new.result _ _ c.new.ensures ((on_ok c.insert-kept.result _ (c.insert-kept.ensures.succeeds c.requires) c.insert-kept.ensures.updates).0 (instance_of v))
