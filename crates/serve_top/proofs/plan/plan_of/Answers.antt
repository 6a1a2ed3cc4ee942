use Rattle.std.proofs.Common.{sym}
use Rattle.serve_top.proofs.Planning.{served_by}
use Rattle.serve_top.proofs.plan.plan_of.Goals as goal

pub returns-in-Ok-clause-service : goal.returns-in-Ok-clause-service
returns-in-Ok-clause-service c =
    served_by c.new-in-Ok.result c.args.config c.args.whole c.args.actor c.in-Some.at.now c.in-Ok.actors.items c.new.result c.new-in-Ok.ensures c.in-Ok.ensures c.new.ensures c.requires (sym c.in-Some.ensures)
