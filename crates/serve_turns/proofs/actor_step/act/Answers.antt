use Rattle.std.proofs.Common.{subst, sym}
use Rattle.edge_io.specs.Told.{Told}
use Rattle.fabric_turns.specs.Runs.{IsReady, MeetsBy}
use Rattle.serve_rules.specs.Services.{life_of}
use Rattle.serve_turns.proofs.actor_step.act.Goals as goal
use Rattle.turn_rules.specs.Order.{GoesServed}

pub act_seen-requires-clause-ready : goal.act_seen-requires-clause-ready
act_seen-requires-clause-ready g c = subst (λ (t : Told). IsReady c.args.service.now.plan c.args.run.now t) (sym c.see.ensures) c.requires.ready

pub returns-clause-done : goal.returns-clause-done
returns-clause-done g c = λ kept a h x p m is.
    c.act_seen.ensures.done kept a h x p (subst (λ (t : Told). MeetsBy GoesServed (life_of c.args.service.now.plan kept) a t c.args.run.now h x p) (sym c.see.ensures) m) is
