use Rattle.serve_lives.proofs.Going.{IsUnderWay}
use Rattle.serve_lives.proofs.serving.serve.Given as goal
use Rattle.serve_turns.specs.Live.{around}

abbrev pub invariant-loop-life : goal.invariant-loop-life
invariant-loop-life g l =
    IsUnderWay l.service.plan l.fn.sessions (around (g.O.Outside.told l.fn.outside) (g.C.Clients.told l.fn.audience.clients) (g.P.Policy.advised l.fn.audience.policy)) l._life
    l.standing (around (g.O.Outside.told l.outside) (g.C.Clients.told l.audience.clients) (g.P.Policy.advised l.audience.policy))
