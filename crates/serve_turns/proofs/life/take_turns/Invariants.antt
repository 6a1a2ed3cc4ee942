use Rattle.std.proofs.Common.{◌+◌, List}
use Rattle.serve_rules.specs.Events.{Event}
use Rattle.serve_turns.proofs.life.take_turns.Given as goal
use Rattle.serve_turns.specs.Live.{At, Beginning, around}
use Rattle.serve_turns.specs.Steps.{CanGoOn}
use Rattle.turn_rules.specs.Order.{arrive}

abbrev pub invariant-loop-number : goal.invariant-loop-number
invariant-loop-number g l = record {
  done : (o : Beginning) (es : List Event) → At l.service.plan o (around (g.O.Outside.told l.fn.outside) (g.C.Clients.told l.fn.audience.clients) (g.P.Policy.advised l.fn.audience.policy)) l.fn.live es (arrive l.service.plan 1 0)
      → (now : List Event) × At l.service.plan o (around (g.O.Outside.told l.outside) (g.C.Clients.told l.audience.clients) (g.P.Policy.advised l.audience.policy)) l.live now (arrive l.service.plan (l.number + 1) 0);
  can : CanGoOn l.service.plan l.live (g.O.Outside.told l.outside);
}
