use Rattle.std.proofs.Common.{List, []}
use Rattle.fabric_turns.specs.Moves.{at_place}
use Rattle.serve_rules.specs.Events.{Event}
use Rattle.serve_turns.proofs.datagrams.hear.Given as goal
use Rattle.serve_turns.specs.Live.{At, Beginning, around}
use Rattle.serve_turns.specs.Steps.{CanGoOn}
use Rattle.turn_rules.specs.Order.{Busy, hearing}

abbrev pub invariant-loop-heard : goal.invariant-loop-heard
invariant-loop-heard g l = record {
  done : (o : Beginning) (es : List Event) → At l.service.plan o (around (g.O.Outside.told l.fn.outside) (g.C.Clients.told l.fn.audience.clients) (g.P.Policy.advised l.fn.audience.policy)) l.fn.live es (at_place l.turn 0 (Busy [] 0))
      → (now : List Event) × At l.service.plan o (around (g.O.Outside.told l.outside) (g.C.Clients.told l.audience.clients) (g.P.Policy.advised l.audience.policy)) l.live now (hearing l.service.plan l.turn 0 l._heard);
  can : CanGoOn l.service.plan l.live (g.O.Outside.told l.outside);
}
