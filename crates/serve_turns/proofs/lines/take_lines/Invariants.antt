use Rattle.std.proofs.Common.{[]}
use Rattle.fabric_turns.specs.Moves.{at_place}
use Rattle.serve_turns.proofs.lines.take_lines.Given as goal
use Rattle.serve_turns.specs.Live.{around}
use Rattle.serve_turns.specs.Moves.{Moves, went_well}
use Rattle.serve_turns.specs.Steps.{CanGoOn}
use Rattle.turn_rules.specs.Order.{Busy}

abbrev pub invariant-loop-taken : goal.invariant-loop-taken
invariant-loop-taken g l = record {
  done : Moves l.service.plan (around (g.O.Outside.told l.fn.outside) (g.C.Clients.told l.fn.audience.clients) (g.P.Policy.advised l.fn.audience.policy)) l.fn.live (at_place l.turn 0 (Busy [] 0))
      (around (g.O.Outside.told l.outside) (g.C.Clients.told l.audience.clients) (g.P.Policy.advised l.audience.policy)) l.live (at_place l.turn 0 (Busy [] 0)) went_well;
  can : CanGoOn l.service.plan l.live (g.O.Outside.told l.outside);
}
