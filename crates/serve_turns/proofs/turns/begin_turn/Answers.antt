use Rattle.std.proofs.Common.{[], subst, sym}
use Rattle.edge_io.specs.Told.{Told}
use Rattle.fabric_turns.specs.Moves.{at_place}
use Rattle.serve_turns.proofs.turns.begin_turn.Goals as goal
use Rattle.serve_turns.specs.Live.{around}
use Rattle.serve_turns.specs.Moves.{Moves}
use Rattle.serve_turns.specs.Steps.{CanGoOn}
use Rattle.turn_rules.specs.Order.{Busy, Turning}

pub returns-clause-done : goal.returns-clause-done
returns-clause-done g c = λ plan turn can.
    let clients = g.C.Clients.told c.args.audience.now.clients in
    let advised = g.P.Policy.advised c.args.audience.now.policy in
    let d = around (g.O.Outside.told c.read_turn.new.outside) (g.C.Clients.told c.read_turn.new.audience.clients) (g.P.Policy.advised c.read_turn.new.audience.policy) in
    subst (λ (t : Told). Moves plan (around t clients advised) c.args.live.now (at_place turn 0 Turning) d c.read_turn.new.live (at_place turn 0 (Busy [] 0)) c.read_turn.result) c.gather.ensures
    (c.read_turn.ensures.done plan turn (subst (λ (t : Told). CanGoOn plan c.args.live.now t) (sym c.gather.ensures) can))

pub returns-clause-can : goal.returns-clause-can
returns-clause-can g c = λ plan can. c.read_turn.ensures.can plan (subst (λ (t : Told). CanGoOn plan c.args.live.now t) (sym c.gather.ensures) can)
