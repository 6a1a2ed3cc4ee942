use Rattle.std.proofs.Common.{◌+◌, [], rules}
use Rattle.serve_turns.proofs.Living.{at_first, can_start}
use Rattle.serve_turns.proofs.Ordered.{goes_when, told_when}
use Rattle.serve_turns.proofs.life.live_on.Goals as goal
use Rattle.serve_turns.specs.Live.{Around, Beginning, around}
use Rattle.serve_turns.specs.Lives.{beginning, most_turns}
use Rattle.turn_rules.specs.Order.{arrive}

pub start_and_turn-requires-clause-can : goal.start_and_turn-requires-clause-can
start_and_turn-requires-clause-can g c = can_start c.args.service.now.plan c.args.live.now (g.O.Outside.told c.args.outside.now) c.requires.can

pub returns-in-Ok-true : goal.returns-in-Ok-true
returns-in-Ok-true g c = λ records kept.
    let plan = c.args.service.now.plan in
    let a : Around = around (g.O.Outside.told c.args.outside.now) (g.C.Clients.told c.args.audience.now.clients) (g.P.Policy.advised c.args.audience.now.policy) in
    let o : Beginning = beginning records c.args.live.now a in
    let first = at_first plan records (g.O.Outside.told c.args.outside.now) (g.C.Clients.told c.args.audience.now.clients) (g.P.Policy.advised c.args.audience.now.policy) c.args.live.now c.requires.can.fresh in
    told_when plan o _ _ (arrive plan (most_turns + 1) 0) c.in-Ok-true.field-0 (search rules) (c.in-Ok-true.ensures o [] kept first)

pub returns-in-Ok-false : goal.returns-in-Ok-false
returns-in-Ok-false g c = λ records kept.
    let plan = c.args.service.now.plan in
    let a : Around = around (g.O.Outside.told c.args.outside.now) (g.C.Clients.told c.args.audience.now.clients) (g.P.Policy.advised c.args.audience.now.policy) in
    let o : Beginning = beginning records c.args.live.now a in
    let first = at_first plan records (g.O.Outside.told c.args.outside.now) (g.C.Clients.told c.args.audience.now.clients) (g.P.Policy.advised c.args.audience.now.policy) c.args.live.now c.requires.can.fresh in
    goes_when plan o _ _ (arrive plan (most_turns + 1) 0) c.in-Ok-false.field-0 (search rules) (c.in-Ok-false.ensures o [] kept first)

pub returns-in-Err : goal.returns-in-Err
returns-in-Err g c = λ records kept.
    let plan = c.args.service.now.plan in
    let a : Around = around (g.O.Outside.told c.args.outside.now) (g.C.Clients.told c.args.audience.now.clients) (g.P.Policy.advised c.args.audience.now.policy) in
    let o : Beginning = beginning records c.args.live.now a in
    let first = at_first plan records (g.O.Outside.told c.args.outside.now) (g.C.Clients.told c.args.audience.now.clients) (g.P.Policy.advised c.args.audience.now.policy) c.args.live.now c.requires.can.fresh in
    record {
      around = around (g.O.Outside.told c.start_and_turn.new.outside) (g.C.Clients.told c.start_and_turn.new.audience.clients) (g.P.Policy.advised c.start_and_turn.new.audience.policy);
      live = c.start_and_turn.new.live;
      ends = c.in-Err.ensures o [] kept first;
      closes = c.close_answers.ensures (g.O.Outside.told c.start_and_turn.new.outside);
    }
