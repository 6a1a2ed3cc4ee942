use Rattle.std.proofs.Common.{None}
use Rattle.std.proofs.lemmas.Result.{err_from_is_err_and}
use Rattle.serve_rules.proofs.Reading.{line_long}
use Rattle.serve_turns.proofs.Quiet.{at_nothing}
use Rattle.serve_turns.proofs.lines.take_one.Goals as goal
use Rattle.serve_turns.specs.Live.{around}

pub returns-in-Quiet-clause-done : goal.returns-in-Quiet-clause-done
returns-in-Quiet-clause-done g c = λ o es at.
    (es, at_nothing c.args.service.now.plan o (around (g.O.Outside.told c.args.outside.now) (g.C.Clients.told c.next.new.self) (g.P.Policy.advised c.args.audience.now.policy)) (g.C.Clients.told c.args.audience.now.clients) c.args.live.now es _ at c.in-Quiet.ensures.asks)

pub returns-in-Gone-clause-done : goal.returns-in-Gone-clause-done
returns-in-Gone-clause-done g c = λ o es at.
    c.forget.ensures.done c.args.service.now.plan (around (g.O.Outside.told c.args.outside.now) (g.C.Clients.told c.next.new.self) (g.P.Policy.advised c.args.audience.now.policy)) _ o es (g.C.Clients.told c.args.audience.now.clients) at c.in-Gone.ensures.asks

pub returns-in-TooLong-clause-done : goal.returns-in-TooLong-clause-done
returns-in-TooLong-clause-done g c = λ o es at.
    c.refuse_line.ensures.done c.args.service.now.plan (g.O.Outside.told c.args.outside.now) _ None (line_long c.args.service.now.plan c.args.live.now.sessions c.in-TooLong.client) o es (g.C.Clients.told c.args.audience.now.clients) at c.in-TooLong.ensures.asks

pub returns-in_ok-take_line-in-Line-clause-done : goal.returns-in_ok-take_line-in-Line-clause-done
returns-in_ok-take_line-in-Line-clause-done g c = λ o es at.
    c.in_ok-take_line-in-Line.ensures.done o es (g.C.Clients.told c.args.audience.now.clients) at c.in-Line.ensures.asks

pub returns-in_err-take_line-in-Line-clause-done : goal.returns-in_err-take_line-in-Line-clause-done
returns-in_err-take_line-in-Line-clause-done g c =
    let p = err_from_is_err_and c.from_residual.result c.from_residual.ensures.1 in
    λ o es at. rw (p.1, p.2) (c.in_err-take_line-in-Line.ensures.done o es (g.C.Clients.told c.args.audience.now.clients) at c.in-Line.ensures.asks)
