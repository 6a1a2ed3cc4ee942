use Rattle.std.proofs.Common.{sym, ◌∙◌}
use Rattle.serve_turns.proofs.Quiet.{watch_of_other, watch_of_parent}
use Rattle.serve_turns.proofs.answers.take_watch.Goals as goal
use Rattle.serve_turns.specs.Asking.{watch_request}

pub returns-then-is_parent-clause-done : goal.returns-then-is_parent-clause-done
returns-then-is_parent-clause-done g c = λ told p line is.
    let plan = c.args.service.now.plan in
    c.refuse_line.ensures.done plan told p line
    (is ∙ watch_of_parent plan c.args.live.now.sessions c.args.asker.client c.args.asker.tag (watch_request c.args.all) (sym c.is_parent.ensures ∙ c.if-is_parent.true))

pub returns-else-is_parent-clause-done : goal.returns-else-is_parent-clause-done
returns-else-is_parent-clause-done g c = λ told p line is.
    let plan = c.args.service.now.plan in
    c.find_place.ensures.done plan told p line
    (is ∙ watch_of_other plan c.args.live.now.sessions c.args.asker.client c.args.asker.tag (watch_request c.args.all) (sym c.is_parent.ensures ∙ c.if-is_parent.false))
