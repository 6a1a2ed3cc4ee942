use Rattle.std.proofs.Common.{sym, ◌∙◌}
use Rattle.serve_rules.proofs.Reading.{names_nobody}
use Rattle.serve_turns.proofs.asked_commands.take_command.Goals as goal

pub returns-then-not-names-clause-done : goal.returns-then-not-names-clause-done
returns-then-not-names-clause-done g c = λ line is.
    let plan = c.args.service.now.plan in
    c.refuse_line.ensures.done plan (g.O.Outside.told c.args.outside.now) _ line
    (is ∙ names_nobody plan c.args.live.now.sessions c.args.asked.asker.tag c.args.asked.command (sym c.names.ensures ∙ c.if-not-names.true))
