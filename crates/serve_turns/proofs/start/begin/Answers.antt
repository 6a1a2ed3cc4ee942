use Rattle.std.proofs.Common.{None, sym, ◌∙◌}
use Rattle.serve_turns.proofs.Begun.{arbiter_starts}
use Rattle.serve_turns.proofs.start.begin.Goals as goal

pub returns-else-is_node-clause-done : goal.returns-else-is_node-clause-done
returns-else-is_node-clause-done g c = λ records a h is t. (
  None,
  c.join.ensures.done records a h _ _ is
      (arbiter_starts c.args.service.now.plan records a _ c.args.run.now h (sym c.is_node.ensures ∙ c.if-is_node.false) c.requires.service.alone c.requires.nobody t),
)
