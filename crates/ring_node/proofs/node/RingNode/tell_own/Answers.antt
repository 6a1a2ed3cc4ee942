use Rattle.std.proofs.Common.{Bool, ap, sym, ◌∙◌}
use Rattle.ring_node.proofs.Alike.{owned_alike}
use Rattle.ring_node.proofs.node.RingNode.tell_own.Goals as goal

pub returns-then-owns_same-clause-kept : goal.returns-then-owns_same-clause-kept
returns-then-owns_same-clause-kept c =
    ap (λ (b : Bool). record c.args.owned.now { left = b }) c.is_left-owned.ensures.value
    ∙ owned_alike c.args.owned.now c.args.self.now (sym c.owns_same.ensures ∙ c.if-owns_same.true)
