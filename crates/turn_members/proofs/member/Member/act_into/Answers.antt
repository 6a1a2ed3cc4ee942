use Rattle.std.proofs.Common.{ap, sym, ◌∙◌}
use Rattle.std.specs.Box.{with_value}
use Rattle.node_core.specs.Nodes.{Core}
use Rattle.turn_members.proofs.member.Member.act_into.Goals as goal
use Rattle.turn_members.specs.declared.member.Member.TheVariants as running

pub returns-in-Err-clause-refused : goal.returns-in-Err-clause-refused
returns-in-Err-clause-refused c =
    ap (λ (v : Core). running.Node (with_value c.in-Node.core v)) (c.in-Err.ensures.refused ∙ c.deref_mut.ensures.value) ∙ sym c.in-Node.is
