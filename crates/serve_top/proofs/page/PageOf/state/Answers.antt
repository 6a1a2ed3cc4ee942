use Rattle.std.proofs.Common.{ap, ◌∙◌, subst}
use Rattle.std.proofs.lemmas.Result.{IfOk-weaker}
use Rattle.node_core.specs.Nodes.{Core}
use Rattle.ring_node.specs.Nodes.{Node}
use Rattle.status_page.specs.Answers.{node_page}
use Rattle.serve_top.specs.NodeFacts.{AreFacts}
use Rattle.serve_top.specs.Pages.{asked_of}
use Rattle.serve_top.proofs.page.PageOf.state.Goals as goal

-- the facts that were read are those that the page is of
pub returns-in_ok-facts-in-Node : goal.returns-in_ok-facts-in-Node
returns-in_ok-facts-in-Node c =
    let a = asked_of c.args.self.now in
    let core = c.in-Node.core.value in
    let facts = c.in_ok-facts-in-Node.facts in
    let are : AreFacts core.settings core.state a.now a.seen facts =
    subst (λ (n : Core). AreFacts n.settings n.state a.now a.seen facts) c.deref.ensures c.in_ok-facts-in-Node.ensures in
    let phase = c.phase.ensures ∙ (ap (λ (n : Node). n.ring.phase) c.ring.ensures ∙ ap (λ (n : Core). n.state.ring.phase) c.deref-in-Node.ensures) in
    rw c.in-Node.is
    (IfOk-weaker c.node_answer.result _ _
    (λ text is. (facts, are, is ∙ (ap (λ p. node_page p facts c.door.result) phase ∙ ap (λ d. node_page core.state.ring.phase facts d) c.door.ensures)))
    c.node_answer.ensures)
