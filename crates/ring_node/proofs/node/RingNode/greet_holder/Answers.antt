use Rattle.std.proofs.Common.{◌∙◌, ◌++◌, ◌∷◌, [], None, sym, ap}
use Rattle.fabric_terms.specs.declared.report.Report.TheVariants.{Found}
use Rattle.ring_node.specs.Nodes.{Node, step}
use Rattle.ring_node.proofs.Around.{found_done, found_none}
use Rattle.ring_node.proofs.node.RingNode.greet_holder.Goals as goal

pub returns-in-Ok-clause-ok : goal.returns-in-Ok-clause-ok
returns-in-Ok-clause-ok c =
    let made = c.args.told.now ++ Found c.args.key c.args.holder ∷ [] in
    ap (λ (n : Node). step (record n { ring = record n.ring { target = None } }) c.greet_plainly.new.out c.push.new.self) c.self.view_is
    ∙ rw c.push.ensures (found_done c.args.now c.args.key c.args.holder c.args.self.now c.greet_plainly.new.self c.args.out.now c.greet_plainly.new.out c.args.told.now (sym c.if-not-seeks_own.ensures) (c.in-Ok.ensures.ok made))

pub returns-in-Err-clause-err : goal.returns-in-Err-clause-err
returns-in-Err-clause-err c =
    found_none c.args.now c.args.key c.args.holder c.args.self.now c.args.out.now c.args.told.now (sym c.if-not-seeks_own.ensures) (c.in-Err.ensures.err (c.args.told.now ++ Found c.args.key c.args.holder ∷ []))
