use Rattle.std.proofs.Common.{◌∙◌, subst, sym, ap}
use Rattle.ring_node.specs.Nodes.{IsPatched, Node, by, node_of, step}
use Rattle.ring_node.proofs.Parted.{on_err, on_ok, part_done, part_none, part_patched, parted}
use Rattle.ring_rules.specs.Commands.{part_commanded}
use Rattle.ring_rules.specs.Deeds.{has_numbers}
use Rattle.ring_node.proofs.node.RingNode.part.Goals as goal

pub returns-in-Some-clause-ok : goal.returns-in-Some-clause-ok
returns-in-Some-clause-ok c =
    let i = c.self.inside in
    let p = sym c.in-Some.ensures.place in
    let d = parted c.args.node i.links c.part.new.self c.in-Some.i c.args.out.now c.part.new.out p c.in-Ok.ensures.outcome in
    on_ok c.undo.result _ _
    (λ e. part_done c.args.node c.in-Some.i i.links c.part.new.self i.token i.routes i.phase i.target i.near c.undo.new.self c.args.out.now c.part.new.out c.args.told.now p d e
    ∙ ap (λ (n : Node). by (λ s. part_commanded c.args.node) (step n c.args.out.now c.args.told.now)) c.self.view_is)
    c.undo.ensures.token

pub returns-in-Some-clause-err : goal.returns-in-Some-clause-err
returns-in-Some-clause-err c =
    let i = c.self.inside in
    let p = sym c.in-Some.ensures.place in
    let d = parted c.args.node i.links c.part.new.self c.in-Some.i c.args.out.now c.part.new.out p c.in-Ok.ensures.outcome in
    on_err c.undo.result _ _
    (λ e. sym (ap (λ (n : Node). has_numbers (part_commanded c.args.node (step n c.args.out.now c.args.told.now).work).ring) c.self.view_is)
    ∙ part_none c.args.node c.in-Some.i i.links c.part.new.self i.token i.routes i.phase i.target i.near c.args.out.now c.part.new.out c.args.told.now p d e)
    c.undo.ensures.spent

pub returns-in-Some-clause-kept : goal.returns-in-Some-clause-kept
returns-in-Some-clause-kept c =
    let i = c.self.inside in
    let p = sym c.in-Some.ensures.place in
    let d = parted c.args.node i.links c.part.new.self c.in-Some.i c.args.out.now c.part.new.out p c.in-Ok.ensures.outcome in
    on_err c.undo.result _ _
    (λ e.
    let mid = node_of c.part.new.self i.token i.routes i.phase i.target i.near in
    let first : Node → Type 0 = λ n. IsPatched (step n c.args.out.now c.args.told.now) (step mid c.part.new.out c.args.told.now) in
    let last : Node → Type 0 = λ n. IsPatched (step c.args.self.now c.args.out.now c.args.told.now) (step n c.part.new.out c.args.told.now) in
    subst last (sym e) (subst first c.self.view_is (part_patched c.in-Some.i i.links c.part.new.self i.token i.routes i.phase i.target i.near c.args.out.now c.part.new.out c.args.told.now d)))
    c.undo.ensures.kept
