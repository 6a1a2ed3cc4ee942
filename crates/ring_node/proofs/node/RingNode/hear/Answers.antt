use Rattle.std.proofs.Common.{◌≡◌, [], sym, ap}
use Rattle.ring_node.specs.Nodes.{Step}
use Rattle.ring_node.proofs.Come.{may_hear}
use Rattle.ring_node.proofs.node.RingNode.hear.Goals as goal

pub hear_frame-requires-clause-frame : goal.hear_frame-requires-clause-frame
hear_frame-requires-clause-frame c =
    let e : c.hear_sender.new.self.settings ≡ c.args.self.now.settings = ap (λ (s : Step). s.settings) (c.hear_sender.ensures [] []) in
    rw e (may_hear c.args.self.now.settings c.args.self.now.ring c.args.message.now c.requires.frame (sym c.if-passes.ensures))
