use Rattle.std.proofs.Common.{[], ap, refl, sym}
use Rattle.link_core.specs.Links.{Links}
use Rattle.link_core.proofs.Deeds.{few_arbiters, frame_heard}
use Rattle.link_core.proofs.Silent.{silent_row}
use Rattle.link_core.proofs.links.Links16.acknowledged.Goals as goal

pub returns : goal.returns
returns c = λ now a sent.
    frame_heard now a c.args.message.now c.args.self.now sent _
    (few_arbiters c.args.self.now c.self.inside.arbitrators c.self.invariant.sound.arbitrators (ap (λ (k : Links). k.arbitrators) (sym c.self.view_is)))
    (rw c.in-RenewAck.is (silent_row c.hear_ack.new.self _ sent [] (rw c.new.ensures at c.hear_ack.ensures) refl))
