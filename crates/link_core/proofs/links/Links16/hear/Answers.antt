use Rattle.std.proofs.Common.{ap, sym}
use Rattle.link_core.specs.Links.{Links}
use Rattle.link_core.proofs.Deeds.{few_arbiters, frame_heard}
use Rattle.link_core.proofs.links.Links16.hear.Goals as goal

pub returns : goal.returns
returns c =
    frame_heard c.args.now c.args.announce.now c.args.message.now c.args.self.now c.args.out.now _
    (few_arbiters c.args.self.now c.self.inside.arbitrators c.self.invariant.sound.arbitrators (ap (λ (k : Links). k.arbitrators) (sym c.self.view_is)))
    c.frame.ensures
