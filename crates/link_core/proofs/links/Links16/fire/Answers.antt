use Rattle.link_core.proofs.Deeds.{slot_was_fired}
use Rattle.link_core.proofs.links.Links16.fire.Goals as goal

pub returns : goal.returns
returns c = slot_was_fired c.args.now c.args.slot c.args.announce.now c.args.self.now c.args.out.now _ c.fired.ensures.arbitrators c.fired.ensures.did
