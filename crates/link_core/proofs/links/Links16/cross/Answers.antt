use Rattle.link_core.proofs.Freed.{cross_spent}
use Rattle.link_core.proofs.links.Links16.cross.Goals as goal

pub returns-then-is_spent : goal.returns-then-is_spent
returns-then-is_spent c = cross_spent c.args.self.now c.args.i _ c.args.out.now c.one_note.result c.requires.inside c.if-is_spent.ensures c.one_note.ensures
