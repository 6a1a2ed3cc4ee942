use Rattle.std.proofs.Common.{ap, ◌∙◌}
use Rattle.unit_manager.specs.Managers.{reconfigs_of}
use Rattle.unit_manager.proofs.Places.{taken_out}
use Rattle.unit_manager.proofs.entries.take_out.Goals as goal

pub returns : goal.returns
returns c =
    ap reconfigs_of c.remove.ensures.items
    ∙ taken_out c.args.partition c.args.reconfigs.now.items c.args.i c.requires.place c.requires.inside c.requires.rise
