use Rattle.fabric_terms.specs.declared.event.Event.TheVariants.{Fire}
use Rattle.unit_rules.specs.Ruled.{ruled}
use Rattle.ring_world.proofs.HistoryAnswers.{answered}
use Rattle.ring_world.proofs.world.World.fire.Goals as goal

pub returns : goal.returns
returns c k h s =
    answered c.args.self.now c.take_fire.new.self k h c.args.line (Fire c.args.node) c.take_fire.result s c.requires.fits
    (c.take_fire.ensures (ruled k h) s.keeps.state)
