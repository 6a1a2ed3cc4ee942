use Rattle.fabric_terms.specs.declared.event.Event.TheVariants.{Give}
use Rattle.unit_rules.specs.Ruled.{ruled}
use Rattle.ring_world.proofs.HistoryAnswers.{answered}
use Rattle.ring_world.proofs.world.World.give.Goals as goal

pub returns : goal.returns
returns c k h s =
    answered c.args.self.now c.take_give.new.self k h c.args.line (Give c.args.frame) c.take_give.result s c.requires.fits
    (c.take_give.ensures (ruled k h) s.keeps.state)
