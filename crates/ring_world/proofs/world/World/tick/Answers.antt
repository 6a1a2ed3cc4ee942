use Rattle.fabric_terms.specs.declared.event.Event.TheVariants.{Tick}
use Rattle.unit_rules.specs.Ruled.{ruled}
use Rattle.ring_world.proofs.HistoryAnswers.{answered_tick}
use Rattle.ring_world.proofs.world.World.tick.Goals as goal

pub returns-clause-answers : goal.returns-clause-answers
returns-clause-answers c k h line s =
    answered_tick c.args.self.now c.take_tick.new.self k h line (Tick c.args.advance c.args.readings.now) c.take_tick.result s c.requires.fits (c.take_tick.ensures.comes (ruled k h) line s.keeps.state)
