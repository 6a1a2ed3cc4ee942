use Rattle.std.proofs.Common.{ℕ, List, subst, sym, ap, ◌∙◌}
use Rattle.std.specs.Prelude.{Ok, Err}
use Rattle.std.proofs.lemmas.Result.{err_from_is_err_and}
use Rattle.fabric_terms.specs.declared.event.Event.TheVariants.{Start, Stop, Tick, Fire, Give, Do, Junk}
use Rattle.fabric_terms.specs.Ranges.{Fits}
use Rattle.unit_rules.specs.Ruled.{ruled}
use Rattle.ring_world.proofs.HistoryAnswers.{answered_as, answered_tick_as, ruled_by_some}
use Rattle.ring_world.proofs.world.World.apply.Goals as goal

-- an actor starts

pub start-requires-clause-can : goal.start-requires-clause-can
start-requires-clause-can c = ruled_by_some c.args.self.now c.requires.world

pub start-requires-clause-fits : goal.start-requires-clause-fits
start-requires-clause-fits c = subst Fits c.in-Start.is c.requires.fits

pub returns-in-Start : goal.returns-in-Start
returns-in-Start c k h s =
    answered_as c.args.self.now c.start.new.self k h c.args.line (Start c.in-Start.actor c.in-Start.reading) c.args.event.now c.start.result c.in-Start.is s
    c.requires.fits (c.start.ensures (ruled k h) s.keeps.state)

-- an actor stops

pub stop-requires-clause-can : goal.stop-requires-clause-can
stop-requires-clause-can c = ruled_by_some c.args.self.now c.requires.world

pub stop-requires-clause-fits : goal.stop-requires-clause-fits
stop-requires-clause-fits c = subst Fits c.in-Stop.is c.requires.fits

pub returns-in-Stop : goal.returns-in-Stop
returns-in-Stop c k h s =
    answered_as c.args.self.now c.stop.new.self k h c.args.line (Stop c.in-Stop.actor) c.args.event.now c.stop.result c.in-Stop.is s c.requires.fits
    (c.stop.ensures (ruled k h) s.keeps.state)

-- clocks tick

pub take_tick-requires-clause-can : goal.take_tick-requires-clause-can
take_tick-requires-clause-can c = ruled_by_some c.args.self.now c.requires.world

pub take_tick-requires-clause-fits : goal.take_tick-requires-clause-fits
take_tick-requires-clause-fits c =
    subst (λ (rs : List (ℕ × ℕ)). Fits (Tick c.in-Tick.advance rs)) (sym c.as_slice.ensures) (subst Fits c.in-Tick.is c.requires.fits)

pub returns-in_err-take_tick-in-Tick : goal.returns-in_err-take_tick-in-Tick
returns-in_err-take_tick-in-Tick c k h s =
    let p = err_from_is_err_and c.from_residual.result c.from_residual.ensures.1 in
    rw (p.1, p.2) (
    answered_tick_as c.args.self.now c.take_tick.new.self k h c.args.line (Tick c.in-Tick.advance c.as_slice.result.now) c.args.event.now
    (Err c.in_err-take_tick-in-Tick.field-0.0) (c.in-Tick.is ∙ ap (λ rs. Tick c.in-Tick.advance rs) (sym c.as_slice.ensures)) s c.requires.fits
    (c.in_err-take_tick-in-Tick.ensures.comes (ruled k h) c.args.line s.keeps.state)
    )

pub returns-in_ok-take_tick-in-Tick : goal.returns-in_ok-take_tick-in-Tick
returns-in_ok-take_tick-in-Tick c k h s =
    answered_tick_as c.args.self.now c.take_tick.new.self k h c.args.line (Tick c.in-Tick.advance c.as_slice.result.now) c.args.event.now (Ok tt)
    (c.in-Tick.is ∙ ap (λ rs. Tick c.in-Tick.advance rs) (sym c.as_slice.ensures)) s c.requires.fits
    (c.in_ok-take_tick-in-Tick.ensures.comes (ruled k h) c.args.line s.keeps.state)

-- a node's timer fires

pub take_fire-requires-clause-world : goal.take_fire-requires-clause-world
take_fire-requires-clause-world c = c.requires.world

pub take_fire-requires-clause-fits : goal.take_fire-requires-clause-fits
take_fire-requires-clause-fits c = subst Fits c.in-Fire.is c.requires.fits

pub returns-in-Fire : goal.returns-in-Fire
returns-in-Fire c k h s =
    answered_as c.args.self.now c.take_fire.new.self k h c.args.line (Fire c.in-Fire.node) c.args.event.now c.take_fire.result c.in-Fire.is s c.requires.fits
    (c.take_fire.ensures (ruled k h) s.keeps.state)

-- a frame is given

pub give_once-requires-clause-world : goal.give_once-requires-clause-world
give_once-requires-clause-world c = c.requires.world

pub give_once-requires-clause-fits : goal.give_once-requires-clause-fits
give_once-requires-clause-fits c = subst Fits c.in-Give.is c.requires.fits

pub returns-in-Give : goal.returns-in-Give
returns-in-Give c k h s =
    answered_as c.args.self.now c.give_once.new.self k h c.args.line (Give c.in-Give.frame) c.args.event.now c.give_once.result c.in-Give.is s c.requires.fits
    (c.give_once.ensures (ruled k h) s.keeps.state)

-- a node is commanded

pub command-requires-clause-world : goal.command-requires-clause-world
command-requires-clause-world c = c.requires.world

pub command-requires-clause-fits : goal.command-requires-clause-fits
command-requires-clause-fits c = subst Fits c.in-Do.is c.requires.fits

pub returns-in-Do : goal.returns-in-Do
returns-in-Do c k h s =
    answered_as c.args.self.now c.command.new.self k h c.args.line (Do c.in-Do.node c.in-Do.command) c.args.event.now c.command.result c.in-Do.is s
    c.requires.fits (c.command.ensures (ruled k h) s.keeps.state)

-- bytes come that are no frame

pub returns-in-Junk : goal.returns-in-Junk
returns-in-Junk c k h s =
    answered_as c.args.self.now c.junk.new.self k h c.args.line (Junk c.in-Junk.actor c.as_slice-in-Junk.result.now) c.args.event.now c.junk.result
    (c.in-Junk.is ∙ ap (λ bs. Junk c.in-Junk.actor bs) (sym c.as_slice-in-Junk.ensures)) s c.requires.fits (c.junk.ensures (ruled k h) c.args.line s.keeps.state)
