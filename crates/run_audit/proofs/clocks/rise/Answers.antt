use Rattle.std.proofs.Common.{sym, ◌∙◌}
use Rattle.std.proofs.lemmas.List.{get_or_default}
use Rattle.run_audit.proofs.Readings.{rise_on, rise_all}
use Rattle.run_audit.proofs.clocks.rise.Goals as goal

pub loop-clock-preserved : goal.loop-clock-preserved
loop-clock-preserved c =
    rise_on c.args.clocks.now c.loop-clock.clock-index c.loop-clock.last _ c.loop-clock-test.true
    (get_or_default c.args.clocks.now c.loop-clock.clock-index _ _ c.loop-clock-test.true) c.loop-clock.invariant
    (sym c.comes_after.ensures ∙ c.if-not-comes_after.false)

pub returns : goal.returns
returns c = rise_all c.args.clocks.now c.loop-clock.clock-index c.loop-clock.last c.loop-clock-test.false c.loop-clock.invariant
