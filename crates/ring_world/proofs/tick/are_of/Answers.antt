use Rattle.std.proofs.Common.{◌<◌, ◌≤◌, ℕ, arith, length, sym, ◌∙◌}
use Rattle.ring_points.specs.declared.who.Who.{Who}
use Rattle.ring_world.proofs.TickReadings.{of_differ, of_end, of_go, of_stop}
use Rattle.ring_world.proofs.tick.are_of.Goals as goal

abbrev nobody : Who × ℕ
nobody = (record { actor = 0; instance = 0 }, 0)

pub returns-then-readings-clocks : goal.returns-then-readings-clocks
returns-then-readings-clocks c = sym (of_differ c.args.readings.now c.args.clocks.now c.if-readings-clocks.true)

pub returns-then-readings-i : goal.returns-then-readings-i
returns-then-readings-i c =
    let within : c.loop-i.i < length c.args.clocks.now = omega arith in
    sym (sym c.loop-i.invariant ∙ of_stop c.args.readings.now c.args.clocks.now c.loop-i.i (0, 0) nobody c.loop-i-test.true within c.if-readings-i.true)

pub loop-i-preserved : goal.loop-i-preserved
loop-i-preserved c =
    let within : c.loop-i.i < length c.args.clocks.now = omega arith in
    of_go c.args.readings.now c.args.clocks.now c.loop-i.i (0, 0) nobody c.loop-i-test.true within c.if-readings-i.false ∙ c.loop-i.invariant

pub returns : goal.returns
returns c =
    let end : length c.args.readings.now ≤ c.loop-i.i = omega arith in
    let last : length c.args.clocks.now ≤ c.loop-i.i = omega arith in
    sym (of_end c.args.readings.now c.args.clocks.now c.loop-i.i end last) ∙ c.loop-i.invariant
