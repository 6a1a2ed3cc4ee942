use Rattle.std.proofs.Common.{refl, sym, ◌∙◌, arith}
use Rattle.std.proofs.lemmas.Bool.{false≢true}
use Rattle.ring_world.proofs.TickReadings.{clock_at, clock_breaks, clock_fits, clock_unfit, clock_within}
use Rattle.ring_world.proofs.world.World.first_broken.Goals as goal

pub index-requires : goal.index-requires
index-requires c =
    let can = c.requires.can in
    let within = clock_within c.args.self.now can.0 c.args.readings.now c.loop-i.i can.1 can.2 c.loop-i-test.true in
    omega (arith, within)

pub admit-requires-clause-order : goal.admit-requires-clause-order
admit-requires-clause-order c =
    let can = c.requires.can in
    let k = clock_at c.args.self.now can.0 c.args.readings.now c.loop-i.i can.1 can.2 c.loop-i-test.true (0, 0) c.index.result.now c.index.ensures in
    omega (arith, k.runs.latest, c.requires.later)

pub returns-in-Err-clause-broken : goal.returns-in-Err-clause-broken
returns-in-Err-clause-broken c w s of =
    let a = c.args.self.now in
    let r = c.index.result.now in
    let k = clock_at a w c.args.readings.now c.loop-i.i s of c.loop-i-test.true (0, 0) r c.index.ensures in
    clock_breaks a w c.args.time c.args.readings.now c.loop-i.i (0, 0) r c.loop-i-test.true c.requires.later k c.in-Err.broken (c.in-Err.ensures.earlier k.entry.1.pairs k.runs.drift) c.in-Err.ensures.now
    ∙ (c.loop-i.invariant w s of).0

pub returns-in-Err-clause-fits : goal.returns-in-Err-clause-fits
returns-in-Err-clause-fits c w s of =
    let a = c.args.self.now in
    let r = c.index.result.now in
    let k = clock_at a w c.args.readings.now c.loop-i.i s of c.loop-i-test.true (0, 0) r c.index.ensures in
    sym (clock_unfit a w c.args.time c.args.readings.now c.loop-i.i (0, 0) r c.loop-i-test.true c.requires.later k (λ h. absurd (false≢true ((c.in-Err.ensures.exactly_when k.entry.1.pairs k.runs.drift).1 h))))
    ∙ (c.loop-i.invariant w s of).1

pub loop-i-preserved : goal.loop-i-preserved
loop-i-preserved c w s of =
    let a = c.args.self.now in
    let r = c.index.result.now in
    let k = clock_at a w c.args.readings.now c.loop-i.i s of c.loop-i-test.true (0, 0) r c.index.ensures in
    let one = clock_fits a w c.args.time c.args.readings.now c.loop-i.i (0, 0) r c.loop-i-test.true c.requires.later k ((c.in-Ok.ensures.exactly_when k.entry.1.pairs k.runs.drift).0 refl) in
    let old = c.loop-i.invariant w s of in
    (one.0 ∙ old.0, one.1 ∙ old.1)
