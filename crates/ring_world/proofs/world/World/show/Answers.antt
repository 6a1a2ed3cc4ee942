use Rattle.std.proofs.Common.{refl, arith}
use Rattle.std.proofs.lemmas.Bool.{false≢true}
use Rattle.ring_world.proofs.TickClocks.{all_shown, clock_fits, clock_within, node_within, none_shown, rest_stays, runs, shows_more}
use Rattle.ring_world.proofs.world.World.show.Goals as goal

pub loop-i-init : goal.loop-i-init
loop-i-init c = (refl, λ w s of. none_shown c.args.self.now w c.args.time c.args.readings.now s c.requires.later)

pub index_mut-running-requires : goal.index_mut-running-requires
index_mut-running-requires c =
    let can = c.requires.can in
    let within = node_within c.args.self.now can.0 c.args.time c.loop-i.self.running.items c.loop-i.self.clocks.items c.args.readings.now c.loop-i.i (0, 0) can.1 can.2 c.loop-i-test.true (c.loop-i.invariant.1 can.0 can.1 can.2) in
    omega (arith, within)

pub admit-requires-clause-order : goal.admit-requires-clause-order
admit-requires-clause-order c =
    let can = c.requires.can in
    let r = runs c.args.self.now can.0 c.args.time c.loop-i.self.running.items c.loop-i.self.clocks.items c.args.readings.now c.loop-i.i (0, 0) can.1 can.2 c.loop-i-test.true (c.loop-i.invariant.1 can.0 can.1 can.2)
    c.index_mut-running.result.now c.index_mut-running.ensures.value in
    omega (arith, r.latest)

pub unreachable-requires : goal.unreachable-requires
unreachable-requires c =
    let can = c.requires.can in
    let a = c.args.self.now in
    let s = c.loop-i.invariant.1 can.0 can.1 can.2 in
    let r = runs a can.0 c.args.time c.loop-i.self.running.items c.loop-i.self.clocks.items c.args.readings.now c.loop-i.i (0, 0) can.1 can.2 c.loop-i-test.true s c.index_mut-running.result.now c.index_mut-running.ensures.value in
    let fits = clock_fits a can.0 c.args.time c.loop-i.self.running.items c.loop-i.self.clocks.items c.args.readings.now c.loop-i.i (0, 0) can.1 can.2 c.loop-i-test.true s c.index_mut-running.result.now c.index_mut-running.ensures.value
    (c.requires.fit can.0 can.1) in
    absurd (false≢true ((c.in-Err.ensures.exactly_when _ r.drift).1 fits))

pub index_mut-requires : goal.index_mut-requires
index_mut-requires c =
    let can = c.requires.can in
    let within = clock_within c.args.self.now can.0 c.args.time c.loop-i.self.running.items c.loop-i.self.clocks.items c.args.readings.now c.loop-i.i (0, 0) can.1 can.2 c.loop-i-test.true (c.loop-i.invariant.1 can.0 can.1 can.2) in
    omega (arith, within)

pub loop-i-preserved : goal.loop-i-preserved
loop-i-preserved c = (
  rest_stays c.args.self.now c.loop-i.self _ _ c.loop-i.invariant.0,
  λ w s of.
      let a = c.args.self.now in
      let so_far = c.loop-i.invariant.1 w s of in
      let r = runs a w c.args.time c.loop-i.self.running.items c.loop-i.self.clocks.items c.args.readings.now c.loop-i.i (0, 0) s of c.loop-i-test.true so_far c.index_mut-running.result.now c.index_mut-running.ensures.value in
      shows_more a w c.args.time c.loop-i.self.running.items c.loop-i.self.clocks.items c.args.readings.now c.loop-i.i (0, 0) s of c.loop-i-test.true so_far c.index_mut-running.result.now c.index_mut-running.ensures.value
      c.index_mut.result.now c.admit.new.self c.index_mut.ensures.value (c.requires.readings c.loop-i.i (0, 0) c.loop-i-test.true) c.in-Ok.ensures.bound c.in-Ok.ensures.latest (c.in-Ok.ensures.ok _ r.drift),
)

pub returns-clause-shown : goal.returns-clause-shown
returns-clause-shown c w s of =
    let rest = c.loop-i.invariant.1 w s of in
    all_shown c.args.self.now.config c.args.time c.loop-i.self.running.items c.loop-i.self.clocks.items c.args.readings.now c.loop-i.i w.nodes of (omega arith) rest
