use Rattle.std.proofs.Common.{None, Some, sym, ap, subst}
use Rattle.std.specs.Prelude.{is_some}
use Rattle.std.proofs.lemmas.Result.{err_from_is_err_and}
use Rattle.world_rules.specs.Arbiters.{ArbiterState}
use Rattle.unit_rules.specs.Fabric.{fabric}
use Rattle.world_rules.specs.Worlds.{Stepped}
use Rattle.ring_world.specs.Moves.{Moves}
use Rattle.ring_world.specs.Steps.{LeavesSound}
use Rattle.ring_world.proofs.Arrivals.{lost_at_arbiter, reaches_arbiter}
use Rattle.ring_world.specs.ConfiguredArbiters.{state_of}
use Rattle.ring_world.proofs.Seats.{none_at, none_there, running_at}
use Rattle.ring_world.proofs.world.World.reach_arbiter.Goals as goal

pub returns-in_default : goal.returns-in_default
returns-in_default c w s =
    let a = c.args.self.now in
    let m = c.args.message.now in
    let none = none_there a w m.to.actor s c.requires.arbiter c.in_default.ensures in
    subst (λ (x : Stepped fabric). Moves a c.pass.new.self x c.args.line None) (sym (lost_at_arbiter a w m c.requires.arbiter none)) (c.pass.ensures w c.args.line s)

pub returns-then-not-index : goal.returns-then-not-index
returns-then-not-index c w s =
    let a = c.args.self.now in
    let m = c.args.message.now in
    let q = c.index.result.now in
    let none = none_at a w m.to.actor c.in-Some.place q s c.in-Some.ensures.0 c.in-Some.ensures.1 c.index.ensures c.if-not-index.true in
    subst (λ (x : Stepped fabric). Moves a c.pass-then-not-index.new.self x c.args.line None) (sym (lost_at_arbiter a w m c.requires.arbiter none)) (c.pass-then-not-index.ensures w c.args.line s)

pub rule_at-requires-clause-can : goal.rule_at-requires-clause-can
rule_at-requires-clause-can c =
    let a = c.args.self.now in
    let m = c.args.message.now in
    let can = c.requires.can in
    let q = c.index.result.now in
    let there = running_at a can.0 c.in-Some.place q can.1 c.in-Some.ensures.1 c.index.ensures c.if-not-index.false in
    let state : ArbiterState fabric = state_of q.arbiter in
    let step = reaches_arbiter a can.0 m c.requires.arbiter c.in-Some.place state c.in-Some.ensures.0 there in
    (can.0, can.1, record { state = state; runs = there; sound = subst (λ (y : Stepped fabric). LeavesSound y) step can.2 })

pub returns-in_err-rule_at : goal.returns-in_err-rule_at
returns-in_err-rule_at c w s =
    let a = c.args.self.now in
    let q = c.index.result.now in
    let there = running_at a w c.in-Some.place q s c.in-Some.ensures.1 c.index.ensures c.if-not-index.false in
    let state : ArbiterState fabric = state_of q.arbiter in
    let step = reaches_arbiter a w c.args.message.now c.requires.arbiter c.in-Some.place state c.in-Some.ensures.0 there in
    let p = err_from_is_err_and c.from_residual.result c.from_residual.ensures.1 in
    rw p.1 (ap (λ (y : Stepped fabric). is_some y.entry) step, c.in_err-rule_at.ensures w state s there)

pub returns : goal.returns
returns c w s =
    let a = c.args.self.now in
    let m = c.args.message.now in
    let q = c.index.result.now in
    let there = running_at a w c.in-Some.place q s c.in-Some.ensures.1 c.index.ensures c.if-not-index.false in
    let state : ArbiterState fabric = state_of q.arbiter in
    let step = reaches_arbiter a w m c.requires.arbiter c.in-Some.place state c.in-Some.ensures.0 there in
    subst (λ (y : Stepped fabric). Moves a c.rule_at.new.self y c.args.line (Some c.in_ok-rule_at.field-0)) (sym step) (c.in_ok-rule_at.ensures w state s there)
