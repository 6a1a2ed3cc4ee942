use Rattle.std.proofs.lemmas.Result.{err_from_is_err_and}
use Rattle.arbiter_core.proofs.Restores.{first_new, restored_more, restored_is, restore_refused}
use Rattle.arbiter_core.proofs.arbiter.Arbiter.restore.Goals as goal

pub remember-requires-clause-new : goal.remember-requires-clause-new
remember-requires-clause-new c =
    (first_new c.args.number c.args.records.now c.loop-item.item-index c.item-item.result c.loop-item.arbiter
    c.loop-item-test.true c.item-item.is c.loop-item.invariant).0

pub remember-requires-clause-placed : goal.remember-requires-clause-placed
remember-requires-clause-placed c =
    (first_new c.args.number c.args.records.now c.loop-item.item-index c.item-item.result c.loop-item.arbiter
    c.loop-item-test.true c.item-item.is c.loop-item.invariant).1

pub loop-item-preserved : goal.loop-item-preserved
loop-item-preserved c =
    restored_more c.args.number c.args.records.now c.loop-item.item-index c.item-item.result c.loop-item.arbiter c.remember.new.self
    c.loop-item-test.true c.item-item.is c.loop-item.invariant c.in_ok-remember.ensures

pub returns-in_err-remember : goal.returns-in_err-remember
returns-in_err-remember c =
    let p = err_from_is_err_and c.from_residual.result c.from_residual.ensures.1 in
    rw (p.1, p.2) (λ other. restore_refused c.args.number c.args.records.now c.loop-item.item-index c.item-item.result c.loop-item.arbiter
    c.in_err-remember.field-0.0 c.loop-item-test.true c.item-item.is c.loop-item.invariant (c.in_err-remember.ensures.1 other))

pub returns : goal.returns
returns c = restored_is c.args.number c.args.records.now c.loop-item.item-index c.loop-item.arbiter c.loop-item-test.false c.loop-item.invariant
