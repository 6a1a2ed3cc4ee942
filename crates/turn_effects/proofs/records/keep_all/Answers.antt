use Rattle.std.proofs.Common.{arith}
use Rattle.std.proofs.lemmas.Bool.Decides.{nat_tests}
use Rattle.std.proofs.lemmas.Result.{err_from_is_err_and}
use Rattle.turn_effects.proofs.Keeping.{kept_item, kept_until, none_to_keep}
use Rattle.turn_effects.proofs.records.keep_all.Goals as goal

pub loop-record-preserved : goal.loop-record-preserved
loop-record-preserved g c = kept_item c.args.actor c.args.records.now c.loop-record.record-index c.record-item.result _ _ _ (omega arith) c.record-item.is c.loop-record.invariant c.in_ok-keep_one.ensures

pub returns-in_err-keep_one : goal.returns-in_err-keep_one
returns-in_err-keep_one g c =
    let p = err_from_is_err_and c.from_residual.result c.from_residual.ensures.1 in
    rw (p.1, p.2) (kept_until c.args.actor c.args.records.now c.loop-record.record-index c.record-item.result _ _ _ (omega arith) c.record-item.is c.loop-record.invariant c.in_err-keep_one.field-0.0 c.in_err-keep_one.ensures)

pub returns-then-is_empty : goal.returns-then-is_empty
returns-then-is_empty g c = none_to_keep c.args.actor c.args.records.now _ (grind (arith, nat_tests))
