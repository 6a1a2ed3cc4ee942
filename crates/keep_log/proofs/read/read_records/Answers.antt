use Rattle.std.proofs.Common.{List, ℕ, refl, subst}
use Rattle.std.proofs.lemmas.Result.{err_from_is_err_and}
use Rattle.fabric_terms.specs.declared.record.Record.{Record}
use Rattle.keep_log.specs.Places.{Stands}
use Rattle.keep_log.specs.Taking.{amount_in}
use Rattle.keep_log.proofs.Takings.{none_taken, short_stands}
use Rattle.keep_log.proofs.OnTheWay.{read_more, read_bad, read_all, read_front, read_whole}
use Rattle.keep_log.proofs.read.read_records.Goals as goal

pub returns-in-Err-OutOfPlace-clause-reads : goal.returns-in-Err-OutOfPlace-clause-reads
returns-in-Err-OutOfPlace-clause-reads c =
    let before = amount_in c.loop-i.reading in
    let None : List ℕ → Type 0 = λ bytes. (r : Record) → Stands before r bytes → ⊥ in (
      c.loop-i.i,
      refl,
      read_bad (λ v. v.items) c.args.records.now c.loop-i.i c.index-records-i.result before c.loop-i-test.true
          c.index-records-i.is c.loop-i.invariant.1
          (subst None c.as_slice.ensures.value (none_taken before (amount_in c.take.new.self) c.as_slice.result.now c.in-Err-OutOfPlace.field-0 (cc) c.in-Err-OutOfPlace.ensures.took)),
    )

pub returns-in-Err-OutOfMemory-clause-reads : goal.returns-in-Err-OutOfMemory-clause-reads
returns-in-Err-OutOfMemory-clause-reads c =
    let before = amount_in c.loop-i.reading in
    let stands = short_stands before (amount_in c.take.new.self) c.as_slice.result.now c.in-Err-OutOfMemory.field-0 (cc) c.in-Err-OutOfMemory.ensures.took in
    let Here : List ℕ → Type 0 = λ bytes. Stands before stands.0 bytes in
    read_front (λ v. v.items) c.args.records.now c.loop-i.i c.index-records-i.result before stands.0 c.loop-i-test.true c.index-records-i.is
    c.loop-i.invariant.1 (subst Here c.as_slice.ensures.value stands.1)

pub returns-in_err-finish-clause-reads : goal.returns-in_err-finish-clause-reads
returns-in_err-finish-clause-reads c =
    let short = err_from_is_err_and c.from_residual.result c.from_residual.ensures.1 in
    rw (short.1, short.2) (read_whole (λ v. v.items) c.args.records.now c.loop-i.i (amount_in c.loop-i.reading) c.loop-i-test.false c.loop-i.invariant.1)

pub loop-i-preserved : goal.loop-i-preserved
loop-i-preserved c =
    let before = amount_in c.loop-i.reading in
    let took = c.in-Ok.ensures.took in
    let Here : List ℕ → Type 0 = λ bytes. Stands before took.0 bytes in (
      c.in-Ok.ensures.told,
      read_more (λ v. v.items) c.args.records.now c.loop-i.i c.index-records-i.result before (amount_in c.take.new.self) took.0
          c.loop-i-test.true c.index-records-i.is c.loop-i.invariant.1 (subst Here c.as_slice.ensures.value took.1.0) took.1.1,
    )

pub returns-clause-reads : goal.returns-clause-reads
returns-clause-reads c =
    read_all (λ v. v.items) c.args.records.now c.loop-i.i (amount_in c.loop-i.reading) _ c.loop-i-test.false c.loop-i.invariant.1 c.in_ok-finish.ensures
