use Rattle.std.proofs.Common.{◌≡◌, ◌-◌, ◌<◌, ◌++◌, [], ◌∷◌, Some, length, vec_len, arith, sym, ap, ◌∙◌}
use Rattle.std.proofs.lemmas.Bool.Decides.{nat_tests}
use Rattle.std.proofs.lemmas.Result.{err_from_is_err_and}
use Rattle.transcript_audit.specs.Said.{clocks_on}
use Rattle.transcript_audit.proofs.ClockSteps.{clocks_done, clocks_full, clocks_bad, clocks_low, clocks_next}
use Rattle.transcript_audit.proofs.said.fill.Goals as goal

pub returns-then-len-eq-MAX_NODES : goal.returns-then-len-eq-MAX_NODES
returns-then-len-eq-MAX_NODES c =
    let some : 0 < length c.loop-rest.rest.now = grind (arith, nat_tests) in
    let full : 64 - vec_len c.loop-rest.clocks ≡ 0 = omega (arith, c.len.ensures, c.if-len-eq-MAX_NODES.true) in
    sym c.loop-rest.invariant.read ∙ clocks_full (64 - vec_len c.loop-rest.clocks) c.loop-rest.above c.loop-rest.clocks.items c.loop-rest.rest.now full some

pub returns-in_err-clock : goal.returns-in_err-clock
returns-in_err-clock c =
    let some : 0 < length c.loop-rest.rest.now = grind (arith, nat_tests) in
    let room : 0 < 64 - vec_len c.loop-rest.clocks = omega (arith, c.loop-rest.invariant.few, c.len.ensures, c.if-len-eq-MAX_NODES.false) in
    let p = err_from_is_err_and c.from_residual.result c.from_residual.ensures.1 in
    let none = sym c.loop-rest.invariant.read ∙ clocks_bad (64 - vec_len c.loop-rest.clocks) c.loop-rest.above c.loop-rest.clocks.items c.loop-rest.rest.now room some c.in_err-clock.ensures in
    rw (p.1, p.2) none

pub returns-then-not-comes_after : goal.returns-then-not-comes_after
returns-then-not-comes_after c =
    let some : 0 < length c.loop-rest.rest.now = grind (arith, nat_tests) in
    let room : 0 < 64 - vec_len c.loop-rest.clocks = omega (arith, c.loop-rest.invariant.few, c.len.ensures, c.if-len-eq-MAX_NODES.false) in
    sym c.loop-rest.invariant.read
    ∙ clocks_low (64 - vec_len c.loop-rest.clocks) c.loop-rest.above c.loop-rest.clocks.items c.loop-rest.rest.now c.in_ok-clock.clock c.in_ok-clock.after.now room some c.in_ok-clock.ensures
    (sym c.comes_after.ensures ∙ c.if-not-comes_after.true)

pub loop-rest-preserved : goal.loop-rest-preserved
loop-rest-preserved c =
    let some : 0 < length c.loop-rest.rest.now = grind (arith, nat_tests) in
    let room : 0 < 64 - vec_len c.loop-rest.clocks = omega (arith, c.loop-rest.invariant.few, c.len.ensures, c.if-len-eq-MAX_NODES.false) in
    let less : 64 - vec_len c.push.new.self ≡ 64 - vec_len c.loop-rest.clocks - 1 = omega (arith, c.in_ok-push.ensures.len) in
    record {
      few = omega (arith, c.in_ok-push.ensures.len, room);
      read =
          ap (λ xs. clocks_on (64 - vec_len c.push.new.self) (Some c.in_ok-clock.clock.0) xs c.in_ok-clock.after.now) c.in_ok-push.ensures.items
          ∙ ap (λ n. clocks_on n (Some c.in_ok-clock.clock.0) (c.loop-rest.clocks.items ++ c.in_ok-clock.clock ∷ []) c.in_ok-clock.after.now) less
          ∙ sym
          (clocks_next (64 - vec_len c.loop-rest.clocks) c.loop-rest.above c.loop-rest.clocks.items c.loop-rest.rest.now c.in_ok-clock.clock c.in_ok-clock.after.now room some c.in_ok-clock.ensures
          (sym c.comes_after.ensures ∙ c.if-not-comes_after.false))
          ∙ c.loop-rest.invariant.read;
    }

pub returns : goal.returns
returns c =
    let none : length c.loop-rest.rest.now ≡ 0 = grind (arith, nat_tests) in
    sym c.loop-rest.invariant.read ∙ clocks_done (64 - vec_len c.loop-rest.clocks) c.loop-rest.above c.loop-rest.clocks.items c.loop-rest.rest.now none
