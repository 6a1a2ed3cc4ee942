use Rattle.std.proofs.Common.{arith, ◌≡◌, ℕ, ◌+◌, ◌-◌, List, Option, Some, length, take, drop, ◌++◌, ap, ◌∙◌, sym, length-drop}
use Rattle.std.proofs.Math.Seq.{take-add}
use Rattle.std.proofs.lemmas.List.{append_assoc, take_all}
use Rattle.std.proofs.lemmas.Result.{err_from_is_err_and}
use Rattle.edge_io.specs.Edge.{Grew}
use Rattle.edge_io.proofs.PlannedSoFar.{none_failed_on, planned_on, planned_end}
use Rattle.edge_io.proofs.sink.write_all.Goals as goal

-- what is left of the piece
rest_is : (piece : List ℕ) (done : ℕ) → take (length piece - done) (drop done piece) ≡ drop done piece
rest_is piece done = take_all (length piece - done) (drop done piece) (omega (arith, length-drop done piece))

-- grown by a front, and then by a front of the rest
grew_on : (a b c : Option (List ℕ)) (piece : List ℕ) (done n : ℕ) → Grew a b (take done piece) → Grew b c (take n (take (length piece - done) (drop done piece))) → Grew a c (take (done + n) piece)
grew_on a b c piece done n first then held told =
    then (held ++ take done piece) (first held told)
    ∙ ap Some (append_assoc held (take done piece) (take n (take (length piece - done) (drop done piece)))
    ∙ ap (λ bytes. held ++ bytes) (ap (λ rest. take done piece ++ take n rest) (rest_is piece done) ∙ sym (take-add done n piece)))

pub loop-done-preserved : goal.loop-done-preserved
loop-done-preserved g c = (
  omega (arith, c.in_ok-done.ensures.count, ap length (rest_is c.args.piece.now c.loop-done.done), length-drop c.loop-done.done c.args.piece.now),
  grew_on (g.K.Sink.held c.args.sink.now) (g.K.Sink.held c.loop-done.sink) (g.K.Sink.held c.write.new.self) c.args.piece.now c.loop-done.done c.in_ok-done.field-0 c.loop-done.invariant.1 c.in_ok-done.ensures.bytes,
  omega arith,
  none_failed_on _ _ _ _ _ _ c.loop-done.invariant.3 c.in_ok-done.ensures.plan (λ failed. cc),
)

pub returns-in_err-done-clause-plan : goal.returns-in_err-done-clause-plan
returns-in_err-done-clause-plan g c =
    let refused = err_from_is_err_and c.from_residual.result c.from_residual.ensures.1 in
    planned_on _ _ _ _ _ _ _ c.loop-done.invariant.3 c.in_err-done.ensures.plan (λ failed. cc (refused.1, refused.2, failed)) (λ answered. cc (refused.1, refused.2, answered))

pub returns-clause-plan : goal.returns-clause-plan
returns-clause-plan g c = planned_end _ _ _ c.loop-done.invariant.3 (λ failed. cc)
