use Rattle.std.proofs.Common.{◌≡◌, ◌≤◌, ◌++◌, length, drop}
use Rattle.open_answers.specs.Answers.{by_cause, ended_by}
use Rattle.open_answers.proofs.open_answers.put_ended.Given as goal

-- those that have ended, and those that are left to look at
abbrev pub invariant-loop-answer : goal.invariant-loop-answer
invariant-loop-answer l =
    (l.ended ++ ended_by (by_cause l.cause) (drop l.answer-index l.answers) ≡ ended_by (by_cause l.cause) l.answers) × (length l.ended ≤ l.answer-index)
