use Rattle.std.proofs.Common.{◌≡◌, ◌≤◌, length, drop}
use Rattle.open_answers.specs.Answers.{due_of}
use Rattle.open_answers.proofs.open_answers.due_in.Given as goal

-- the least of those from this place on
abbrev pub invariant-loop-place : goal.invariant-loop-place
invariant-loop-place l = (l.place ≤ length l.answers) × (l.due ≡ due_of (drop l.place l.answers))

abbrev pub decreases-loop-place : goal.decreases-loop-place
decreases-loop-place l = l.place
