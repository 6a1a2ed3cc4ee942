-- What waits where memory is short.
use Rattle.std.specs.Prelude.{ℕ, List, take, Option}
use Rattle.schedule_rules.specs.Halts.{Wrote}
use Rattle.schedule_rules.specs.Schedule.{Judged}
use Rattle.schedule_rules.specs.Telling.{Telling, lines_judged}

-- what the sink has more, and behind it what waits, is a front of the lines of what is accepted
abbrev pub FrontOf : Telling → Judged → Option (List ℕ) → Option (List ℕ) → List ℕ → Type 0
FrontOf t j old new text = (n : ℕ) × Wrote old new text (take n (lines_judged t j.config j.history))
