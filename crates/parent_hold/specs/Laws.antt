-- The numbers of a step are those of what it gives up.
use Rattle.std.specs.Prelude.{◌≡◌, ℕ, ◌+◌, List, [], ◌∷◌}
use Rattle.fabric_terms.specs.declared.report.Report.{Report}
use Rattle.frame_hold.specs.Losses.{Had, given_up}
use Rattle.frame_hold.specs.declared.holding.Owed.{Owed}
use Rattle.frame_hold.specs.declared.losses.Loss.{Loss}
use Rattle.parent_hold.specs.Lines.{Telling, step_owed}

-- losses with numbers that rise by 1, the first of them this one
abbrev pub numbered : ℕ → ℕ → List Loss → List Owed
numbered number now [] = []
numbered number now (l ∷ ls) = record { number = number; what = l.what; since = now } ∷ numbered (number + 1) now ls

-- each loss of a step opens the next number, and nothing else opens one
abbrev pub EachLossHasItsNumber : Type 0
EachLossHasItsNumber = (had : Had) (told : List Report) (now : ℕ) (t : Telling) → step_owed had told now t told ≡ numbered t.next now (given_up had told)
