-- What the law of this crate says of what is written.
use Rattle.std.specs.Prelude.{◌≡◌, ℕ, List}
use Rattle.schedule_rules.specs.Schedule.{Judged}
use Rattle.schedule_writes.specs.Writes.{IsOutput}

-- one text at most is written of a schedule
abbrev pub OneOutput : Type 0
OneOutput = (j : Judged) (text other : List ℕ) → IsOutput j text → IsOutput j other → text ≡ other
