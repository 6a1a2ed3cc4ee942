-- The lines that wait to be written to the log.
use Rattle.std.specs.Prelude.{ℕ, ◌+◌, ◌-◌, ◌^◌, ◌==◌, min, Bool, ◌&&◌, List, [], ◌∷◌, ◌++◌, length, nat_le, nat_lt, codes, decimal, if◌then◌else◌}
use Rattle.log_lines.specs.declared.queue.Pushed.{Pushed}
use Rattle.log_lines.specs.declared.queue.Pushed.TheVariants.{Whole, Dropped}

-- the most bytes that wait
abbrev pub most_queue : ℕ
most_queue = 65536

abbrev pub greatest_count : ℕ
greatest_count = 2 ^ 64 - 1

-- the bytes that wait, and how many lines were dropped since the log last said it
pub record Queue : Type 0 where
  pub bytes : List ℕ
  pub dropped : ℕ

abbrev pub fresh_queue : Queue
fresh_queue = record { bytes = []; dropped = 0 }

-- the line that says how many lines were dropped
abbrev pub notice : List ℕ → ℕ → List ℕ
notice time count = time ++ codes "dropped " ++ decimal count ++ 10 ∷ []

-- lines were dropped, and the queue is empty again: the next line comes behind a notice
abbrev pub owes_notice : Queue → Bool
owes_notice q = (length q.bytes == 0) && nat_lt 0 q.dropped

-- what comes before a line
abbrev pub before_line : Queue → List ℕ → List ℕ
before_line q time = if owes_notice q then notice time q.dropped else []

abbrev pub has_room : Queue → List ℕ → List ℕ → Bool
has_room q time line = nat_le (length q.bytes + length (before_line q time) + length time + length line) most_queue

-- the line with its time, behind what comes before it
abbrev pub with_line : Queue → List ℕ → List ℕ → Queue
with_line q time line = record {
  bytes = q.bytes ++ before_line q time ++ time ++ line;
  dropped = if owes_notice q then 0 else q.dropped;
}

-- a line that finds no room is counted; counts end at the greatest
abbrev pub without_line : Queue → Queue
without_line q = record { bytes = q.bytes; dropped = min (q.dropped + 1) greatest_count }

abbrev pub queue_after : Queue → List ℕ → List ℕ → Queue
queue_after q time line = if has_room q time line then with_line q time line else without_line q

abbrev pub pushed : Queue → List ℕ → List ℕ → Pushed
pushed q time line = if has_room q time line then Whole else Dropped
