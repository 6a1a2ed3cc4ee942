-- The limits of a transcript, and what `audit` writes of a safe run.
use Rattle.std.specs.Prelude.{◌≡◌, ◌⊎◌, ℕ, ◌≤◌, List, [], length, Option, None}
use Rattle.edge_io.specs.Edge.{Grew, GrewByFront, HasRisen}
use Rattle.fabric_status.specs.Faults.{fault_line}
use Rattle.fabric_status.specs.declared.status.Status.{Status}
use Rattle.fabric_status.specs.declared.status.Status.TheVariants as status
use Rattle.line_format.specs.Lines.{lines_of}
use Rattle.source_lines.specs.Lines.{most_lines}
use Rattle.transcript_audit.specs.Audits.{IsAnswer, Writes}
use Rattle.transcript_audit.specs.Transcript.{most_bytes}
use Rattle.transcript_audit.specs.Verdicts.{verdict_line}

-- the text has no more lines and bytes than a transcript may have
pub record WithinLimits (text : List ℕ) : Type 0 where
  pub lines : length (lines_of text) ≤ most_lines
  pub bytes : length text ≤ most_bytes

-- A front of what `audit` would have written: nothing; a front of `safe` and the number of moments; or, where the source
-- failed, a front of the line that says so.
abbrev pub WritesSafeFront : ℕ → Type 0 → Option (List ℕ) → Option (List ℕ) → Type 0
WritesSafeFront moments failed old new =
    Grew old new [] ⊎ GrewByFront old new (verdict_line None moments) ⊎ (failed × GrewByFront old new (fault_line status.ReadFault))

-- What a sink has more at each status of `audit`: `safe` and the number of moments, and no breach. No transcript of a safe run
-- is refused.
abbrev pub WritesSafe : Status → ℕ → Type 0 → Option (List ℕ) → Option (List ℕ) → Type 0
WritesSafe status.Ok moments failed old new = Grew old new (verdict_line None moments)
WritesSafe status.OutOfMemory moments failed old new = WritesSafeFront moments failed old new
WritesSafe status.WriteFault moments failed old new = WritesSafeFront moments failed old new
WritesSafe status.ReadFault moments failed old new = Grew old new (fault_line status.ReadFault)
WritesSafe ended moments failed old new = ⊥

-- the only answer to the text is `safe` and the number of moments, and so `audit` writes it; by the source's count of faults
pub record IsAnsweredSafe (text : List ℕ) (moments : ℕ) : Type 0 where
  pub ends : (ended : Status) (answer : List ℕ) → IsAnswer text ended answer → ended ≡ status.Ok
  pub says : (ended : Status) (answer : List ℕ) → IsAnswer text ended answer → answer ≡ verdict_line None moments
  pub writes : (ended : Status) (before after : ℕ) (old new : Option (List ℕ)) → Writes ended text (HasRisen before after) old new →
      WritesSafe ended moments (HasRisen before after) old new
