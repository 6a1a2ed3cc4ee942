-- What `audit` writes, and how it ends.
use Rattle.std.specs.Prelude.{◌≡◌, ℕ, List, [], length, reverse, Option, Result, Ok, Err}
use Rattle.edge_io.specs.Edge.{Grew, GrewByFront}
use Rattle.fabric_status.specs.Codes.{status_of}
use Rattle.fabric_status.specs.Faults.{fault_line}
use Rattle.fabric_status.specs.declared.status.Refusal.{Refusal}
use Rattle.fabric_status.specs.declared.status.Status.{Status}
use Rattle.fabric_status.specs.declared.status.Status.TheVariants as status
use Rattle.run_audit.specs.Breaches.{IsVerdict}
use Rattle.run_audit.specs.declared.breach.Breach.{Breach}
use Rattle.transcript_audit.specs.declared.transcript.Transcript.{Transcript}
use Rattle.transcript_audit.specs.declared.transcript.Transcript.TheVariants.{Good, Refused}
use Rattle.transcript_audit.specs.Groups.{Group, AreLines, run_along}
use Rattle.transcript_audit.specs.Transcript.{transcript_of}
use Rattle.transcript_audit.specs.Verdicts.{verdict_line}

-- this is the verdict on the run of the groups in the order of their LINEs, which has so many moments
pub record IsJudged (groups : List Group) (moments : ℕ) (breach : Option Breach) : Type 0 where
  pub lines : List ℕ
  pub order : AreLines groups lines
  pub verdict : IsVerdict (run_along groups (reverse lines)) breach
  pub count : length lines ≡ moments

-- the line of the verdict on the run that the groups are
pub record IsVerdictLine (groups : List Group) (text : List ℕ) : Type 0 where
  pub moments : ℕ
  pub breach : Option Breach
  pub judged : IsJudged groups moments breach
  pub line : text ≡ verdict_line breach moments

abbrev pub IsAnswerTo : Result (List Group) Refusal → Status → List ℕ → Type 0
IsAnswerTo (Ok groups) ended text = (ended ≡ status.Ok) × IsVerdictLine groups text
IsAnswerTo (Err refusal) ended text = (ended ≡ status_of refusal) × (text ≡ fault_line (status_of refusal))

-- the line and the status that these bytes are answered
abbrev pub IsAnswer : List ℕ → Status → List ℕ → Type 0
IsAnswer bytes ended text = IsAnswerTo (transcript_of bytes) ended text

-- the status that a transcript is answered with
abbrev pub IsEnd : Transcript → Status → Type 0
IsEnd (Good text places) ended = ended ≡ status.Ok
IsEnd (Refused refusal) ended = ended ≡ status_of refusal

-- A front of what would have been written: nothing; a front of the line of the verdict or of the fault; or, where the
-- source failed, a front of the line that says so.
pub data WritesFront (bytes : List ℕ) (source_failed : Type 0) (old new : Option (List ℕ)) : Type 0 where
  nothing : Grew old new [] → WritesFront bytes source_failed old new
  answer : (ended : Status) (text : List ℕ) → IsAnswer bytes ended text → GrewByFront old new text → WritesFront bytes source_failed old new
  fault : source_failed → GrewByFront old new (fault_line status.ReadFault) → WritesFront bytes source_failed old new

-- the answer of these bytes, whole
pub record WritesAnswer (bytes : List ℕ) (ended : Status) (old new : Option (List ℕ)) : Type 0 where
  pub text : List ℕ
  pub answer : IsAnswer bytes ended text
  pub grew : Grew old new text

-- what a sink has more at each status of `audit`, where it tells; by whether the source failed
abbrev pub Writes : Status → List ℕ → Type 0 → Option (List ℕ) → Option (List ℕ) → Type 0
Writes status.OutOfMemory bytes failed old new = WritesFront bytes failed old new
Writes status.WriteFault bytes failed old new = WritesFront bytes failed old new
Writes status.ReadFault bytes failed old new = Grew old new (fault_line status.ReadFault)
Writes ended bytes failed old new = WritesAnswer bytes ended old new
