-- A good transcript is judged where no device fails.
use Rattle.std.proofs.Common.{◌≡◌, ℕ, List, Option, Ok, inl, inr, refl, subst}
use Rattle.fabric_status.specs.declared.status.Status.{Status}
use Rattle.fabric_status.specs.declared.status.Status.TheVariants as status
use Rattle.schedule_rules.specs.Replays.{IsDone}
use Rattle.transcript_audit.specs.Audits.{IsAnswerTo, Writes, WritesAnswer}
use Rattle.transcript_audit.specs.Groups.{Group}
use Rattle.transcript_audit.specs.Transcript.{transcript_of}

answered : (ended : Status) (bytes : List ℕ) (groups : List Group) (old new : Option (List ℕ)) → WritesAnswer bytes ended old new → transcript_of bytes ≡ Ok groups → IsDone ended
answered ended bytes groups old new w good = inl (subst (λ t. IsAnswerTo t ended w.text) good w.answer).0

pub is_done : (ended : Status) (bytes : List ℕ) (groups : List Group) (failed : Type 0) (old new : Option (List ℕ)) → Writes ended bytes failed old new → transcript_of bytes ≡ Ok groups
    → (ended ≡ status.ReadFault → ⊥) → (ended ≡ status.WriteFault → ⊥) → IsDone ended
is_done status.Ok bytes groups failed old new w good read write = inl refl
is_done status.OutOfMemory bytes groups failed old new w good read write = inr refl
is_done status.ReadFault bytes groups failed old new w good read write = absurd (read refl)
is_done status.WriteFault bytes groups failed old new w good read write = absurd (write refl)
is_done status.Usage bytes groups failed old new w good read write = answered status.Usage bytes groups old new w good
is_done (status.BadConfig e) bytes groups failed old new w good read write = answered (status.BadConfig e) bytes groups old new w good
is_done (status.BadLine n) bytes groups failed old new w good read write = answered (status.BadLine n) bytes groups old new w good
is_done (status.DriftBroken n) bytes groups failed old new w good read write = answered (status.DriftBroken n) bytes groups old new w good
is_done (status.NoSuch n) bytes groups failed old new w good read write = answered (status.NoSuch n) bytes groups old new w good
is_done (status.TooLarge n) bytes groups failed old new w good read write = answered (status.TooLarge n) bytes groups old new w good
is_done status.KeepFault bytes groups failed old new w good read write = answered status.KeepFault bytes groups old new w good
is_done status.LinkFault bytes groups failed old new w good read write = answered status.LinkFault bytes groups old new w good
is_done (status.ClockBack former latter) bytes groups failed old new w good read write = answered (status.ClockBack former latter) bytes groups old new w good
is_done (status.Left why) bytes groups failed old new w good read write = answered (status.Left why) bytes groups old new w good
is_done (status.BadKeep i) bytes groups failed old new w good read write = answered (status.BadKeep i) bytes groups old new w good
is_done status.TableFull bytes groups failed old new w good read write = answered status.TableFull bytes groups old new w good
