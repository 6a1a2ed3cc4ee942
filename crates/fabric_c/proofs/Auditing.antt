-- An audit over devices that never fail.
use Rattle.std.proofs.Common.{◌≡◌, ◌≢◌, ℕ, List, [], Option, Some, inl, inr, arith, refl, sym, subst}
use Rattle.edge_io.specs.Edge.{HasRisen}
use Rattle.fabric_status.specs.declared.status.Status.{Status}
use Rattle.fabric_status.specs.declared.status.Status.TheVariants as status
use Rattle.transcript_audit.specs.Audits.{IsAnswer, Writes, WritesAnswer}

-- a count that stays at 0 has not risen
pub never_risen : HasRisen 0 0 → ⊥
never_risen (inl below) = omega arith
never_risen (inr at_end) = omega arith

whole : (bytes text : List ℕ) (ended : Status) → WritesAnswer bytes ended (Some []) (Some text) → IsAnswer bytes ended text
whole bytes text ended w =
    let e : ◌≡◌ {A = Option (List ℕ)} (Some text) (Some w.text) = w.grew [] refl in
    let is : text ≡ w.text = cc in
    subst (λ (t : List ℕ). IsAnswer bytes ended t) (sym is) w.answer

-- at each other status the text is the answer
pub answered : (ended : Status) (bytes text : List ℕ) → ended ≢ status.OutOfMemory → ended ≢ status.ReadFault → ended ≢ status.WriteFault
    → Writes ended bytes (HasRisen 0 0) (Some []) (Some text) → IsAnswer bytes ended text
answered status.OutOfMemory bytes text memory source sink writes = absurd (memory refl)
answered status.ReadFault bytes text memory source sink writes = absurd (source refl)
answered status.WriteFault bytes text memory source sink writes = absurd (sink refl)
answered status.Ok bytes text memory source sink writes = whole bytes text status.Ok writes
answered status.Usage bytes text memory source sink writes = whole bytes text status.Usage writes
answered (status.BadConfig e) bytes text memory source sink writes = whole bytes text (status.BadConfig e) writes
answered (status.BadLine n) bytes text memory source sink writes = whole bytes text (status.BadLine n) writes
answered (status.DriftBroken n) bytes text memory source sink writes = whole bytes text (status.DriftBroken n) writes
answered (status.NoSuch n) bytes text memory source sink writes = whole bytes text (status.NoSuch n) writes
answered (status.TooLarge n) bytes text memory source sink writes = whole bytes text (status.TooLarge n) writes
answered status.KeepFault bytes text memory source sink writes = whole bytes text status.KeepFault writes
answered status.LinkFault bytes text memory source sink writes = whole bytes text status.LinkFault writes
answered (status.ClockBack a b) bytes text memory source sink writes = whole bytes text (status.ClockBack a b) writes
answered (status.Left why) bytes text memory source sink writes = whole bytes text (status.Left why) writes
answered (status.BadKeep i) bytes text memory source sink writes = whole bytes text (status.BadKeep i) writes
answered status.TableFull bytes text memory source sink writes = whole bytes text status.TableFull writes
