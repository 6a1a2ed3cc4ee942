-- How a run of a schedule ends, by where it halted.
use Rattle.std.proofs.Common.{◌≡◌, ◌≤◌, ◌⊎◌, ℕ, List, [], ◌++◌, Option, Some, None, refl, ap, sym, subst, ◌∙◌, append_assoc, ⊎_elim, inl, inr, arith}
use Rattle.std.proofs.lemmas.List.{append-nil}
use Rattle.edge_io.specs.Edge.{Grew, GrewByFront, HasRisen}
use Rattle.fabric_terms.specs.declared.config.FabricConfig.{FabricConfig}
use Rattle.fabric_status.specs.declared.status.Refusal.{Refusal}
use Rattle.fabric_status.specs.declared.status.Refusal.TheVariants.{BadConfig, BadLine, DriftBroken, NoSuch, TooLarge}
use Rattle.fabric_status.specs.declared.status.Status.{Status}
use Rattle.fabric_status.specs.declared.status.Status.TheVariants as status
use Rattle.fabric_status.specs.Codes.{status_of}
use Rattle.fabric_status.specs.Faults.{fault_line}
use Rattle.fabric_status.specs.Writes.{Wrote as Written}
use Rattle.world_rules.specs.Runs.{History}
use Rattle.schedule_rules.specs.Endings.{EndsSo, WritesText, whole, stopped, Stopped, StoppedText}
use Rattle.schedule_rules.specs.Halts.{Wrote, WroteFault, HaltsWell}
use Rattle.schedule_rules.specs.Schedule.{Judged}
use Rattle.schedule_rules.specs.Telling.{Telling, IsTold, IsToldAt, lines_judged}
use Rattle.schedule_rules.proofs.Fronts.{grew_more, grew_as, front_of, front_behind}

-- the text is written whole with this status, or a front of it with that of a sink that fails or wants memory
abbrev pub Closed : Status → List ℕ → Status → Option (List ℕ) → Option (List ℕ) → Type 0
Closed wanted text ended old new =
    ((ended ≡ wanted) × Grew old new text) ⊎ (((ended ≡ status.OutOfMemory) × GrewByFront old new text) ⊎ ((ended ≡ status.WriteFault) × GrewByFront old new text))

pub closed : (wanted ended : Status) (old mid new : Option (List ℕ)) (text lines more : List ℕ) (before now : ℕ) → Wrote old mid text lines → Written wanted (text ++ more) ended mid new before now → Closed wanted (lines ++ more) ended old new
closed wanted ended old mid new text lines more before now wrote written =
    let same : wrote.0 ++ (text ++ more) ≡ lines ++ more = sym (append_assoc wrote.0 text more) ∙ ap (λ l. l ++ more) wrote.2 in
    let front : GrewByFront mid new (text ++ more) → GrewByFront old new (lines ++ more) =
    λ second. front_behind old mid new wrote.0 (text ++ more) [] (lines ++ more) (ap (λ t. wrote.0 ++ t) (append-nil (text ++ more)) ∙ same) wrote.1 second in
    ⊎_elim
    (λ all. inl (all.0, grew_as old new (wrote.0 ++ (text ++ more)) (lines ++ more) same (grew_more old mid new wrote.0 (text ++ more) wrote.1 all.1)))
    (λ short. ⊎_elim
    (λ memory. inr (inl (memory.0, front memory.1)))
    (λ sink. inr (inr (sink.0, front sink.1)))
    short)
    written

pub closed_fault : (wanted ended : Status) (old mid new : Option (List ℕ)) (text lines : List ℕ) (before now : ℕ) → Wrote old mid text lines → WroteFault wanted text ended mid new before now → Closed wanted (lines ++ fault_line wanted) ended old new
closed_fault wanted ended old mid new text lines before now wrote written =
    ⊎_elim
    (λ some. closed wanted ended old mid new text lines (fault_line wanted) before now wrote some)
    (λ none. inr (inl (
      none.0,
      subst (λ s. GrewByFront old s (lines ++ fault_line wanted)) (sym none.1)
          (front_of old mid wrote.0 (text ++ fault_line wanted) (lines ++ fault_line wanted) (sym (append_assoc wrote.0 text (fault_line wanted)) ∙ ap (λ l. l ++ fault_line wanted) wrote.2) wrote.1),
    )))
    written

-- how it ends where nothing fails
abbrev pub status_after : Option Refusal → Status
status_after None = status.Ok
status_after (Some refusal) = status_of refusal

ends_whole : (Text : Judged → List ℕ → Type 0) (lines : Option FabricConfig → History → List ℕ) (j : Judged) (left : Option (List ℕ)) (failed : Type 0) (old new : Option (List ℕ)) (refusal : Option Refusal) → WritesText Text j refusal old new → EndsSo Text lines (status_after refusal) j left failed old new
ends_whole Text lines j left failed old new None w = w
ends_whole Text lines j left failed old new (Some (BadConfig e)) w = w
ends_whole Text lines j left failed old new (Some (BadLine n)) w = w
ends_whole Text lines j left failed old new (Some (DriftBroken n)) w = w
ends_whole Text lines j left failed old new (Some (NoSuch n)) w = w
ends_whole Text lines j left failed old new (Some (TooLarge n)) w = w

ends_text : (t : Telling) (j : Judged) (left : Option (List ℕ)) (failed : Type 0) (old new : Option (List ℕ)) (refusal : Option Refusal) (text : List ℕ) (ended : Status) → j.refused ≡ refusal → IsTold t j text → Closed (status_after refusal) text ended old new → EndsSo (IsTold t) (lines_judged t) ended j left failed old new
ends_text t j left failed old new refusal text ended is told closed =
    ⊎_elim
    (λ all. subst (λ s. EndsSo (IsTold t) (lines_judged t) s j left failed old new) (sym all.0)
    (ends_whole (IsTold t) (lines_judged t) j left failed old new refusal (record { refused = is; text = text; output = told; grew = all.1 })))
    (λ short. ⊎_elim
    (λ memory. subst (λ s. EndsSo (IsTold t) (lines_judged t) s j left failed old new) (sym memory.0) (whole text told memory.1))
    (λ sink. subst (λ s. EndsSo (IsTold t) (lines_judged t) s j left failed old new) (sym sink.0) (whole text told sink.1))
    short)
    closed

pub ends_well : (t : Telling) (j : Judged) (left : Option (List ℕ)) (failed : Type 0) (old mid new : Option (List ℕ)) (text : List ℕ) (ended : Status) (before now : ℕ) → HaltsWell t j left old mid text → Written status.Ok text ended mid new before now → EndsSo (IsTold t) (lines_judged t) ended j left failed old new
ends_well t j left failed old mid new text ended before now halts written =
    let waits : Written status.Ok (text ++ []) ended mid new before now = subst (λ m. Written status.Ok m ended mid new before now) (sym (append-nil text)) written in
    ends_text t j left failed old new None halts.all ended halts.good halts.told
    (subst (λ m. Closed status.Ok m ended old new) (append-nil halts.all) (closed status.Ok ended old mid new text halts.all [] before now halts.wrote waits))

pub ends_refused : (t : Telling) (j : Judged) (left : Option (List ℕ)) (failed : Type 0) (old mid new : Option (List ℕ)) (text : List ℕ) (refusal : Refusal) (wanted ended : Status) (before now : ℕ) → wanted ≡ status_of refusal → j.refused ≡ Some refusal → Wrote old mid text (lines_judged t j.config j.history) → WroteFault wanted text ended mid new before now → EndsSo (IsTold t) (lines_judged t) ended j left failed old new
ends_refused t j left failed old mid new text refusal wanted ended before now wants is wrote written =
    let all = lines_judged t j.config j.history ++ fault_line (status_of refusal) in
    let told : IsTold t j all = subst (λ r. IsToldAt t j r all) (sym is) refl in
    ends_text t j left failed old new (Some refusal) all ended is told
    (closed_fault (status_of refusal) ended old mid new text (lines_judged t j.config j.history) before now wrote (subst (λ s. WroteFault s text ended mid new before now) wants written))

pub ends_stopped : (t : Telling) (j : Judged) (left : Option (List ℕ)) (failed : Type 0) (old mid new : Option (List ℕ)) (text : List ℕ) (config : Option FabricConfig) (history : History) (ended : Status) (before now : ℕ) → failed → Stopped j left config history → Wrote old mid text (lines_judged t config history) → WroteFault status.ReadFault text ended mid new before now → EndsSo (IsTold t) (lines_judged t) ended j left failed old new
ends_stopped t j left failed old mid new text config history ended before now cause stop wrote written =
    let all = lines_judged t config history ++ fault_line status.ReadFault in
    let output : StoppedText (lines_judged t) j left all = (config, history, stop, refl) in
    ⊎_elim
    (λ done. subst (λ s. EndsSo (IsTold t) (lines_judged t) s j left failed old new) (sym done.0) (record { text = all; output = output; grew = done.1 }))
    (λ short. ⊎_elim
    (λ memory. subst (λ s. EndsSo (IsTold t) (lines_judged t) s j left failed old new) (sym memory.0) (stopped all cause output memory.1))
    (λ sink. subst (λ s. EndsSo (IsTold t) (lines_judged t) s j left failed old new) (sym sink.0) (stopped all cause output sink.1))
    short)
    (closed_fault status.ReadFault ended old mid new text (lines_judged t config history) before now wrote written)

pub risen_since : (first before now : ℕ) → first ≤ before → HasRisen before now → HasRisen first now
risen_since first before now later risen = ⊎_elim (λ rose. inl (omega arith)) (λ full. inr full) risen
