-- What the teller writes is what `writes` writes.
use Rattle.std.proofs.Common.{◌≡◌, ℕ, true, List, [], ◌∷◌, ◌++◌, length, Option, Some, None, Result, Ok, Err, OnOk, inl, inr, refl, sym, ap, ◌∙◌, append_assoc}
use Rattle.std.proofs.lemmas.List.{append-nil}
use Rattle.fabric_status.specs.Codes.{status_of}
use Rattle.fabric_status.specs.Faults.{fault_line}
use Rattle.fabric_status.specs.declared.status.Refusal.{Refusal}
use Rattle.fabric_status.specs.declared.status.Refusal.TheVariants as refusal
use Rattle.fabric_status.specs.declared.status.Status.{Status}
use Rattle.fabric_status.specs.declared.status.Status.TheVariants as status
use Rattle.fabric_terms.specs.declared.config.FabricConfig.{FabricConfig}
use Rattle.unit_rules.specs.Ruled.{ruled}
use Rattle.schedule_rules.specs.Endings.{EndsSo, WritesText}
use Rattle.schedule_rules.specs.Output.{end_line}
use Rattle.schedule_rules.specs.Replays.{IsDone}
use Rattle.schedule_rules.specs.Schedule.{Judged}
use Rattle.schedule_rules.specs.Telling.{IsTold, IsToldAt, IsToldWhole, lines_judged, lines_told}
use Rattle.schedule_rules.proofs.Endings.{ends_as}
use Rattle.world_rules.specs.Runs.{History}
use Rattle.write_safety.specs.Books.{KeptLog, logs_rise}
use Rattle.write_safety.specs.Fed.{HasCommitted}
use Rattle.write_safety.specs.Lines.{kept_lines}
use Rattle.schedule_writes.specs.Writes.{IsKept, IsKeptOf, IsOutput, IsOutputAt, Writes, no_lines, writes_telling}

pub on_ok : {E : Type 0} (r : Result (Unit {0}) E) (P Q : Type 0) → (P → Q) → OnOk r P → OnOk r Q
on_ok (Ok u) P Q f p = f p
on_ok (Err e) P Q f p = p

-- the lines of a book that has the committed logs, and the end
pub closed : (c : FabricConfig) (h : History) (book : List KeptLog) (events frames : ℕ) (old mid new : List ℕ) → logs_rise book ≡ true → HasCommitted c h book → events ≡ length h → frames ≡ (ruled c h).count
    → mid ≡ old ++ kept_lines book → new ≡ mid ++ end_line events frames → (ending : List ℕ) × IsKept c h ending × (new ≡ old ++ ending)
closed c h book events frames old mid new rise has all sent first second = (
  kept_lines book ++ end_line events frames,
  record { logs = book; rise = rise; committed = has; written = ap (λ n. kept_lines book ++ end_line n frames) all ∙ ap (λ n. kept_lines book ++ end_line (length h) n) sent },
  second ∙ (ap (λ t. t ++ end_line events frames) first ∙ append_assoc old (kept_lines book) (end_line events frames)),
)

nothing_told : (c : FabricConfig) (h : History) → lines_told writes_telling c h ≡ []
nothing_told c [] = refl
nothing_told c (e ∷ h) = append-nil (lines_told writes_telling c h) ∙ nothing_told c h

nothing_judged : (o : Option FabricConfig) (h : History) → lines_judged writes_telling o h ≡ no_lines o h
nothing_judged None h = refl
nothing_judged (Some c) h = nothing_told c h

kept_of : (o : Option FabricConfig) (h : History) (text : List ℕ) → IsToldWhole writes_telling o h text → IsKeptOf o h text
kept_of None h text told = told
kept_of (Some c) h text told =
    let kept = told.1 in
    record {
      logs = kept.logs;
      rise = kept.rise;
      committed = kept.committed;
      written = told.2 ∙ (ap (λ l. l ++ told.0) (nothing_told c h) ∙ kept.written);
    }

output_at : (j : Judged) (refusal : Option Refusal) (text : List ℕ) → IsToldAt writes_telling j refusal text → IsOutputAt j refusal text
output_at j None text told = kept_of j.config j.history text told
output_at j (Some refusal) text told = told ∙ ap (λ l. l ++ fault_line (status_of refusal)) (nothing_judged j.config j.history)

output_of : (j : Judged) (text : List ℕ) → IsTold writes_telling j text → IsOutput j text
output_of j text told = output_at j j.refused text told

pub committed_writes : (ended : Status) (j : Judged) (left : Option (List ℕ)) (failed : Type 0) (old new : Option (List ℕ)) → EndsSo (IsTold writes_telling) (lines_judged writes_telling) ended j left failed old new → Writes ended j left failed old new
committed_writes ended j left failed old new w =
    ends_as (IsTold writes_telling) IsOutput (lines_judged writes_telling) no_lines j (output_of j) nothing_judged ended left failed old new w

-- a good schedule is done, or memory was short, where no device failed

good : (j : Judged) (r : Refusal) (old new : Option (List ℕ)) → WritesText IsOutput j (Some r) old new → j.refused ≡ None → ⊥
good j r old new w none = let no : None ≡ Some r = sym none ∙ w.refused in cc

pub is_done : (ended : Status) (j : Judged) (left : Option (List ℕ)) (failed : Type 0) (old new : Option (List ℕ)) → Writes ended j left failed old new → j.refused ≡ None
    → (ended ≡ status.ReadFault → ⊥) → (ended ≡ status.WriteFault → ⊥) → IsDone ended
is_done status.Ok j left failed old new w none read write = inl refl
is_done status.OutOfMemory j left failed old new w none read write = inr refl
is_done status.ReadFault j left failed old new w none read write = absurd (read refl)
is_done status.WriteFault j left failed old new w none read write = absurd (write refl)
is_done (status.BadConfig e) j left failed old new w none read write = absurd (good j (refusal.BadConfig e) old new w none)
is_done (status.BadLine n) j left failed old new w none read write = absurd (good j (refusal.BadLine n) old new w none)
is_done (status.DriftBroken n) j left failed old new w none read write = absurd (good j (refusal.DriftBroken n) old new w none)
is_done (status.NoSuch n) j left failed old new w none read write = absurd (good j (refusal.NoSuch n) old new w none)
is_done (status.TooLarge n) j left failed old new w none read write = absurd (good j (refusal.TooLarge n) old new w none)
is_done status.Usage j left failed old new w none read write = absurd w
is_done status.KeepFault j left failed old new w none read write = absurd w
is_done status.LinkFault j left failed old new w none read write = absurd w
is_done (status.ClockBack former latter) j left failed old new w none read write = absurd w
is_done (status.Left why) j left failed old new w none read write = absurd w
is_done (status.BadKeep i) j left failed old new w none read write = absurd w
is_done status.TableFull j left failed old new w none read write = absurd w
