-- What `trace` writes of a good schedule is audited as safe.
use Rattle.std.proofs.Common.{◌≡◌, ℕ, suc, List, [], ◌∷◌, ◌++◌, length, Option, Some, None, Ok, refl, ap, subst, ◌∙◌}
use Rattle.std.proofs.lemmas.List.{append-nil}
use Rattle.unit_rules.specs.Fabric.{fabric}
use Rattle.fabric_status.specs.declared.status.Refusal.{Refusal}
use Rattle.fabric_terms.specs.declared.config.FabricConfig.{FabricConfig}
use Rattle.fabric_terms.specs.Primaries.{Safe}
use Rattle.fabric_terms.specs.Runs.{Run}
use Rattle.frame_format.specs.Kinds.{is_frame}
use Rattle.trace_audit.proofs.SafeRuns.{runs_are_safe_lem}
use Rattle.schedule_rules.specs.Laws.{IsValidHistory}
use Rattle.schedule_rules.specs.Schedule.{judge}
use Rattle.schedule_rules.specs.Telling.{IsToldAt, IsToldWhole, lines_told}
use Rattle.schedule_rules.specs.Tellings.{newest, trace_telling}
use Rattle.schedule_rules.specs.Traces.{group}
use Rattle.schedule_rules.proofs.Accepted.{accepted_valid}
use Rattle.transcript_audit.specs.Transcript.{transcript_of}
use Rattle.world_rules.specs.Runs.{History, run_of}
use Rattle.trace_audit.specs.Laws.{IsTraceOf, TracedSchedulesAreSafe}
use Rattle.trace_audit.specs.Recordings.{IsRecording, groups_of_run, trace_of}
use Rattle.trace_audit.specs.Traced.{IsAnsweredSafe, WithinLimits}
use Rattle.trace_audit.proofs.Reading.{recordings_are_read}
use Rattle.trace_audit.proofs.Recorded.{accepted_steps, is_recording}
use Rattle.trace_audit.proofs.Verdicts.{answered_safe}

-- the text of a history is that of its run
text_of : (c : FabricConfig) (h : History) → lines_told trace_telling c h ≡ trace_of (run_of fabric c h)
text_of c [] = refl
text_of c (e ∷ es) = ap (λ t. t ++ newest group (run_of fabric c (e ∷ es))) (text_of c es)

as_long : (c : FabricConfig) (h : History) → length (run_of fabric c h) ≡ length h
as_long c [] = refl
as_long c (e ∷ es) = ap (λ n. suc n) (as_long c es)

module _ (bytes text : List ℕ) (limits : WithinLimits text) where
  with_config : (o : Option FabricConfig) → (judge bytes).config ≡ o → IsToldWhole trace_telling o (judge bytes).history text → IsTraceOf bytes text
  with_config None is told = absurd told
  with_config (Some c) is told =
      let h : History = (judge bytes).history in
      let run : Run = run_of fabric c h in
      let good : IsValidHistory c h = accepted_valid bytes c is in
      let recording : IsRecording run = is_recording c h good (accepted_steps bytes c is) told.1.few in
      let same : text ≡ trace_of run = told.2 ∙ (ap (λ e. lines_told trace_telling c h ++ e) told.1.nothing ∙ (append-nil (lines_told trace_telling c h) ∙ text_of c h)) in
      let read : transcript_of text ≡ Ok (groups_of_run run) =
      ap transcript_of same ∙ recordings_are_read run recording (subst (λ t. WithinLimits t) same limits) in
      let safe : Safe run = runs_are_safe_lem is_frame c h good.sound good.valid in
      record {
        config = c;
        judged = is;
        groups = read;
        safe = subst (λ n. IsAnsweredSafe text n) (as_long c h) (answered_safe text run recording.rise safe read);
      }

pub traced_schedules_are_safe : TracedSchedulesAreSafe
traced_schedules_are_safe bytes text good told limits =
    with_config bytes text limits (judge bytes).config refl (subst (λ (o : Option Refusal). IsToldAt trace_telling (judge bytes) o text) good told)
