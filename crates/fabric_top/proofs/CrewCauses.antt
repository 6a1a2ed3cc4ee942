-- Why the status of a crew's command comes.
use Rattle.std.proofs.Common.{◌≡◌, ℕ, List, [], Option, Some, Result, Ok, Err, refl, ap, sym, subst, ◌∙◌, inl, inr}
use Rattle.edge_io.specs.Edge.{HasRisen}
use Rattle.fabric_status.specs.Codes.{status_of}
use Rattle.fabric_status.specs.Writes.{Wrote}
use Rattle.fabric_status.specs.declared.status.Refusal.{Refusal}
use Rattle.fabric_status.specs.declared.status.Refusal.TheVariants as refusal
use Rattle.fabric_status.specs.declared.status.Status.{Status}
use Rattle.fabric_status.specs.declared.status.Status.TheVariants as status
use Rattle.edge_io.specs.Told.{Told}
use Rattle.turn_plans.specs.Plans.{judge_plan}
use Rattle.turn_plans.specs.Reading.{Defines, IsAtEnd}
use Rattle.turn_plans.specs.declared.crew.Crew.{Crew}
use Rattle.turn_rules.specs.Plans.{Plan}
use Rattle.turn_rules.specs.Whole.{Bars, Cause, Completes, IsBadEnd, IsRun}
use Rattle.fabric_top.specs.CrewCauses.{AreJudged, CrewCause, EndsAs, IsCrewRun}
use Rattle.fabric_top.specs.CrewRuns.{AreRead, OnlyEnds, RunsCrew, RunsJudged, Seen, failed, read, short}

-- what holds of the wanted status, of want of memory, and of a fault of the sink, holds of the one that a last line ends with
by_wrote : (P : Status → Type 0) (wanted ended : Status) (text : List ℕ) (old new : Option (List ℕ)) (before now : ℕ) → P wanted → P status.OutOfMemory → (HasRisen before now → P status.WriteFault) → Wrote wanted text ended old new before now → P ended
by_wrote P wanted ended text old new before now whole memory sink (inl k) = subst P (sym k.0) whole
by_wrote P wanted ended text old new before now whole memory sink (inr (inl k)) = subst P (sym k.0) memory
by_wrote P wanted ended text old new before now whole memory sink (inr (inr k)) = subst P (sym k.0) (sink k.2)

module _ (crew : Crew) (turns : ℕ) (a : Seen) (ended : Status) (c : Seen) where
  abbrev Why : Status → Type 0
  Why s = CrewCause crew turns a s c

  -- the bytes that were read are those that the source tells
  judged : (bytes : List ℕ) (r : Result Plan Refusal) → AreRead crew turns bytes a.left c.left → judge_plan crew turns bytes ≡ r → AreJudged crew turns a.left r
  judged bytes r whole is = λ all told. ap (judge_plan crew turns) (sym (whole all told).0) ∙ is

  run_cause : (plan : Plan) (s : Status) → AreJudged crew turns a.left (Ok plan) → Cause plan a.told s c.told → Why s
  run_cause plan status.OutOfMemory is k = tt
  run_cause plan status.Usage is k = absurd k
  run_cause plan status.ReadFault is k = absurd k
  run_cause plan status.WriteFault is k = k
  run_cause plan (status.BadConfig e) is k = absurd k
  run_cause plan (status.BadLine n) is k = absurd k
  run_cause plan (status.DriftBroken n) is k = absurd k
  run_cause plan (status.NoSuch n) is k = absurd k
  run_cause plan (status.TooLarge n) is k = absurd k
  run_cause plan status.Ok is k = (plan, (is, k))
  run_cause plan status.KeepFault is k = (plan, (is, k))
  run_cause plan status.LinkFault is k = (plan, (is, k))
  run_cause plan (status.ClockBack former latter) is k = (plan, (is, k))
  run_cause plan (status.Left why) is k = (plan, (is, k))
  run_cause plan (status.BadKeep i) is k = (plan, (is, k))
  run_cause plan status.TableFull is k = (plan, (is, k))

  refused_cause : (r : Refusal) → AreJudged crew turns a.left (Err r) → Why (status_of r)
  refused_cause (refusal.BadConfig e) is = is
  refused_cause (refusal.BadLine n) is = is
  refused_cause (refusal.DriftBroken n) is = is
  refused_cause (refusal.NoSuch n) is = is
  refused_cause (refusal.TooLarge n) is = is

  judged_cause : (r : Result Plan Refusal) → AreJudged crew turns a.left r → RunsJudged r a.told ended c.told → Why ended
  judged_cause (Ok plan) is k = run_cause plan ended is k.cause
  judged_cause (Err r) is k = by_wrote Why (status_of r) ended _ _ _ _ _ (refused_cause r is) tt (λ risen. risen) k.wrote

  cause_of : RunsCrew crew turns a ended c → Why ended
  cause_of (failed risen ends) = by_wrote Why status.ReadFault ended _ _ _ _ _ risen tt (λ sink. sink) ends.wrote
  cause_of (short is same) = subst Why (sym is) tt
  cause_of (read bytes whole k) = judged_cause (judge_plan crew turns bytes) (judged bytes (judge_plan crew turns bytes) whole refl) k

  not_ok : (r : Refusal) → status_of r ≡ status.Ok → ⊥
  not_ok (refusal.BadConfig e) is = cc
  not_ok (refusal.BadLine n) is = cc
  not_ok (refusal.DriftBroken n) is = cc
  not_ok (refusal.NoSuch n) is = cc
  not_ok (refusal.TooLarge n) is = cc

  -- where all is done, all was read
  read_whole : RunsCrew crew turns a ended c → ended ≡ status.Ok → (bytes : List ℕ) → a.left ≡ Some bytes → c.left ≡ Some []
  read_whole (failed risen ends) ok bytes told =
      absurd (by_wrote (λ (s : Status). s ≡ status.Ok → ⊥) status.ReadFault ended _ _ _ _ _ (λ e. cc) (λ e. cc) (λ sink e. cc) ends.wrote ok)
  read_whole (short is same) ok bytes told = let no : status.OutOfMemory ≡ status.Ok = sym is ∙ ok in cc
  read_whole (read all whole k) ok bytes told = by_plan (judge_plan crew turns all) refl k
    where
      by_plan : (r : Result Plan Refusal) → judge_plan crew turns all ≡ r → RunsJudged r a.told ended c.told → c.left ≡ Some []
      by_plan (Ok plan) is done = (whole bytes told).1 plan is
      by_plan (Err r) is done = absurd (by_wrote (λ (s : Status). s ≡ status.Ok → ⊥) (status_of r) ended _ _ _ _ _ (not_ok r) (λ e. cc) (λ sink e. cc) done.wrote ok)

  refused_so : RunsCrew crew turns a ended c → (bytes : List ℕ) (r : Refusal) → a.left ≡ Some bytes → judge_plan crew turns bytes ≡ Err r →
      ¬ HasRisen a.source_faults c.source_faults → ¬ HasRisen a.told.sink_faults c.told.sink_faults → EndsAs (status_of r) ended
  refused_so (failed risen ends) bytes r told is source sink = absurd (source risen)
  refused_so (short memory same) bytes r told is source sink = inr memory
  refused_so (read all whole k) bytes r told is source sink =
      let same : judge_plan crew turns all ≡ Err r = ap (judge_plan crew turns) (whole bytes told).0 ∙ is in
      by_wrote (EndsAs (status_of r)) (status_of r) ended _ _ _ _ _ (inl refl) (inr refl) (λ risen. absurd (sink risen))
      (subst (λ (j : Result Plan Refusal). RunsJudged j a.told ended c.told) same k).wrote

  -- where memory was short before the run, nothing is opened
  memory_bars : (plan : Plan) → ended ≡ status.OutOfMemory → c.told ≡ a.told → Bars plan a.told ended c.told
  memory_bars plan memory same = λ tells i bad. (subst (IsBadEnd i) (sym memory) tt, ap (λ (t : Told). t.opened) same)

  run_complete : RunsCrew crew turns a ended c → (bytes : List ℕ) (plan : Plan) → a.left ≡ Some bytes → judge_plan crew turns bytes ≡ Ok plan →
      ¬ HasRisen a.source_faults c.source_faults → Completes plan a.told ended c.told
  run_complete (failed risen ends) bytes plan told is source = absurd (source risen)
  run_complete (short memory same) bytes plan told is source = subst (λ (s : Status). Completes plan a.told s c.told) (sym memory) (λ none links good. tt)
  run_complete (read all whole k) bytes plan told is source =
      let same : judge_plan crew turns all ≡ Ok plan = ap (judge_plan crew turns) (whole bytes told).0 ∙ is in
      (subst (λ (j : Result Plan Refusal). RunsJudged j a.told ended c.told) same k).complete

  barred : RunsCrew crew turns a ended c → (bytes : List ℕ) (plan : Plan) → a.left ≡ Some bytes → judge_plan crew turns bytes ≡ Ok plan →
      ¬ HasRisen a.source_faults c.source_faults → Bars plan a.told ended c.told
  barred (failed risen ends) bytes plan told is source = absurd (source risen)
  barred (short memory same) bytes plan told is source = memory_bars plan memory same
  barred (read all whole k) bytes plan told is source =
      let same : judge_plan crew turns all ≡ Ok plan = ap (judge_plan crew turns) (whole bytes told).0 ∙ is in
      (subst (λ (j : Result Plan Refusal). RunsJudged j a.told ended c.told) same k).bad

  pub crew_run : RunsCrew crew turns a ended c → IsCrewRun crew turns a ended c
  crew_run runs = record { runs = runs; cause = cause_of runs; read = read_whole runs; refused = refused_so runs; complete = run_complete runs; bad = barred runs }

  -- what a source defines is done
  pub crew_ran : (plan : Plan) → Defines crew turns a.left (Ok plan) → IsAtEnd a.left c.left → IsRun plan a.told ended c.told → IsCrewRun crew turns a ended c
  crew_ran plan defines end runs =
      crew_run (read defines.bytes (λ all told. (defines.all all told, λ other is. end all told)) (subst (λ (j : Result Plan Refusal). RunsJudged j a.told ended c.told) (sym defines.is) runs))

  pub crew_refused : (r : Refusal) → Defines crew turns a.left (Err r) → OnlyEnds (status_of r) a.told ended c.told → IsCrewRun crew turns a ended c
  crew_refused r defines ends =
      crew_run (read defines.bytes (λ all told. (defines.all all told, λ plan is. let no : Err r ≡ Ok plan = sym defines.is ∙ is in cc)) (subst (λ (j : Result Plan Refusal). RunsJudged j a.told ended c.told) (sym defines.is) ends))
