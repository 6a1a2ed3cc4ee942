-- The run of what is accepted is safe, since it is the run of a valid schedule.
use Rattle.std.proofs.Common.{◌≡◌, ℕ, zero, suc, List, [], ◌∷◌, Option, Some, None, Contains, refl, drop}
use Rattle.fabric_terms.specs.declared.config.FabricConfig.{FabricConfig}
use Rattle.fabric_terms.specs.Primaries.{NoOlder, OnePrimary}
use Rattle.fabric_terms.specs.Runs.{Holds, RingSafe}
use Rattle.fabric_terms.specs.declared.report.Report.{Report}
use Rattle.fabric_terms.specs.declared.report.Report.TheVariants.{Accepted, IsPrimary}
use Rattle.fabric_terms.specs.TakeOvers.{TakenAfterLeave}
use Rattle.std.proofs.lemmas.List.Elements.{All-contains, All-nil}
use Rattle.fabric_terms.specs.Reports.{told}
use Rattle.ring_points.specs.declared.unit.Epoch.{Epoch}
use Rattle.ring_points.specs.declared.who.Who.{Who}
use Rattle.unit_rules.specs.Fabric.{fabric_stays, fabric}
use Rattle.ring_safety.proofs.Safe.{answers_exclude_lem, leaves_before_take_over_lem, one_heir_lem}
use Rattle.ring_safety.proofs.Safe.{places_are_kept_lem, ring_is_safe_lem}
use Rattle.epoch_safety.specs.Laws.{OverValidRuns}
use Rattle.epoch_safety.proofs.Answers.{valid_drop}
use Rattle.epoch_safety.proofs.Naming.{names_covered_lem}
use Rattle.epoch_safety.proofs.Primaries.{no_older_lem, one_primary_lem}
use Rattle.epoch_safety.proofs.Resting.{answers_of_committed_lem}
use Rattle.epoch_safety.proofs.Written.{writes_kept_lem}
use Rattle.run_promises.specs.Answers.{AnswersOfCommitted}
use Rattle.run_promises.specs.Arbitrators.{AnswersExclude, OneHeir}
use Rattle.run_promises.specs.Covered.{NamesCovered}
use Rattle.run_promises.specs.Writes.{CommitsAgree, WritesKept}
use Rattle.write_safety.proofs.Agreed.{commits_agree_lem}
use Rattle.frame_format.specs.Kinds.{is_frame}
use Rattle.world_rules.specs.Runs.{History}
use Rattle.schedule_rules.specs.Laws.{IsValidHistory}
use Rattle.schedule_rules.specs.Output.{run_judged}
use Rattle.schedule_rules.specs.Schedule.{judge}
use Rattle.fabric_top.specs.Safe.{AtEachMoment, IsSafe, KeepsPlaces}
use Rattle.schedule_rules.proofs.Accepted.{accepted_valid}

-- before any event nobody holds anything
no_clock : (ago : ℕ) (w : Who) (p : ℕ) → Holds (drop ago []) w p → ⊥
no_clock zero w p holds = let k = holds.runs in cc
no_clock (suc ago) w p holds = let k = holds.runs in cc

-- nothing was told
none_told : (newer : ℕ) (t : Who × Report) (before : List (Who × Report)) → drop newer [] ≡ t ∷ before → ⊥
none_told zero t before e = cc
none_told (suc newer) t before e = cc

nothing_there : (v : Who) (partition : ℕ) (epoch : Epoch) → Contains (told []) (v, IsPrimary partition epoch) → ⊥
nothing_there v partition epoch there = All-contains (λ (x : Who × Report). ⊥) [] (v, IsPrimary partition epoch) (All-nil (λ (x : Who × Report). ⊥)) there

-- what is promised of what is seen of a run
record IsSafeRun (o : Option FabricConfig) (h : History) : Type 0 where
  pub ring : RingSafe (run_judged o h)
  pub taken : TakenAfterLeave (run_judged o h)
  pub places : KeepsPlaces o (run_judged o h)
  pub primaries : OnePrimary (run_judged o h)
  pub epochs : NoOlder (run_judged o h)

module _ (o : Option FabricConfig) (h : History) (valid : (c : FabricConfig) → o ≡ Some c → IsValidHistory c h) where
  safe_run : IsSafeRun o h
  safe_run = by o refl
    where
      by : (p : Option FabricConfig) → o ≡ p → IsSafeRun p h
      by None is = record {
        ring = record { one_holder = λ ago p v w holds_v holds_w. absurd (no_clock ago v p holds_v) };
        taken = record { holds_nothing = λ ago p v taken holds. no_clock ago v p holds };
        places = tt;
        primaries = record { one = λ partition epoch v w told_v told_w. absurd (nothing_there v partition epoch told_v) };
        epochs = record { not_older = λ newer partition lsn epoch earlier v w before r e there same bound older. none_told newer (v, Accepted partition epoch lsn) before e };
      }
      by (Some c) is =
          let v = valid c is in
          record {
            ring = ring_is_safe_lem fabric fabric_stays is_frame c h v.sound v.valid;
            taken = leaves_before_take_over_lem fabric fabric_stays is_frame c h v.sound v.valid;
            places = places_are_kept_lem fabric fabric_stays is_frame c h v.sound v.valid;
            primaries = one_primary_lem is_frame c h v.sound v.valid;
            epochs = no_older_lem is_frame c h v.sound v.valid;
          }

  -- what holds over every valid run holds at each moment, since each front of a valid history is valid
  at_each : (Holds : FabricConfig → History → Type 0) → OverValidRuns Holds → AtEachMoment Holds o h
  at_each Holds law = by o refl
    where
      by : (p : Option FabricConfig) → o ≡ p → AtEachMoment Holds p h
      by None is = tt
      by (Some c) is = λ ago. let v = valid c is in law is_frame c (drop ago h) v.sound (valid_drop is_frame c h ago v.valid)

-- Whatever the bytes are, the run of the events that are accepted is safe.
pub accepted_is_safe : (bytes : List ℕ) → IsSafe (judge bytes)
accepted_is_safe bytes =
    let o = (judge bytes).config in
    let h = (judge bytes).history in
    let safe = safe_run o h (accepted_valid bytes) in
    let each = at_each o h (accepted_valid bytes) in
    record {
      ring = safe.ring;
      taken = safe.taken;
      places = safe.places;
      exclude = each (AnswersExclude fabric) (answers_exclude_lem fabric fabric_stays);
      heirs = each (OneHeir fabric) (one_heir_lem fabric fabric_stays);
      primaries = safe.primaries;
      epochs = safe.epochs;
      writes = each WritesKept writes_kept_lem;
      agree = each CommitsAgree commits_agree_lem;
      answers = each NamesCovered names_covered_lem;
      answered = each AnswersOfCommitted answers_of_committed_lem;
    }
