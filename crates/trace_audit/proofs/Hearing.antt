-- What is heard of a run is safe exactly as the run is.
use Rattle.std.proofs.Common.{◌≡◌, ℕ, Bool, true, false, cond, List, [], ◌∷◌, drop, Option, Some, None, refl, sym, ap, subst, ◌∙◌}
use Rattle.std.specs.Prelude.{Contains}
use Rattle.std.proofs.lemmas.List.{drop-map}
use Rattle.fabric_terms.specs.declared.report.Report.{Report}
use Rattle.fabric_terms.specs.declared.report.Report.TheVariants.{IsPrimary}
use Rattle.fabric_terms.specs.Primaries.{Safe}
use Rattle.fabric_terms.specs.Reports.{Told, told, told_in}
use Rattle.fabric_terms.specs.Runs.{Clocks, Entry, Holds, Owned, Run, clocks_of, own_in, own_of, reading_of}
use Rattle.fabric_terms.specs.TakeOvers.{was_taken_over}
use Rattle.ring_points.specs.declared.who.Who.{Who}
use Rattle.ring_points.specs.Whos.{same_who}
use Rattle.transcript_audit.specs.Groups.{entry_of, moment_of}
use Rattle.trace_audit.specs.Recordings.{group_of_moment, reports_in, teller_of, who_in}
use Rattle.trace_audit.proofs.Ordering.{heard}

-- An entry without reports is none to an auditor.

abbrev entry_heard : Option Entry → Option Entry
entry_heard o = entry_of (who_in o) (reports_in o)

own_heard_in : (w : Who) (o : Option Entry) (before : Option Owned) → own_in w (entry_heard o) before ≡ own_in w o before
own_heard_in w None before = refl
own_heard_in w (Some e) before = by_reports e.reports _
  where
    by_test : (b : Bool) → before ≡ cond b before before
    by_test true = refl
    by_test false = refl

    by_reports : (rs : List Report) (sends : Bool) →
        own_in w (entry_of (teller_of e.who rs sends) rs) before ≡ own_in w (Some (record e { reports = rs })) before
    by_reports [] true = by_test (same_who e.who w)
    by_reports [] false = by_test (same_who e.who w)
    by_reports (r ∷ rs) sends = refl

told_heard_in : (o : Option Entry) (before : Told) → told_in (entry_heard o) before ≡ told_in o before
told_heard_in None before = refl
told_heard_in (Some e) before = by_reports e.reports _
  where
    by_reports : (rs : List Report) (sends : Bool) → told_in (entry_of (teller_of e.who rs sends) rs) before ≡ told_in (Some (record e { reports = rs })) before
    by_reports [] true = refl
    by_reports [] false = refl
    by_reports (r ∷ rs) sends = refl

pub own_heard : (w : Who) (run : Run) → own_of w (heard run) ≡ own_of w run
own_heard w [] = refl
own_heard w (m ∷ ms) = own_heard_in w m.entry (own_of w (heard ms)) ∙ ap (own_in w m.entry) (own_heard w ms)

pub told_heard : (run : Run) → told (heard run) ≡ told run
told_heard [] = refl
told_heard (m ∷ ms) = told_heard_in m.entry (told (heard ms)) ∙ ap (told_in m.entry) (told_heard ms)

clocks_heard : (run : Run) → clocks_of (heard run) ≡ clocks_of run
clocks_heard [] = refl
clocks_heard (m ∷ ms) = refl

holds_heard : (run : Run) (w : Who) (p : ℕ) → Holds (heard run) w p → Holds run w p
holds_heard run w p h = record {
  reading = h.reading;
  owned = h.owned;
  runs = subst (λ (c : Clocks). reading_of w c ≡ Some h.reading) (clocks_heard run) h.runs;
  own = sym (own_heard w run) ∙ h.own;
  has = h.has;
  below = h.below;
}

holds_ago : (ago : ℕ) (run : Run) (w : Who) (p : ℕ) → Holds (drop ago (heard run)) w p → Holds (drop ago run) w p
holds_ago ago run w p h = holds_heard (drop ago run) w p (subst (λ r. Holds r w p) (drop-map (λ m. moment_of (group_of_moment m)) ago run) h)

told_ago : (ago : ℕ) (run : Run) → told (drop ago (heard run)) ≡ told (drop ago run)
told_ago ago run = ap told (drop-map (λ m. moment_of (group_of_moment m)) ago run) ∙ told_heard (drop ago run)

pub safe_heard : (run : Run) → Safe run → Safe (heard run)
safe_heard run safe = record {
  ring = record { one_holder = λ ago p v w h k. safe.ring.one_holder ago p v w (holds_ago ago run v p h) (holds_ago ago run w p k) };
  take_overs = record {
    holds_nothing = λ ago p v h k.
        safe.take_overs.holds_nothing ago p v (subst (λ t. was_taken_over v t ≡ true) (told_ago ago run) h) (holds_ago ago run v p k);
  };
  primaries = record {
    one = λ partition epoch v w h k.
        safe.primaries.one partition epoch v w (subst (λ t. Contains t (v, IsPrimary partition epoch)) (told_heard run) h)
        (subst (λ t. Contains t (w, IsPrimary partition epoch)) (told_heard run) k);
  };
  epochs = record {
    not_older = λ newer partition lsn epoch earlier v w before r h k same bound older.
        safe.epochs.not_older newer partition lsn epoch earlier v w before r (ap (drop newer) (sym (told_heard run)) ∙ h) k same bound older;
  };
}
