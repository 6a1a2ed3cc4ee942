-- What the auditor has heard of a run, with one more moment.
use Rattle.std.proofs.Common.{◌≡◌, ℕ, ◌∷◌, Option, Some, None, sym, subst}
use Rattle.std.specs.Prelude.{if◌then◌else◌}
use Rattle.ring_points.specs.declared.who.Who.{Who}
use Rattle.ring_points.specs.Whos.{same_who}
use Rattle.fabric_terms.specs.Primaries.{Safe}
use Rattle.fabric_terms.specs.Reports.{Told, told, told_on}
use Rattle.fabric_terms.specs.Runs.{Clocks, Entry, Run, last_own}
use Rattle.fabric_terms.specs.TakeOvers.{was_taken_over}
use Rattle.run_audit.specs.declared.auditor.Auditor.{Auditor}
use Rattle.run_audit.specs.declared.bounds.Lapse.{Lapse}
use Rattle.run_audit.specs.declared.primaries.Rivals.{Rivals}
use Rattle.run_audit.specs.Auditing.{IsUpToDate, HasHeard}
use Rattle.run_audit.specs.Breaches.{rivals_in, lapse_in}
use Rattle.run_audit.specs.Owners.{own_at, taken_at}
use Rattle.run_audit.specs.Tables.{Keeps, KeepsBounds}
use Rattle.run_audit.proofs.Knowing.{knows_more, knows_still}
use Rattle.run_audit.proofs.Safes.{sound_end}

-- nothing was told
pub heard_none : (a : Auditor) (line time : ℕ) (clocks : Clocks) (e : Option Entry) (run : Run) → e ≡ None → Safe run → IsUpToDate a run
    → HasHeard a (record { line = line; time = time; clocks = clocks; entry = e } ∷ run) (record { rivals = None; lapse = None })
heard_none a line time clocks e run none safe up = subst (λ (x : Option Entry). HasHeard a (record { line = line; time = time; clocks = clocks; entry = x } ∷ run) (record { rivals = None; lapse = None })) (sym none) (record {
  knows = knows_still a.owners a.primaries a.bounds line time clocks run up.knows;
  taken = up.taken;
  found = record { rivals = sym (sound_end run safe).primaries; lapse = sym (sound_end run safe).epochs };
})

-- an entry was heard
pub heard_some : (old new : Auditor) (line time : ℕ) (clocks : Clocks) (e : Option Entry) (x : Entry) (run : Run) (rivals : Option Rivals) (lapse : Option Lapse)
    → e ≡ Some x → Safe run → IsUpToDate old run
    → ((w : Who) → own_at w new.owners ≡ (if same_who x.who w then last_own x.reports (own_at w old.owners) else own_at w old.owners))
    → ((t : Told) → ((v : Who) → taken_at v old.taken ≡ was_taken_over v t) → (v : Who) → taken_at v new.taken ≡ was_taken_over v (told_on x.who x.reports t))
    → ((t : Told) → Keeps old.primaries t → rivals_in t ≡ None → Keeps new.primaries (told_on x.who x.reports t) × (rivals ≡ rivals_in (told_on x.who x.reports t)))
    → ((t : Told) → KeepsBounds old.bounds t → lapse_in t ≡ None → KeepsBounds new.bounds (told_on x.who x.reports t) × (lapse ≡ lapse_in (told_on x.who x.reports t)))
    → HasHeard new (record { line = line; time = time; clocks = clocks; entry = e } ∷ run) (record { rivals = rivals; lapse = lapse })
heard_some old new line time clocks e x run rivals lapse some safe up own taken primaries bounds = subst (λ (y : Option Entry). HasHeard new (record { line = line; time = time; clocks = clocks; entry = y } ∷ run) (record { rivals = rivals; lapse = lapse })) (sym some) (record {
  knows = knows_more old.owners new.owners old.primaries new.primaries old.bounds new.bounds line time clocks x run up.knows own first.0 second.0;
  taken = taken (told run) up.taken;
  found = record { rivals = first.1; lapse = second.1 };
})
  where
    first : Keeps new.primaries (told_on x.who x.reports (told run)) × (rivals ≡ rivals_in (told_on x.who x.reports (told run)))
    first = primaries (told run) up.knows.primaries (sound_end run safe).primaries

    second : KeepsBounds new.bounds (told_on x.who x.reports (told run)) × (lapse ≡ lapse_in (told_on x.who x.reports (told run)))
    second = bounds (told run) up.knows.bounds (sound_end run safe).epochs
