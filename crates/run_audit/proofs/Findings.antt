-- What is found at the end of a run, from its holders and its reports.
use Rattle.std.proofs.Common.{◌≡◌, ℕ, ◌≤◌, true, false, List, ◌∷◌, Option, Some, None, sym, ◌∙◌, subst, arith}
use Rattle.std.proofs.lemmas.Bool.Decides.{nat_tests}
use Rattle.ring_points.specs.declared.who.Who.{Who}
use Rattle.fabric_terms.specs.Reports.{told}
use Rattle.fabric_terms.specs.Runs.{Moment, Run, Holds}
use Rattle.fabric_terms.specs.TakeOvers.{was_taken_over}
use Rattle.run_audit.specs.declared.bounds.Lapse.{Lapse}
use Rattle.run_audit.specs.declared.breach.Breach.TheVariants.{Ring, Early}
use Rattle.run_audit.specs.declared.finding.Findings.{Findings}
use Rattle.run_audit.specs.declared.overlap.LiveHolder.{LiveHolder}
use Rattle.run_audit.specs.declared.overlap.Overlap.{Overlap}
use Rattle.run_audit.specs.declared.primaries.Rivals.{Rivals}
use Rattle.run_audit.specs.declared.take_overs.TakeOvers.{TakeOvers}
use Rattle.run_audit.specs.declared.victim.Victim.{Victim}
use Rattle.run_audit.specs.Breaches.{is_below, rivals_in, lapse_in, OneHolder, TakenHoldNothing, TakenHolds}
use Rattle.run_audit.specs.Findings.{Finds, breach_of}
use Rattle.run_audit.specs.Overlaps.{IsLeastOf, Among, AmongPairs}
use Rattle.run_audit.specs.Owners.{taken_at}
use Rattle.run_audit.specs.Standing.{AreHolders, IsFinding}
use Rattle.run_audit.specs.Victims.{is_named_before, IsLeastVictim, IsVictim}
use Rattle.run_audit.proofs.Holding.{one_holder, two_hold}
use Rattle.run_audit.proofs.Safes.{sound_end}

not_below : (c d : Victim) → is_named_before c d ≡ false → is_below c.who d.who ≡ false
not_below c d h = grind (arith, nat_tests)

not_lower : (w : Who) (p q : ℕ) → is_named_before (record { who = w; point = q }) (record { who = w; point = p }) ≡ false → p ≤ q
not_lower w p q h = grind (arith, nat_tests)

module _ (rows : List LiveHolder) (taken : TakeOvers) (m : Moment) (ms : Run) (are : AreHolders ms (m ∷ ms) rows)
    (over : (v : Who) → taken_at v taken ≡ was_taken_over v (told (m ∷ ms))) where
  victim : (x : Who) (q : ℕ) → was_taken_over x (told (m ∷ ms)) ≡ true → Holds (m ∷ ms) x q → Among rows (IsVictim taken) (record { who = x; point = q })
  victim x q taken_over holds =
      let h = are.all x q holds in
      (h.0, h.1, record { is = sym h.2; over = over h.0.who ∙ subst (λ w. was_taken_over w (told (m ∷ ms)) ≡ true) (sym h.2) taken_over; has = h.3 })

  pub nothing_taken : IsLeastVictim (Among rows (IsVictim taken)) None → TakenHoldNothing (m ∷ ms)
  nothing_taken none p v taken_over holds = none (record { who = v; point = p }) (victim v p taken_over holds)

  pub taken_holds : (v : Victim) → IsLeastVictim (Among rows (IsVictim taken)) (Some v) → TakenHolds (m ∷ ms) v.who v.point
  taken_holds v least = record {
    taken = subst (λ w. was_taken_over w (told (m ∷ ms)) ≡ true) (sym is.is) (sym (over least.0.0.who) ∙ is.over);
    holds = subst (λ w. Holds (m ∷ ms) w v.point) (sym is.is) (are.hold least.0.0 v.point least.0.1 is.has);
    least_victim = λ q x taken_over holds. not_below (record { who = x; point = q }) v (least.1 (record { who = x; point = q }) (victim x q taken_over holds));
    least_point = λ q holds. not_lower v.who v.point q (least.1 (record { who = v.who; point = q }) (victim v.who q mine holds));
  }
    where
      is : IsVictim taken least.0.0 v
      is = least.0.2

      mine : was_taken_over v.who (told (m ∷ ms)) ≡ true
      mine = subst (λ w. was_taken_over w (told (m ∷ ms)) ≡ true) (sym is.is) (sym (over least.0.0.who) ∙ is.over)

module _ (line : ℕ) (rows : List LiveHolder) (taken : TakeOvers) (findings : Findings) where
  pub finds_ring : (o : Overlap) → IsLeastOf (Among rows (AmongPairs rows)) (Some o) → Finds line rows taken findings (Some (Ring line (record { 0 = o.point }) o.a o.b))
  finds_ring o least m ms at safe are over found = (sym at, two_hold ms (m ∷ ms) rows are (sound_end ms safe).ring o least)

  pub finds_victim : (v : Victim) → IsLeastOf (Among rows (AmongPairs rows)) None → IsLeastVictim (Among rows (IsVictim taken)) (Some v)
      → Finds line rows taken findings (Some (Early line v.who (record { 0 = v.point })))
  finds_victim v none least m ms at safe are over found =
      (sym at, one_holder ms (m ∷ ms) rows are (sound_end ms safe).ring none, taken_holds rows taken m ms are over v least)

  pub finds_rest : IsLeastOf (Among rows (AmongPairs rows)) None → IsLeastVictim (Among rows (IsVictim taken)) None
      → Finds line rows taken findings (breach_of line findings.rivals findings.lapse)
  finds_rest none no_victim m ms at safe are over found = by findings.rivals findings.lapse (sym found.rivals) (sym found.lapse)
    where
      one : OneHolder (m ∷ ms)
      one = one_holder ms (m ∷ ms) rows are (sound_end ms safe).ring none

      nothing : TakenHoldNothing (m ∷ ms)
      nothing = nothing_taken rows taken m ms are over no_victim

      by : (r : Option Rivals) (l : Option Lapse) → rivals_in (told (m ∷ ms)) ≡ r → lapse_in (told (m ∷ ms)) ≡ l → IsFinding m ms (breach_of line r l)
      by (Some r) l e f = (sym at, one, nothing, e)
      by None (Some l) e f = (sym at, one, nothing, e, f)
      by None None e f = record { ring = one; taken = nothing; primaries = e; epochs = f }
