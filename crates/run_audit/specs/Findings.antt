-- What is found at the end of a run, from its holders and its reports.
use Rattle.std.specs.Prelude.{◌≡◌, ℕ, List, ◌∷◌, Option, Some, None}
use Rattle.ring_points.specs.declared.who.Who.{Who}
use Rattle.fabric_terms.specs.Primaries.{Safe}
use Rattle.fabric_terms.specs.Reports.{told}
use Rattle.fabric_terms.specs.Runs.{Moment, Run}
use Rattle.fabric_terms.specs.TakeOvers.{was_taken_over}
use Rattle.run_audit.specs.declared.bounds.Lapse.{Lapse}
use Rattle.run_audit.specs.declared.breach.Breach.{Breach}
use Rattle.run_audit.specs.declared.breach.Breach.TheVariants.{Primary, Older}
use Rattle.run_audit.specs.declared.finding.Findings.{Findings}
use Rattle.run_audit.specs.declared.overlap.LiveHolder.{LiveHolder}
use Rattle.run_audit.specs.declared.primaries.Rivals.{Rivals}
use Rattle.run_audit.specs.declared.take_overs.TakeOvers.{TakeOvers}
use Rattle.run_audit.specs.Breaches.{rivals_in, lapse_in}
use Rattle.run_audit.specs.Owners.{taken_at}
use Rattle.run_audit.specs.Standing.{AreHolders, IsFinding}

-- the breach by the reports
abbrev pub breach_of : ℕ → Option Rivals → Option Lapse → Option Breach
breach_of line (Some r) lapse = Some (Primary line r.partition r.epoch r.a r.b)
breach_of line None (Some l) = Some (Older line l.node l.partition l.had l.got)
breach_of line None None = None

-- these findings are those of the reports of the run
pub record AreFindings (findings : Findings) (run : Run) : Type 0 where
  pub rivals : findings.rivals ≡ rivals_in (told run)
  pub lapse : findings.lapse ≡ lapse_in (told run)

-- of a run that was safe before, whose holders, victims and findings these are, it is what is found
abbrev pub Finds : ℕ → List LiveHolder → TakeOvers → Findings → Option Breach → Type 0
Finds line rows taken findings b = (m : Moment) (ms : Run) → m.line ≡ line → Safe ms → AreHolders ms (m ∷ ms) rows
    → ((v : Who) → taken_at v taken ≡ was_taken_over v (told (m ∷ ms))) → AreFindings findings (m ∷ ms) → IsFinding m ms b
