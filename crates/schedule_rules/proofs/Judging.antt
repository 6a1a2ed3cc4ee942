-- How a line is judged, and what is judged after it.
use Rattle.std.proofs.Common.{◌≡◌, ℕ, ◌+◌, List, ◌∷◌, length, Some, refl}
use Rattle.fabric_terms.specs.declared.config.FabricConfig.{FabricConfig}
use Rattle.unit_rules.specs.Ruled.{ruled}
use Rattle.world_rules.specs.Runs.{History}
use Rattle.schedule_rules.specs.Schedule.{LineVerdict, Ignored, Accepted, Refused, Judged, line_verdict, judge_from, judged_at}

abbrev pub judge_on : FabricConfig → History → ℕ → List (List ℕ) → LineVerdict → Judged
judge_on c h n ls Ignored = judge_from c h (n + 1) ls
judge_on c h n ls (Accepted e) = judge_from c ((n, e) ∷ h) (n + 1) ls
judge_on c h n ls (Refused status) = judged_at c h (Some status)

pub judge_line : (c : FabricConfig) (h : History) (n : ℕ) (l : List ℕ) (ls : List (List ℕ)) → judge_from c h n (l ∷ ls) ≡ judge_on c h n ls (line_verdict c (ruled c h) (length h) n l)
judge_line c h n l ls = by_verdict (line_verdict c (ruled c h) (length h) n l)
  where
    by_verdict : (v : LineVerdict) → (elim v [ Ignored ↦ judge_from c h (n + 1) ls | Accepted e ↦ judge_from c ((n, e) ∷ h) (n + 1) ls | Refused status ↦ judged_at c h (Some status) ]) ≡ judge_on c h n ls v
    by_verdict Ignored = refl
    by_verdict (Accepted e) = refl
    by_verdict (Refused status) = refl
