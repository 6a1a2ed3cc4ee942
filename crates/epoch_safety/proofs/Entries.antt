-- What entries of a run report: epochs are those of configurations.
use Rattle.std.proofs.Common.{◌≡◌, ℕ, Bool, true, false, cond, List, [], ◌∷◌, ◌++◌, Option, None, Some}
use Rattle.std.specs.List.{list_any}
use Rattle.fabric_lemmas.specs.Members.{IsMember}
use Rattle.fabric_terms.specs.declared.config.FabricConfig.{FabricConfig}
use Rattle.fabric_terms.specs.declared.report.Report.{Report}
use Rattle.fabric_terms.specs.declared.report.Report.TheVariants as report
use Rattle.fabric_terms.specs.Runs as runs
use Rattle.ring_points.specs.declared.unit.Epoch.{Epoch}
use Rattle.unit_rules.specs.Deeds.{Deed, Keep, Send, Tell, reports_of}
use Rattle.unit_rules.specs.Units.{units}
use Rattle.world_rules.specs.Above.{is_ring_report}
use Rattle.epoch_refinement.specs.Nodes.{IsRealIn, AllReal}
use Rattle.run_facts.specs.RingApart.{is_unit_report}
use Rattle.epoch_safety.proofs.Sending.{none_passes}
use Rattle.epoch_safety.proofs.Telling.{none_of}
use Rattle.cold_start.specs.Lives.{Lives, lives_step}

abbrev pub AreReal : List Report → Type 0
AreReal [] = Unit {0}
AreReal (r ∷ rs) = IsRealIn r × AreReal rs

abbrev pub IsRealEntry : Option runs.Entry → Type 0
IsRealEntry None = Unit {0}
IsRealEntry (Some e) = AreReal e.reports

pub real_join : (rs more : List Report) → AreReal rs → AreReal more → AreReal (rs ++ more)
real_join [] more h k = k
real_join (r ∷ rs) more h k = (h.0, real_join rs more h.1 k)

real_other : (r : Report) → is_unit_report r ≡ false → IsRealIn r
real_other (report.Promised q e) h = absurd (cc (h))
real_other (report.Accepted q e lsn) h = absurd (cc (h))
real_other (report.IsPrimary q e) h = absurd (cc (h))
real_other (report.Committed q e lsn) h = absurd (cc (h))
real_other r h = tt

-- reports of nothing that a replica or a primary does
pub real_apart : (rs : List Report) → list_any is_unit_report rs ≡ false → AreReal rs
real_apart [] h = tt
real_apart (r ∷ rs) h = let parts = none_of is_unit_report r rs h in (real_other r parts.0, real_apart rs parts.1)

pub real_deeds : (ds : List Deed) → AllReal ds → AreReal (reports_of ds)
real_deeds [] h = tt
real_deeds (Keep r ∷ ds) h = real_deeds ds h
real_deeds (Send to b ∷ ds) h = real_deeds ds h
real_deeds (Tell r ∷ ds) h = go (is_ring_report r) (real_deeds ds h.1)
  where
    go : (b : Bool) → AreReal (reports_of ds) → AreReal (cond b (reports_of ds) (r ∷ reports_of ds))
    go true rest = rest
    go false rest = (h.0, rest)

-- each report of all lives
abbrev pub AreRealLives : FabricConfig → Lives → Type 0
AreRealLives c [] = Unit {0}
AreRealLives c (e ∷ l) = IsRealEntry (lives_step units c l e.1).entry × AreRealLives c l

-- among reports of nothing that a primary does is no commit
pub no_commit : (rs : List Report) (p : ℕ) (e : Epoch) (last : ℕ) → list_any is_unit_report rs ≡ false → IsMember (report.Committed p e last) rs → ⊥
no_commit rs p e last h m = let wrong = none_passes is_unit_report rs (report.Committed p e last) h m in cc (wrong)
