-- What reports tell the machine of a partition, each with the log that its node's records amount to after the event.
use Rattle.std.proofs.Common.{◌≡◌, ℕ, Bool, true, false, cond, ◌||◌, List, [], ◌∷◌, ◌++◌, Option, None, Some, refl, sym, ap, ◌∙◌}
use Rattle.std.specs.List.{list_any}
use Rattle.fabric_terms.specs.declared.config.FabricConfig.{FabricConfig}
use Rattle.fabric_terms.specs.declared.report.Report.{Report}
use Rattle.fabric_terms.specs.declared.report.Report.TheVariants as report
use Rattle.fabric_terms.specs.Runs as runs
use Rattle.epoch_machine.specs.Logs.{Entry}
use Rattle.epoch_machine.specs.World as machine
use Rattle.unit_rules.specs.Deeds.{Deed, Keep, Send, Tell, reports_of}
use Rattle.unit_rules.specs.Units.{units}
use Rattle.world_rules.specs.Above.{is_ring_report}
use Rattle.world_rules.specs.Runs.{History}
use Rattle.world_rules.specs.Worlds.{World, Stepped}
use Rattle.epoch_refinement.specs.Nodes.{is_told_of, tells_of}
use Rattle.epoch_refinement.specs.Told.{tells}
use Rattle.run_facts.specs.RingApart.{is_unit_report}
use Rattle.run_promises.specs.Reports.{log_in}
use Rattle.cold_start.specs.Lives.{Lives, lives_step, one_life}

-- what is told of each partition, the newest first
abbrev pub Tellings : Type 0
Tellings = ℕ → List machine.Report

-- reports of the node on top of what was told before
abbrev pub tells_on : ℕ → ℕ → List Entry → List Report → List machine.Report → List machine.Report
tells_on p node log [] before = before
tells_on p node log (r ∷ rs) before = tells_on p node log rs (cond (is_told_of p r) (tells node log r before) before)

abbrev pub tells_in : ℕ → World units → Option runs.Entry → List machine.Report → List machine.Report
tells_in p w None before = before
tells_in p w (Some e) before = tells_on p e.who.actor (log_in w e.who.actor p) e.reports before

abbrev pub tells_after : ℕ → Stepped units → List machine.Report → List machine.Report
tells_after p s before = tells_in p s.world s.entry before

-- all that lives tell of the partition
abbrev pub told_lives : FabricConfig → Lives → Tellings
told_lives c [] p = []
told_lives c (e ∷ es) p = tells_after p (lives_step units c es e.1) (told_lives c es p)

-- and a schedule, which is one life
abbrev pub told_of : FabricConfig → History → Tellings
told_of c h = told_lives c (one_life h)

pub tells_join : (p node : ℕ) (log : List Entry) (rs more : List Report) (before : List machine.Report) →
    tells_on p node log (rs ++ more) before ≡ tells_on p node log more (tells_on p node log rs before)
tells_join p node log [] more before = refl
tells_join p node log (r ∷ rs) more before = tells_join p node log rs more _

-- reports of nothing that a replica or a primary does

told_no : (p : ℕ) (r : Report) → is_unit_report r ≡ false → is_told_of p r ≡ false
told_no p (report.Promised q e) h = absurd (cc (h))
told_no p (report.Accepted q e lsn) h = absurd (cc (h))
told_no p (report.IsPrimary q e) h = absurd (cc (h))
told_no p (report.Committed q e lsn) h = absurd (cc (h))
told_no p r h = refl

pub none_of : {X : Type 0} (test : X → Bool) (x : X) (xs : List X) → list_any test (x ∷ xs) ≡ false → (test x ≡ false) × (list_any test xs ≡ false)
none_of test x xs h = go (test x) (list_any test xs) refl refl h
  where
    go : (a b : Bool) → test x ≡ a → list_any test xs ≡ b → (a || b) ≡ false → (test x ≡ false) × (list_any test xs ≡ false)
    go true b e f g = absurd (cc (g))
    go false true e f g = absurd (cc (g))
    go false false e f g = (e, f)

pub tells_none : (p node : ℕ) (log : List Entry) (rs : List Report) (before : List machine.Report) → list_any is_unit_report rs ≡ false →
    tells_on p node log rs before ≡ before
tells_none p node log [] before h = refl
tells_none p node log (r ∷ rs) before h =
    let parts = none_of is_unit_report r rs h in
    ap (λ b. tells_on p node log rs (cond b (tells node log r before) before)) (told_no p r parts.0) ∙ tells_none p node log rs before parts.1

-- the reports of deeds tell what the deeds do

ring_told : (p : ℕ) (r : Report) → is_ring_report r ≡ true → is_told_of p r ≡ false
ring_told p (report.Promised q e) h = absurd (cc (h))
ring_told p (report.Accepted q e lsn) h = absurd (cc (h))
ring_told p (report.IsPrimary q e) h = absurd (cc (h))
ring_told p (report.Committed q e lsn) h = absurd (cc (h))
ring_told p r h = refl

pub tells_reports : (p node : ℕ) (log : List Entry) (ds : List Deed) (before : List machine.Report) →
    tells_on p node log (reports_of ds) before ≡ tells_of p node log ds before
tells_reports p node log [] before = refl
tells_reports p node log (Keep r ∷ ds) before = tells_reports p node log ds before
tells_reports p node log (Send to b ∷ ds) before = tells_reports p node log ds before
tells_reports p node log (Tell r ∷ ds) before = go (is_ring_report r) refl (λ before. tells_reports p node log ds before)
  where
    go : (b : Bool) → is_ring_report r ≡ b →
        ((before : List machine.Report) → tells_on p node log (reports_of ds) before ≡ tells_of p node log ds before) →
        tells_on p node log (cond b (reports_of ds) (r ∷ reports_of ds)) before
        ≡ tells_of p node log ds (cond (is_told_of p r) (tells node log r before) before)
    go true h again =
        again before ∙ sym (ap (λ t. tells_of p node log ds (cond t (tells node log r before) before)) (ring_told p r h))
    go false h again = again _
