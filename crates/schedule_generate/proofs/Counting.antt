-- What is counted of the reports of one more event.
use Rattle.std.proofs.Common.{◌≡◌, ℕ, ◌+◌, Bool, List, [], ◌∷◌, Option, Some, None, Result, Ok, Err, OnOk, ap, sym, ◌∙◌, arith}
use Rattle.std.specs.Prelude.{count_by, cond}
use Rattle.std.proofs.lemmas.List.Sums.{sum_by-cons}
use Rattle.unit_rules.specs.Fabric.{fabric}
use Rattle.fabric_terms.specs.Reports.{Told, told, told_in, told_on}
use Rattle.fabric_terms.specs.Runs.{Entry}
use Rattle.fabric_terms.specs.declared.config.FabricConfig.{FabricConfig}
use Rattle.fabric_terms.specs.declared.event.Event.{Event}
use Rattle.fabric_terms.specs.declared.report.Report.{Report}
use Rattle.ring_points.specs.declared.who.Who.{Who}
use Rattle.ring_world.specs.Answers.{Takes, entry_of}
use Rattle.ring_world.specs.declared.world.Acted.{Acted}
use Rattle.ring_world.specs.declared.world.World.{World}
use Rattle.world_rules.specs.Runs.{History, run_of}
use Rattle.schedule_generate.specs.Settings.{generated_config}
use Rattle.schedule_generate.specs.Tallies.{Counts, reports_in}
use Rattle.fabric_terms.specs.Places.{tells_leave}
use Rattle.schedule_generate.specs.Texts.{is_take_over, told_of}
use Rattle.schedule_generate.specs.declared.summary.DrillCounts.{DrillCounts}

count_on : (test : Report → Bool) (who : Who) (rs : List Report) (before : Told) → count_by (λ t. test t.1) (told_on who rs before) ≡ count_by (λ t. test t.1) before + count_by test rs
count_on test who [] before = let e : count_by (λ t. test t.1) before ≡ count_by (λ t. test t.1) before + 0 = omega arith in e
count_on test who (r ∷ rs) before =
    let B = count_by (λ t. test t.1) before in
    let R = count_by test rs in
    let one = cond (test r) 1 0 in
    let first : count_by (λ t. test t.1) ((who, r) ∷ before) ≡ one + B = sum_by-cons (λ t. cond (test t.1) 1 0) (who, r) before in
    let last : count_by test (r ∷ rs) ≡ one + R = sum_by-cons (λ x. cond (test x) 1 0) r rs in
    count_on test who rs ((who, r) ∷ before)
    ∙ (ap (λ (k : ℕ). k + R) first ∙ (regrouped one B R ∙ ap (λ (k : ℕ). B + k) (sym last)))
  where
    regrouped : (x m k : ℕ) → (x + m) + k ≡ m + (x + k)
    regrouped x m k = omega arith

in_entry : (test : Report → Bool) (acted : Option Acted) (before : Told) → count_by (λ t. test t.1) (told_in (entry_of acted) before) ≡ count_by (λ t. test t.1) before + count_by test (reports_in acted)
in_entry test None before = let e : count_by (λ t. test t.1) before ≡ count_by (λ t. test t.1) before + 0 = omega arith in e
in_entry test (Some a) before = count_on test a.who a.reports before

one_more : (test : Report → Bool) (w : World) (c : FabricConfig) (h : History) (line : ℕ) (e : Event) (acted : Option Acted) → Takes w c h line e acted → told_of test c ((line, e) ∷ h) ≡ told_of test c h + count_by test (reports_in acted)
one_more test w c h line e acted takes =
    ap (λ (o : Option Entry). count_by (λ t. test t.1) (told_in o (told (run_of fabric c h)))) (sym takes.entry) ∙ in_entry test acted (told (run_of fabric c h))

pub counts_on : (a b : DrillCounts) (n : ℕ) (w : World) (h : History) (line : ℕ) (e : Event) (acted : Option Acted) → Counts a n h → Takes w (generated_config n) h line e acted
    → b.took_over ≡ a.took_over + count_by is_take_over (reports_in acted) → b.left ≡ a.left + count_by tells_leave (reports_in acted) → Counts b n ((line, e) ∷ h)
counts_on a b n w h line e acted counts takes took left = record {
  took_over = took ∙ (ap (λ (k : ℕ). k + count_by is_take_over (reports_in acted)) counts.took_over ∙ sym (one_more is_take_over w (generated_config n) h line e acted takes));
  left = left ∙ (ap (λ (k : ℕ). k + count_by tells_leave (reports_in acted)) counts.left ∙ sym (one_more tells_leave w (generated_config n) h line e acted takes));
}

pub on_ok : {E : Type 0} (r : Result (Unit {0}) E) (P Q R : Type 0) → (P → Q → R) → OnOk r P → OnOk r Q → OnOk r R
on_ok (Ok u) P Q R f p q = f p q
on_ok (Err e) P Q R f p q = p
