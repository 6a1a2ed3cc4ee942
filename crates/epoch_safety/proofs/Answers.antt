-- What a primary reports committed covers all that was reported committed before.
use Rattle.std.proofs.Common.{◌≡◌, ℕ, zero, suc, ◌+◌, ◌-◌, ◌≤◌, Bool, List, [], ◌∷◌, take, sym, ap, ◌∙◌, subst, arith}
use Rattle.std.specs.Prelude.{drop}
use Rattle.std.proofs.lemmas.List.{drop-drop}
use Rattle.fabric_terms.specs.declared.config.FabricConfig.{FabricConfig}
use Rattle.fabric_terms.specs.declared.report.Report.TheVariants.{Committed}
use Rattle.epoch_machine.specs.Epochs.{number_of}
use Rattle.epoch_refinement.proofs.Numbers.{number_older_not}
use Rattle.unit_rules.specs.Units.{units}
use Rattle.epoch_safety.specs.Laws.{AnswersAreCovered}
use Rattle.run_promises.specs.Reports.{HasReported}
use Rattle.epoch_safety.proofs.Followed.{FollowedLives, followed_lives}
use Rattle.epoch_safety.proofs.Primaries.{numbered}
use Rattle.epoch_safety.proofs.Written.{committed_told, loss_is}
use Rattle.cold_start.specs.Lives.{Lives, lives_run, one_life}
use Rattle.cold_start.proofs.OneLife.{valid_one, valid_before}
use Rattle.epoch_safety.proofs.OneLife.{snapshots_one}
use Rattle.epoch_safety.specs.Lives.{AnswersCoveredIn, LivesCoverAnswers, lives_log}
use Rattle.world_rules.specs.Runs.{History}
use Rattle.world_rules.specs.Schedules.{Valid}

pub valid_drop : (is_frame : List ℕ → Bool) (c : FabricConfig) (h : History) (j : ℕ) → Valid units is_frame c h → Valid units is_frame c (drop j h)
valid_drop is_frame c h zero valid = valid
valid_drop is_frame c [] (suc j) valid = valid
valid_drop is_frame c (e ∷ h) (suc j) valid = valid_drop is_frame c h j valid.0

pub lives_cover_answers_lem : LivesCoverAnswers
lives_cover_answers_lem is_frame c l sound valid i j p last committed e own x y le earlier now not_older loss =
    let at : FollowedLives c (drop j l) = followed_lives is_frame c sound (drop j l) (valid_before units c is_frame j l valid) in
    let since : drop (i - j) (drop j l) ≡ drop i l = drop-drop (i - j) j l ∙ ap (λ n. drop n l) (let e : j + (i - j) ≡ i = omega arith in e) in
    let before = committed_told c (drop j l) at (i - j) p last e x (subst (λ (z : Lives). HasReported (lives_run units c z) x (Committed p e last)) (sym since) earlier) in
    let mine = committed_told c (drop j l) at 0 p committed own y now in
    let both =
    at.covers y p own committed now x.actor (number_of e) last (lives_log c (drop (i - j) (drop j l)) x.actor p) before.0
    (number_older_not own e (numbered own mine.1) (numbered e before.1) not_older) (loss_is e before.1 ∙ (loss ∙ sym (loss_is own mine.1))) in
    subst (λ (z : Lives). (last ≤ committed) × (take last (lives_log c (drop j l) y.actor p) ≡ take last (lives_log c z x.actor p))) since both

pub answers_covered_lem : AnswersAreCovered
answers_covered_lem is_frame c h sound valid =
    subst AnswersCoveredIn (snapshots_one c h) (lives_cover_answers_lem is_frame c (one_life h) sound (valid_one units c is_frame h valid))
