-- One life is the run of a schedule.
use Rattle.std.specs.Prelude.{drop}
use Rattle.std.proofs.Common.{◌≡◌, ℕ, zero, suc, Bool, List, [], ◌∷◌, ◌⊎◌, refl, sym, ap, ◌∙◌, subst, inl, inr}
use Rattle.fabric_terms.specs.declared.config.FabricConfig.{FabricConfig}
use Rattle.fabric_terms.specs.declared.event.Event.{Event}
use Rattle.world_rules.specs.Events.{world_step}
use Rattle.world_rules.specs.Runs.{History, moment_of, run_of, world_after}
use Rattle.world_rules.specs.Schedules.{MayCome, Valid}
use Rattle.world_rules.specs.Uppers.{Upper}
use Rattle.world_rules.specs.Worlds.{World, Stepped}
use Rattle.cold_start.specs.Lives.{Comes, Again, Lives, ValidLives, life_step, lives_run, lives_step, lives_world, one_life, this_life, whole_after}
use Rattle.world_rules.specs.Starts.{first_whole}
use Rattle.cold_start.proofs.Steps.{life_first}

module _ (a : Upper) (c : FabricConfig) where
  pub whole_one : (h : History) → whole_after c (one_life h) ≡ first_whole c
  whole_one [] = refl
  whole_one (e ∷ h) = whole_one h

  step_from : (h : History) (e : Event) → lives_world a c (one_life h) ≡ world_after a c h →
      lives_step a c (one_life h) (Comes e) ≡ world_step a c (world_after a c h) e
  step_from h e same =
      (λ i. life_step a (whole_one h i) c (same i) e) ∙ life_first a c (world_after a c h) e

  pub world_one : (h : History) → lives_world a c (one_life h) ≡ world_after a c h
  world_one [] = refl
  world_one (e ∷ h) = ap (λ (st : Stepped a). st.world) (step_from h e.1 (world_one h))

  pub step_one : (h : History) (e : Event) → lives_step a c (one_life h) (Comes e) ≡ world_step a c (world_after a c h) e
  step_one h e = step_from h e (world_one h)

  pub run_one : (h : History) → lives_run a c (one_life h) ≡ run_of a c h
  run_one [] = refl
  run_one (e ∷ h) = λ i. moment_of {a = a} e.0 (step_one h e.1 i) ∷ run_one h i

  pub life_one : (h : History) → this_life a c (one_life h) ≡ run_of a c h
  life_one [] = refl
  life_one (e ∷ h) = λ i. moment_of {a = a} e.0 (step_one h e.1 i) ∷ life_one h i

  pub valid_one : (is_frame : List ℕ → Bool) (h : History) → Valid a is_frame c h → ValidLives a is_frame c (one_life h)
  valid_one is_frame [] valid = valid
  valid_one is_frame (e ∷ h) valid =
      (valid_one is_frame h valid.0, subst (λ (w : World a). MayCome is_frame c w e.1) (sym (world_one h)) valid.1)

  -- earlier runs are those of earlier lives

  pub run_before : (ago : ℕ) (l : Lives) → drop ago (lives_run a c l) ≡ lives_run a c (drop ago l)
  run_before zero l = refl
  run_before (suc ago) [] = refl
  run_before (suc ago) (e ∷ l) = run_before ago l

  pub life_before : (ago : ℕ) (l : Lives) → (drop ago (this_life a c l) ≡ this_life a c (drop ago l)) ⊎ (drop ago (this_life a c l) ≡ [])
  life_before zero l = inl refl
  life_before (suc ago) [] = inr refl
  life_before (suc ago) ((line, Comes e) ∷ l) = life_before ago l
  life_before (suc ago) ((line, Again whole) ∷ l) = inr refl

  pub valid_before : (is_frame : List ℕ → Bool) (ago : ℕ) (l : Lives) → ValidLives a is_frame c l → ValidLives a is_frame c (drop ago l)
  valid_before is_frame zero l valid = valid
  valid_before is_frame (suc ago) [] valid = valid
  valid_before is_frame (suc ago) (e ∷ l) valid = valid_before is_frame ago l valid.0
