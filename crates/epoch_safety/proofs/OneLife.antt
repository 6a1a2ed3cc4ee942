-- What is known of one life is what is known of its schedule.
use Rattle.std.proofs.Common.{◌≡◌, ℕ, zero, suc, [], ◌∷◌, refl, ap, ◌∙◌}
use Rattle.std.specs.Prelude.{drop}
use Rattle.fabric_terms.specs.declared.config.FabricConfig.{FabricConfig}
use Rattle.run_promises.specs.Reports.{log_in}
use Rattle.run_promises.specs.Snapshots.{snapshots_of}
use Rattle.unit_rules.specs.Units.{units}
use Rattle.world_rules.specs.Runs.{History}
use Rattle.cold_start.specs.Lives.{lives_run, lives_world, one_life}
use Rattle.cold_start.proofs.OneLife.{run_one, world_one}
use Rattle.epoch_safety.specs.Lives.{lives_snapshots}

drop_one : (ago : ℕ) (h : History) → drop ago (one_life h) ≡ one_life (drop ago h)
drop_one zero h = refl
drop_one (suc ago) [] = refl
drop_one (suc ago) (e ∷ h) = drop_one ago h

pub snapshots_one : (c : FabricConfig) (h : History) → lives_snapshots c (one_life h) ≡ snapshots_of c h
snapshots_one c h = λ i ago. record {
  run = (ap (lives_run units c) (drop_one ago h) ∙ run_one units c (drop ago h)) i;
  log = λ node p. log_in ((ap (lives_world units c) (drop_one ago h) ∙ world_one units c (drop ago h)) i) node p;
}
