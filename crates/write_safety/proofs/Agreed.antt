-- Commits that a valid run reports agree.
use Rattle.std.proofs.Common.{◌≡◌, ℕ, ◌≤◌, List, length, take, refl, sym, ap, ◌∙◌, subst, arith}
use Rattle.fabric_terms.specs.declared.config.FabricConfig.{FabricConfig}
use Rattle.replica_core.specs.declared.entry.Entry.{Entry}
use Rattle.epoch_machine.specs.Epochs.{number_of}
use Rattle.epoch_refinement.proofs.Losing.{settings_sound}
use Rattle.world_rules.specs.Runs.{History}
use Rattle.run_promises.specs.Writes.{CommitsAgree, CommitsAgreeIn}
use Rattle.epoch_safety.proofs.Followed.{followed_lives}
use Rattle.epoch_safety.proofs.OneLife.{snapshots_one}
use Rattle.cold_start.specs.Lives.{one_life}
use Rattle.cold_start.proofs.OneLife.{valid_one}
use Rattle.unit_rules.specs.Units.{units}
use Rattle.epoch_safety.proofs.Written.{committed_told, loss_is}
use Rattle.write_safety.specs.Greatest.{Commit}
use Rattle.write_safety.specs.Laws.{CommitsAgreeAlways, LivesAgree}
use Rattle.write_safety.proofs.Agreeing.{commits_agree_told}
use Rattle.write_safety.proofs.Growing.{Agrees, IsWithin}
use Rattle.write_safety.proofs.Reporting.{IsReported}

pub lives_agree_lem : LivesAgree
lives_agree_lem is_frame c l sound valid i j p last further e f x y first second loss le =
    let at = followed_lives is_frame c sound l valid in
    let a = committed_told c l at i p last e x first in
    let b = committed_told c l at j p further f y second in
    commits_agree_told (at.follows.inv p) (settings_sound (length c.arbiters)) x.actor (number_of e) last y.actor (number_of f) further _ _ a.0 b.0
    (loss_is e a.1 ∙ (loss ∙ sym (loss_is f b.1))) le

pub commits_agree_lem : CommitsAgreeAlways
commits_agree_lem is_frame c h sound valid =
    subst CommitsAgreeIn (snapshots_one c h) (lives_agree_lem is_frame c (one_life h) sound (valid_one units c is_frame h valid))

module _ (c : FabricConfig) (h : History) (agree : CommitsAgree c h) (p d : ℕ) where
  pub within : (k : Commit) → IsReported c h p d k → IsWithin k
  within k r =
      let both = agree r.since r.since p k.last k.last r.epoch r.epoch r.who r.who r.reported r.reported refl (omega arith) in
      subst (λ (log : List Entry). k.last ≤ length log) (sym r.log_is) both.0

  one_way : (k m : Commit) → IsReported c h p d k → IsReported c h p d m → k.last ≤ m.last → take k.last m.log ≡ take k.last k.log
  one_way k m r s le =
      let both = agree r.since s.since p k.last m.last r.epoch s.epoch r.who s.who r.reported s.reported (r.loss ∙ sym s.loss) le in
      ap (take k.last) s.log_is ∙ (both.2 ∙ ap (take k.last) (sym r.log_is))

  pub agrees : (k m : Commit) → IsReported c h p d k → IsReported c h p d m → Agrees k m
  agrees k m r s = record { below = one_way k m r s; above = one_way m k s r }
