-- Two reports of commits agree, in the machine of a partition.
use Rattle.std.proofs.Common.{◌≡◌, ℕ, ◌<◌, ◌≤◌, List, length, take, sym, ap, ◌∙◌, subst, ⊎_elim, arith}
use Rattle.std.proofs.lemmas.Bool.{cases_lt}
use Rattle.std.proofs.lemmas.List.{take-take}
use Rattle.fabric_lemmas.specs.Members.{IsMember}
use Rattle.epoch_machine.specs.Invariant.{Invariant}
use Rattle.epoch_machine.specs.Logs.{Agree, Entry}
use Rattle.epoch_machine.specs.Plans.{Plan}
use Rattle.epoch_machine.specs.Settings.{Settings, IsSound}
use Rattle.epoch_machine.specs.SoundReports.{CommittedTold}
use Rattle.epoch_machine.specs.World.{World, whole, TellsCommitted}
use Rattle.epoch_machine.proofs.Kept.{Secured, active_sync, kept_in_base, one_sync}
use Rattle.epoch_machine.proofs.Prefixes.{agree_prefix, agree_sym, agree_trans, prefix_append}

module _ {c : Settings} {w : World} (inv : Invariant c w) (sound : IsSound c) where
  abbrev Told : (x e k : ℕ) → List Entry → Type 0
  Told x e k l = CommittedTold w.active w.written w.appended x e k l

  -- what is committed of a plan stands in all that is written of a later one
  module _ {x e k y f m : ℕ} {l n : List Entry} (t : Told x e k l) (s : Told y f m n) where
    later : t.plan.epoch < s.plan.epoch → c.data_loss t.plan.epoch ≡ c.data_loss s.plan.epoch → Agree k l (whole w.written s.plan)
    later lt loss =
        let safe : Secured w t.plan k = record { activated = t.activated; most = t.most } in
        let base : Agree k l s.plan.base =
        agree_trans (agree_prefix k t.within t.enough)
        (kept_in_base inv sound t.plan s.plan k safe (active_sync inv s.plan s.activated) lt loss) in
        agree_trans base (agree_prefix k (prefix_append s.plan.base (w.written s.plan.epoch)) base.right)

    same : t.plan.epoch ≡ s.plan.epoch → Agree k l (whole w.written s.plan)
    same is =
        let one : t.plan ≡ s.plan = one_sync inv t.plan s.plan (active_sync inv t.plan t.activated) (active_sync inv s.plan s.activated) is in
        subst (λ (p : Plan). Agree k l (whole w.written p)) one (agree_prefix k t.within t.enough)

  -- fewer entries of the same agree too
  fewer : {k m : ℕ} {l n : List Entry} → k ≤ m → Agree m l n → Agree k l n
  fewer {k} {m} {l} {n} le a = record {
    left = let h = a.left in omega arith;
    right = let h = a.right in omega arith;
    same = sym (take-take k m l le) ∙ (ap (take k) a.same ∙ take-take k m n le);
  }

  pub commits_agree_told : (x e k y f m : ℕ) (l n : List Entry) → IsMember (TellsCommitted x e k l) w.told → IsMember (TellsCommitted y f m n) w.told →
      c.data_loss e ≡ c.data_loss f → k ≤ m → (k ≤ length l) × (m ≤ length n) × (take k n ≡ take k l)
  commits_agree_told x e k y f m l n a b loss le =
      let t = inv.reports.committed x e k l a in
      let s = inv.reports.committed y f m n b in
      let plans : c.data_loss t.plan.epoch ≡ c.data_loss s.plan.epoch = ap c.data_loss t.epoch_is ∙ (loss ∙ ap c.data_loss (sym s.epoch_is)) in
      let all : Agree k l n = go t s plans in (t.enough, s.enough, sym all.same)
    where
      -- by the epochs: the plan that is later has what is committed of the earlier one
      go : (t : Told x e k l) (s : Told y f m n) → c.data_loss t.plan.epoch ≡ c.data_loss s.plan.epoch → Agree k l n
      go t s plans =
          let up_to_k : k ≤ length n = let h = s.enough in omega arith in
          let own : Agree k n (whole w.written s.plan) = agree_prefix k s.within up_to_k in
          ⊎_elim
          (λ lt. agree_trans (later t s lt plans) (agree_sym own))
          (λ ge. ⊎_elim
          (λ lt.
          let base : Agree k n (whole w.written t.plan) = fewer le (later s t lt (sym plans)) in
          agree_trans (agree_prefix k t.within t.enough) (agree_sym base))
          (λ le. agree_trans (same t s (omega arith)) (agree_sym own))
          (cases_lt s.plan.epoch t.plan.epoch))
          (cases_lt t.plan.epoch s.plan.epoch)
