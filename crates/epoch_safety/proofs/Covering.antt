-- What a primary holds committed begins with all that was reported committed, in epochs up to its own of the same data loss
-- number.
use Rattle.std.proofs.Common.{◌≡◌, ℕ, ◌<◌, ◌≤◌, List, take, length, sym, ap, ◌∙◌, subst, ⊎_elim, arith}
use Rattle.std.proofs.lemmas.Bool.{cases_lt}
use Rattle.fabric_lemmas.specs.Members.{IsMember}
use Rattle.ring_points.specs.declared.unit.Epoch.{Epoch}
use Rattle.epoch_machine.specs.Epochs.{number_of}
use Rattle.epoch_machine.specs.Invariant.{Invariant}
use Rattle.epoch_machine.specs.Logs.{Agree, Entry, Prefix}
use Rattle.epoch_machine.specs.Plans.{Role}
use Rattle.epoch_machine.specs.Settings.{Settings, IsSound}
use Rattle.epoch_machine.specs.SoundRoles.{SoundRole}
use Rattle.epoch_machine.specs.World.{World, whole, TellsCommitted}
use Rattle.epoch_machine.proofs.Kept.{Secured, active_sync, kept_in_base, one_sync}
use Rattle.epoch_machine.proofs.Prefixes.{agree_prefix, agree_trans, prefix_append}
use Rattle.epoch_machine.proofs.Writing.{role_log}
use Rattle.unit_rules.specs.ReplicaStates.{ReplicaState}
use Rattle.epoch_refinement.specs.ReplicaStates.{ShowsProgress, ShowsReplicaState}
use Rattle.epoch_safety.proofs.Committing.{LeadsAt}

-- the first entries of the log, so many of them, begin with all that was reported committed up to this epoch
abbrev pub Covers : Settings → World → (epoch committed : ℕ) → List Entry → Type 0
Covers c w epoch committed log =
    (x e last : ℕ) (l : List Entry) → IsMember (TellsCommitted x e last l) w.told → e ≤ epoch → c.data_loss e ≡ c.data_loss epoch →
    (last ≤ committed) × (take last log ≡ take last l)

module _ {c : Settings} {w : World} (inv : Invariant c w) (sound : IsSound c) {p node : ℕ} {s : ReplicaState} (shows : ShowsReplicaState w p node s) (epoch : Epoch) (n : ℕ)
    (leads : LeadsAt s epoch n) where
  abbrev r : Role
  r = (shows.progress leads.progress leads.is).0

  shown : ShowsProgress w node (length s.replica.log) leads.progress r
  shown = (shows.progress leads.progress leads.is).1

  role : SoundRole w.active w.told node (w.promised node) (w.joined node) (w.log node) r
  role = inv.roles node r shown.role

  own : r.plan.epoch ≡ number_of epoch
  own = sym role.joined_is ∙ (shows.joined.is ∙ ap number_of leads.at_is)

  floor : r.floor ≤ n
  floor = let le = shown.floor in let e = leads.committed_is in omega arith

  base_begins : Prefix r.plan.base (w.log node)
  base_begins = subst (λ l. Prefix r.plan.base l) (sym (role_log inv node r shown.role)) (prefix_append r.plan.base (w.written r.plan.epoch))

  -- of a lower epoch: in the base
  lower : (x e k : ℕ) (l : List Entry) → IsMember (TellsCommitted x e k l) w.told → e < r.plan.epoch → c.data_loss e ≡ c.data_loss r.plan.epoch →
      (k ≤ n) × (take k (w.log node) ≡ take k l)
  lower x e k l m lt loss =
      let t = inv.reports.committed x e k l m in
      let is = t.epoch_is in
      let safe : Secured w t.plan k = record { activated = t.activated; most = t.most } in
      let base : Agree k l r.plan.base
      = agree_trans (agree_prefix k t.within t.enough)
      (kept_in_base inv sound t.plan r.plan k safe (active_sync inv r.plan role.activated) (omega arith) (ap c.data_loss is ∙ loss)) in
      let all : Agree k l (w.log node) = agree_trans base (agree_prefix k base_begins base.right) in
      (let b = base.right in let f = role.base in let g = floor in omega arith, sym all.same)

  -- of its own: reported by it before, or in its log at its activation
  same : (x e k : ℕ) (l : List Entry) → IsMember (TellsCommitted x e k l) w.told → e ≡ r.plan.epoch → (k ≤ n) × (take k (w.log node) ≡ take k l)
  same x e k l m is =
      let t = inv.reports.committed x e k l m in
      let one : t.plan ≡ r.plan =
      one_sync inv t.plan r.plan (active_sync inv t.plan t.activated) (active_sync inv r.plan role.activated) (t.epoch_is ∙ is) in
      let begins : Prefix l (w.log node) = subst (λ z. Prefix l z) (ap (whole w.written) one ∙ sym (role_log inv node r shown.role)) t.within in
      let all : Agree k l (w.log node) = agree_prefix k begins t.enough in (
        ⊎_elim (λ f. let g = floor in omega arith)
            (λ g. ⊎_elim (λ z. omega arith) (λ z. let e = leads.committed_is in omega arith) shown.reported) (role.covers x e k l m is),
        sym all.same,
      )

  pub progress_covers : Covers c w (number_of epoch) n s.replica.log
  progress_covers x e k l m le loss =
      let both : (k ≤ n) × (take k (w.log node) ≡ take k l) =
      ⊎_elim (λ lt. lower x e k l m lt (loss ∙ ap c.data_loss (sym own)))
      (λ ge. same x e k l m (let o = own in omega arith)) (cases_lt e r.plan.epoch) in
      (both.0, ap (take k) (sym shows.log) ∙ both.1)
