-- The laws follow from the invariant.
use Rattle.std.proofs.Common.{◌≡◌, ℕ, ◌<◌, List, [], ◌∷◌, ◌++◌, length, refl, sym, ap, subst, inl, inr, arith, ◌≤◌, take, ◌∙◌, Some, ⊎_elim}
use Rattle.std.proofs.lemmas.Bool.{cases_lt}
use Rattle.fabric_lemmas.specs.Members.{IsMember}
use Rattle.epoch_machine.specs.Logs.{Prefix, Agree, Entry}
use Rattle.epoch_machine.specs.Settings.{Settings, IsSound}
use Rattle.epoch_machine.specs.Plans.{Plan, Role}
use Rattle.epoch_machine.specs.World.{Report, World, whole, TellsPrimary, TellsCommitted}
use Rattle.epoch_machine.specs.Deeds.{Deed, RaisesPromise, Appends, BecomesPrimary, Writes, Commits}
use Rattle.epoch_machine.specs.Effects.{after}
use Rattle.epoch_machine.specs.Histories.{world_after}
use Rattle.epoch_machine.specs.SoundRoles.{SoundRole}
use Rattle.epoch_machine.specs.SoundReports.{CommittedTold}
use Rattle.epoch_machine.specs.Invariant.{Invariant}
use Rattle.epoch_machine.specs.Laws.{OnePrimary, NoOlder, WritesKept, CommittedStands, AnswersCovered, InvariantHolds}
use Rattle.epoch_machine.proofs.Prefixes.{prefix_append, agree_prefix, agree_trans}
use Rattle.epoch_machine.proofs.Kept.{Secured, active_sync, one_sync, kept_in_base}
use Rattle.epoch_machine.proofs.Writing.{role_log}
use Rattle.epoch_machine.proofs.Histories.{history_sound}

pub invariant_holds_lem : InvariantHolds
invariant_holds_lem c deeds sound valid = history_sound c deeds valid

module _ {c : Settings} {w : World} (inv : Invariant c w) where
  pub one_primary_told : (x y e : ℕ) (l m : List Entry) → IsMember (TellsPrimary x e l) w.told → IsMember (TellsPrimary y e m) w.told → x ≡ y
  one_primary_told x y e l m a b =
      let s = inv.reports.primary x e l a in
      let t = inv.reports.primary y e m b in
      let one : s.plan ≡ t.plan =
      one_sync inv s.plan t.plan (active_sync inv s.plan s.activated) (active_sync inv t.plan t.activated) (s.epoch_is ∙ sym t.epoch_is) in
      sym s.primary ∙ ap (λ (p : Plan). p.primary) one ∙ t.primary

  -- what was reported committed is secured
  secured : {x e k : ℕ} {l : List Entry} (t : CommittedTold w.active w.written w.appended x e k l) → Secured w t.plan k
  secured t = record { activated = t.activated; most = t.most }

  module _ (sound : IsSound c) where
    -- it stands in what each later epoch begins with
    committed_in_base : (x e k : ℕ) (l : List Entry) (q : Plan) → IsMember (TellsCommitted x e k l) w.told → IsMember q w.syncs →
        e < q.epoch → c.data_loss e ≡ c.data_loss q.epoch → Agree k l q.base
    committed_in_base x e k l q m synced lt loss =
        let t = inv.reports.committed x e k l m in
        let is = t.epoch_is in
        agree_trans (agree_prefix k t.within t.enough)
        (kept_in_base inv sound t.plan q k (secured t) synced (omega arith) (ap c.data_loss is ∙ loss))

    pub writes_kept_told : (x y e f k : ℕ) (l m : List Entry) → IsMember (TellsCommitted x e k l) w.told → IsMember (TellsPrimary y f m) w.told →
        e < f → c.data_loss e ≡ c.data_loss f → (k ≤ length m) × (take k m ≡ take k l)
    writes_kept_told x y e f k l m a b lt loss =
        let t = inv.reports.primary y f m b in
        let is = t.epoch_is in
        let base = committed_in_base x e k l t.plan a (active_sync inv t.plan t.activated) (omega arith) (loss ∙ ap c.data_loss (sym is)) in
        let all : Agree k l m = agree_trans base (agree_prefix k t.begins base.right) in
        (all.right, sym all.same)

    pub answers_covered_told : (node : ℕ) (r : Role) → w.role node ≡ Some r → 0 < r.reported →
        (r.floor < r.reported) × (r.reported ≤ length (w.log node)) ×
        ((x e k : ℕ) (l : List Entry) → IsMember (TellsCommitted x e k l) w.told → e ≤ r.plan.epoch → c.data_loss e ≡ c.data_loss r.plan.epoch →
        (k ≤ r.reported) × (take k (w.log node) ≡ take k l))
    answers_covered_told node r h some = (
      above,
      s.within,
      λ x e k l m le loss. ⊎_elim
          (λ lt.
          let base = committed_in_base x e k l r.plan m (active_sync inv r.plan s.activated) lt loss in
          let all : Agree k l (w.log node) = agree_trans base (agree_prefix k base_begins base.right) in
          (let b = base.right in let f = s.base in let a = above in omega arith, sym all.same))
          (λ ge.
          let t = inv.reports.committed x e k l m in
          let same : e ≡ r.plan.epoch = omega arith in
          let one : t.plan ≡ r.plan =
          one_sync inv t.plan r.plan (active_sync inv t.plan t.activated) (active_sync inv r.plan s.activated) (t.epoch_is ∙ same) in
          let begins : Prefix l (w.log node) =
          subst (λ z. Prefix l z) (ap (whole w.written) one ∙ sym (role_log inv node r h)) t.within in
          let all : Agree k l (w.log node) = agree_prefix k begins t.enough in
          (⊎_elim (λ f. let a = above in omega arith) (λ g. g) (s.covers x e k l m same), sym all.same))
          (cases_lt e r.plan.epoch),
    )
      where
        s : SoundRole w.active w.told node (w.promised node) (w.joined node) (w.log node) r
        s = inv.roles node r h

        above : r.floor < r.reported
        above = ⊎_elim (λ z. absurd (omega arith)) (λ lt. lt) s.reported

        base_begins : Prefix r.plan.base (w.log node)
        base_begins = subst (λ l. Prefix r.plan.base l) (sym (role_log inv node r h)) (prefix_append r.plan.base (w.written r.plan.epoch))

pub one_primary_lem : OnePrimary
one_primary_lem c deeds sound valid = one_primary_told (history_sound c deeds valid)

pub no_older_lem : NoOlder
no_older_lem c deeds sound valid = let inv = history_sound c deeds valid in inv.reports.none_older

pub writes_kept_lem : WritesKept
writes_kept_lem c deeds sound valid = writes_kept_told (history_sound c deeds valid) sound

pub answers_covered_lem : AnswersCovered
answers_covered_lem c deeds sound valid = answers_covered_told (history_sound c deeds valid) sound

-- what was told stays told
told_grows : (w : World) (deed : Deed) (report : Report) → IsMember report w.told → IsMember report (after w deed).told
told_grows w (RaisesPromise node e) report m = inr m
told_grows w (Appends node d) report m = inr m
told_grows w (BecomesPrimary node p) report m = inr m
told_grows w (Writes node r entry) report m = inr m
told_grows w (Commits node last r) report m = inr m
told_grows w deed report m = m

pub told_stays : (since before : List Deed) (report : Report) → IsMember report (world_after before).told → IsMember report (world_after (since ++ before)).told
told_stays [] before report m = m
told_stays (deed ∷ since) before report m = told_grows (world_after (since ++ before)) deed report (told_stays since before report m)

pub committed_stands_lem : CommittedStands
committed_stands_lem c deeds since before later earlier x y k r p sound valid is_commit is_primary lt loss =
    writes_kept_lem c deeds sound valid x y r.plan.epoch p.epoch k ((world_after before).log x) ((world_after earlier).log y)
    (subst (λ ds. IsMember (TellsCommitted x r.plan.epoch k ((world_after before).log x)) (world_after ds).told) (sym is_commit)
    (told_stays since (Commits x k r ∷ before) (TellsCommitted x r.plan.epoch k ((world_after before).log x)) (inl refl)))
    (subst (λ ds. IsMember (TellsPrimary y p.epoch ((world_after earlier).log y)) (world_after ds).told) (sym is_primary)
    (told_stays later (BecomesPrimary y p ∷ earlier) (TellsPrimary y p.epoch ((world_after earlier).log y)) (inl refl)))
    lt loss
