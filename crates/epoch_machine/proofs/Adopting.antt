-- The adoption of a log keeps the invariant.
use Rattle.std.proofs.Common.{◌≡◌, ℕ, ◌<◌, List, [], ◌++◌, length, refl, sym, ap, subst, inl, inr, arith, ◌≤◌, ◌∙◌, Option, None, Some, ⊎_elim}
use Rattle.std.proofs.lemmas.List.{append-nil, nil_from_length}
use Rattle.fabric_lemmas.specs.Members.{IsMember}
use Rattle.epoch_machine.specs.Logs.{Prefix, Entry}
use Rattle.epoch_machine.specs.Settings.{Settings}
use Rattle.epoch_machine.specs.Plans.{Plan, Role}
use Rattle.epoch_machine.specs.Messages.{Appended, promised_by}
use Rattle.epoch_machine.specs.World.{World, replaced, whole}
use Rattle.epoch_machine.specs.Deeds.{AdoptsNothing, AdoptsOwn, AdoptsCollected}
use Rattle.epoch_machine.specs.Guards.{MayAdopt, Can}
use Rattle.epoch_machine.specs.Effects.{adopting, after}
use Rattle.epoch_machine.specs.SoundPlans.{SoundOrigin, SoundPlanned}
use Rattle.epoch_machine.specs.SoundLogs.{SoundLog}
use Rattle.epoch_machine.specs.SoundSayings.{Reached}
use Rattle.epoch_machine.specs.SoundRoles.{SoundRole}
use Rattle.epoch_machine.specs.Invariant.{Invariant}
use Rattle.epoch_machine.proofs.Replaced.{put_cases, put_both_cases}
use Rattle.epoch_machine.proofs.Prefixes.{prefix_refl, prefix_nil, prefix_append, prefix_whole}
use Rattle.epoch_machine.proofs.Kept.{active_sync, sync_plan, one_sync}

module _ {c : Settings} {w : World} (inv : Invariant c w) where
  -- what a base that is not empty is
  pub origin_of : (p : Plan) → IsMember p w.syncs → 0 < length p.base → SoundOrigin w.promises p
  origin_of p m some =
      let o = inv.plans.plan p (sync_plan inv p m) in
      go o.attempt.prev o.planned
    where
      go : (prev : Option Plan) → SoundPlanned c w.promises prev p → SoundOrigin w.promises p
      go None none = absurd (let n = ap length none in omega arith)
      go (Some f) (inl lost) = lost.0
      go (Some f) (inr moved) = moved.from

  -- the origin keeps the base as its log until it adopts
  pub origin_log : (node : ℕ) (p : Plan) → IsMember p w.syncs → p.origin ≡ node → w.promised node ≡ p.epoch → w.joined node < p.epoch → 0 < length p.base →
      w.log node ≡ p.base
  origin_log node p m is promised lt some =
      let o = origin_of p m some in
      subst (λ n. w.promised n ≡ p.epoch → w.joined n < p.epoch → w.log n ≡ p.base) is
      (inv.promises.frozen (promised_by p.origin p.epoch o.joined p.base) o.sent) promised lt

  module _ (node : ℕ) (p : Plan) (log : List Entry) (may : MayAdopt w node p) (is_base : log ≡ p.base) where
    joins : (n : ℕ) → w.joined n ≤ replaced w.joined node p.epoch n
    joins = put_cases (λ n v. w.joined n ≤ v) w.joined node p.epoch (let lt = may.before in omega arith) (λ n d. omega arith)

    -- the primary wrote nothing before it adopted
    adopted_whole : p.primary ≡ node → log ≡ whole w.written p
    adopted_whole is = ⊎_elim
        (λ none. is_base ∙ sym (append-nil p.base) ∙ ap (λ l. p.base ++ l) (sym none))
        (λ h.
        let one : h.plan ≡ p = one_sync inv h.plan p (active_sync inv h.plan h.activated) may.synced h.epoch_is in
        let reached : p.epoch ≤ w.joined node = subst (λ n. p.epoch ≤ w.joined n) (ap (λ (q : Plan). q.primary) one ∙ is) h.reached in
        absurd (let lt = may.before in omega arith))
        (inv.logs.untouched p.epoch)

    adopted_keeps : Invariant c (adopting w node p log)
    adopted_keeps = record {
      registers = inv.registers;
      all_asked = inv.all_asked;
      attempts = inv.attempts;
      plans = inv.plans;
      stages = inv.stages;
      logs = record {
        below =
            put_cases (λ n v. v ≤ w.promised n) w.joined node p.epoch (let h = may.promised in omega arith) (λ n d. inv.logs.below n);
        sound =
            put_both_cases (λ n j l. SoundLog w.syncs w.written j l) w.joined w.log node p.epoch log
            (inr (record {
              plan = p;
              synced = may.synced;
              epoch_is = refl;
              begins = subst (λ l. Prefix p.base l) (sym is_base) (prefix_refl p.base);
              within = subst (λ l. Prefix l (whole w.written p)) (sym is_base) (prefix_append p.base (w.written p.epoch));
            }))
            (λ n d. inv.logs.sound n);
        primary = λ q m.
            put_both_cases (λ n j l. q.primary ≡ n → j ≡ q.epoch → l ≡ whole w.written q) w.joined w.log node p.epoch log
            (λ is e.
            let one : p ≡ q = one_sync inv p q may.synced m e in
            subst (λ q. q.primary ≡ node → log ≡ whole w.written q) one adopted_whole is)
            (λ n d is. subst (λ n. w.joined n ≡ q.epoch → w.log n ≡ whole w.written q) is (inv.logs.primary q m)) q.primary refl;
        untouched = λ e.
            ⊎_elim (λ h. inl h)
            (λ h. inr (record {
              plan = h.plan;
              activated = h.activated;
              epoch_is = h.epoch_is;
              reached = let le = h.reached in let up = joins h.plan.primary in omega arith;
            }))
            (inv.logs.untouched e);
        entries = inv.logs.entries;
      };
      promises = record {
        below = inv.promises.below;
        joined_below = inv.promises.joined_below;
        sound = inv.promises.sound;
        frozen = λ r m h.
            put_both_cases (λ n j l. r.node ≡ n → j < r.epoch → l ≡ r.log) w.joined w.log node p.epoch log
            (λ is lt. absurd (let same = ap w.promised is in let e = may.promised in omega arith))
            (λ n d is. subst (λ n. w.joined n < r.epoch → w.log n ≡ r.log) is (inv.promises.frozen r m h)) r.node refl;
      };
      sayings = record {
        adopted_now = λ d m. let le = inv.sayings.adopted_now d m in let up = joins d.node in omega arith;
        adopted_before = inv.sayings.adopted_before;
        appended_now = λ d m.
            put_both_cases (λ n j l. d.node ≡ n → Reached d.epoch d.last j l) w.joined w.log node p.epoch log
            (λ is. inl (let same = ap w.joined is in let lt = may.before in let le = reached_epoch d m in omega arith))
            (λ n d' is. subst (λ n. Reached d.epoch d.last (w.joined n) (w.log n)) is (inv.sayings.appended_now d m)) d.node refl;
        appended_before = inv.sayings.appended_before;
      };
      copies = inv.copies;
      roles =
          put_both_cases (λ n j l. (r : Role) → w.role n ≡ Some r → SoundRole w.active w.told n (w.promised n) j l r) w.joined w.log node p.epoch log
          (λ r h.
          let s = inv.roles node r h in
          let a = s.promised_is in
          let b = s.joined_is in
          let e = may.promised in
          let lt = may.before in absurd (omega arith))
          (λ n d. inv.roles n);
      reports = inv.reports;
    }
      where
        reached_epoch : (d : Appended) → IsMember d w.appended → d.epoch ≤ w.joined d.node
        reached_epoch d m = ⊎_elim (λ lt. omega arith) (λ h. let e = h.0 in omega arith) (inv.sayings.appended_now d m)

  pub adopts_nothing_keeps : (node : ℕ) (p : Plan) → Can c w (AdoptsNothing node p) → Invariant c (after w (AdoptsNothing node p))
  adopts_nothing_keeps node p can = adopted_keeps node p [] can.0 (sym (nil_from_length p.base can.1))

  pub adopts_own_keeps : (node : ℕ) (p : Plan) → Can c w (AdoptsOwn node p) → Invariant c (after w (AdoptsOwn node p))
  adopts_own_keeps node p can =
      let may = can.0 in
      adopted_keeps node p (w.log node) may (origin_log node p may.synced can.1 may.promised may.before can.2)

  -- what is collected begins the base
  pub collected_begins : (node : ℕ) (p : Plan) → MayAdopt w node p → Prefix (w.collected node) p.base
  collected_begins node p may = ⊎_elim
      (λ none. subst (λ l. Prefix l p.base) (sym none) (prefix_nil p.base))
      (λ h.
      let one : h.plan ≡ p = one_sync inv h.plan p h.synced may.synced (h.epoch_is ∙ may.promised) in
      subst (λ (q : Plan). Prefix (w.collected node) q.base) one h.begins)
      (inv.copies.collection node)

  pub adopts_collected_keeps : (node : ℕ) (p : Plan) → Can c w (AdoptsCollected node p) → Invariant c (after w (AdoptsCollected node p))
  adopts_collected_keeps node p can =
      adopted_keeps node p (w.collected node) can.0 (prefix_whole (collected_begins node p can.0) can.1)
