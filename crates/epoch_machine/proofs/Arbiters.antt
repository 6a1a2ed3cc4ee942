-- The deeds of arbitrators keep the invariant.
use Rattle.std.proofs.Common.{◌≡◌, ℕ, ◌<◌, Bool, true, false, cond, ◌∷◌, ◌⊎◌, refl, sym, ap, subst, inl, inr, arith, ◌≤◌, ◌∙◌, Option, None, Some, ⊎_elim, nat_lt}
use Rattle.std.proofs.lemmas.Bool.{ltb-true, ltb-false}
use Rattle.fabric_lemmas.specs.Members.{IsMember}
use Rattle.epoch_machine.specs.Settings.{Settings}
use Rattle.epoch_machine.specs.Plans.{Plan, Who}
use Rattle.epoch_machine.specs.Messages.{Prepared, prepared_by}
use Rattle.epoch_machine.specs.World.{World, replaced}
use Rattle.epoch_machine.specs.Evidence.{AtLeast}
use Rattle.epoch_machine.specs.Deeds.{Prepares, Votes, KeepsDone}
use Rattle.epoch_machine.specs.Guards.{Can}
use Rattle.epoch_machine.specs.Effects.{higher, after}
use Rattle.epoch_machine.specs.SoundRegisters.{SoundRegisters}
use Rattle.epoch_machine.specs.Invariant.{Invariant}
use Rattle.epoch_machine.proofs.Members.{new_cases}
use Rattle.epoch_machine.proofs.Replaced.{put_cases, put_both_cases, put_at}
use Rattle.epoch_machine.proofs.Majorities.{majority_map}

module _ {c : Settings} {w : World} (inv : Invariant c w) where
  module _ (a : ℕ) (to : Who) (e : ℕ) (can : Can c w (Prepares a to e)) where
    rises : (n : ℕ) → w.prepared n ≤ replaced w.prepared a e n
    rises = put_cases (λ n v. w.prepared n ≤ v) w.prepared a e (⊎_elim (λ lt. omega arith) (λ h. let i = h.0 in omega arith) can) (λ n d. omega arith)

    -- this epoch was prepared here for nobody else
    same_to : (h : Prepared) → IsMember h w.answers → h.arbiter ≡ a → h.epoch ≡ e → h.to ≡ to
    same_to h m is epoch =
        let le = inv.registers.below h m in
        let here = ap w.prepared is in
        ⊎_elim (λ lt. absurd (omega arith))
        (λ i. let same : h.epoch ≡ w.prepared h.arbiter = epoch ∙ sym i.0 ∙ ap w.prepared (sym is) in
        inv.registers.preparer_is h m same ∙ ap w.preparer is ∙ i.1)
        can

    prepares_registers : SoundRegisters (replaced w.prepared a e) (replaced w.preparer a to) w.done (prepared_by a to e (w.done a) ∷ w.answers) w.kept
    prepares_registers = record {
      below =
          new_cases (λ g. g.epoch ≤ replaced w.prepared a e g.arbiter) _ w.answers (let h = put_at w.prepared a e in omega arith)
          (λ g m. let h = inv.registers.below g m in let up = rises g.arbiter in omega arith);
      preparer_is =
          new_cases (λ g. g.epoch ≡ replaced w.prepared a e g.arbiter → g.to ≡ replaced w.preparer a to g.arbiter) _ w.answers
          (λ h. sym (put_at w.preparer a to))
          (λ g m.
          put_both_cases (λ n v u. g.arbiter ≡ n → g.epoch ≡ v → g.to ≡ u) w.prepared w.preparer a e to (same_to g m)
          (λ n d is h. inv.registers.preparer_is g m (h ∙ ap w.prepared (sym is)) ∙ ap w.preparer is) g.arbiter refl);
      once = λ g h mg mh.
          new_cases (λ g. g.arbiter ≡ h.arbiter → g.epoch ≡ h.epoch → g.to ≡ h.to) _ w.answers
          (λ is epoch.
          new_cases (λ h. a ≡ h.arbiter → e ≡ h.epoch → to ≡ h.to) _ w.answers (λ i j. refl)
          (λ h m i j. sym (same_to h m (sym i) (sym j))) h mh is epoch)
          (λ g m is epoch.
          new_cases (λ h. g.arbiter ≡ h.arbiter → g.epoch ≡ h.epoch → g.to ≡ h.to) _ w.answers (λ i j. same_to g m i j)
          (λ h n i j. inv.registers.once g h m n i j) h mh is epoch)
          g mg;
      kept_done = inv.registers.kept_done;
      carried = λ g k mg mk.
          new_cases (λ g. g.arbiter ≡ k.arbiter → k.epoch < g.epoch → AtLeast k.epoch g.done) _ w.answers
          (λ is lt. subst (λ n. AtLeast k.epoch (w.done n)) (sym is) (inv.registers.kept_done k mk))
          (λ g m is lt. inv.registers.carried g k m mk is lt) g mg;
    }

    pub prepares_keeps : Invariant c (after w (Prepares a to e))
    prepares_keeps = record {
      registers = prepares_registers;
      all_asked = record {
        done_asked = inv.all_asked.done_asked;
        answer_asked = λ g p m.
            new_cases (λ g. g.done ≡ Some p → IsMember p w.asked) _ w.answers (inv.all_asked.done_asked a p) (λ g m. inv.all_asked.answer_asked g p m) g m;
        prev_asked = inv.all_asked.prev_asked;
      };
      attempts = record {
        positive = inv.attempts.positive;
        majority = λ t m.
            majority_map c.arbiters (λ n h. record { done = h.done; sent = inr h.sent; not_above = h.not_above }) (inv.attempts.majority t m);
        once = inv.attempts.once;
        prev_below = λ t p m is.
            ⊎_elim (λ lt. inl lt)
            (λ barred. inr (majority_map c.arbiters (λ n h. record { past = let up = rises n in let past = h.past in omega arith; none = h.none }) barred))
            (inv.attempts.prev_below t p m is);
      };
      plans = inv.plans;
      stages = inv.stages;
      logs = inv.logs;
      promises = inv.promises;
      sayings = inv.sayings;
      copies = inv.copies;
      roles = inv.roles;
      reports = inv.reports;
    }

  module _ (a : ℕ) (p : Plan) (can : Can c w (Votes a p)) where
    pub votes_keeps : Invariant c (after w (Votes a p))
    votes_keeps = record {
      registers = inv.registers;
      all_asked = inv.all_asked;
      attempts = record {
        positive = inv.attempts.positive;
        majority = inv.attempts.majority;
        once = inv.attempts.once;
        prev_below = λ t q m is.
            ⊎_elim (λ lt. inl lt)
            (λ barred. inr (majority_map c.arbiters
            (λ n h. record {
              past = h.past;
              none =
                  new_cases (λ b. b.arbiter ≡ n → b.plan.epoch ≡ t.epoch → ⊥) _ w.ballots
                  (λ here epoch. let past = h.past in let same = ap w.prepared here in let le = can.1 in omega arith) h.none;
            })
            barred))
            (inv.attempts.prev_below t q m is);
      };
      plans = record {
        once = inv.plans.once;
        plan = inv.plans.plan;
        ballot = new_cases (λ b. IsMember b.plan w.plans) _ w.ballots can.0 inv.plans.ballot;
      };
      stages = record {
        of_sync = λ q m. let s = inv.stages.of_sync q m in (s.0, majority_map c.arbiters (λ n h. inr h) s.1);
        of_asked = inv.stages.of_asked;
        of_active = inv.stages.of_active;
      };
      logs = inv.logs;
      promises = inv.promises;
      sayings = inv.sayings;
      copies = inv.copies;
      roles = inv.roles;
      reports = inv.reports;
    }

  -- the higher of two done configurations
  higher_new : (o : Option Plan) (p : Plan) → AtLeast p.epoch (higher o p)
  higher_new None p = omega arith
  higher_new (Some q) p = go (nat_lt q.epoch p.epoch) refl
    where
      go : (b : Bool) → nat_lt q.epoch p.epoch ≡ b → AtLeast p.epoch (cond b (Some p) (Some q))
      go true e = omega arith
      go false e = ltb-false q.epoch p.epoch e

  higher_old : (e : ℕ) (o : Option Plan) (p : Plan) → AtLeast e o → AtLeast e (higher o p)
  higher_old e None p h = absurd h
  higher_old e (Some q) p h = go (nat_lt q.epoch p.epoch) refl
    where
      go : (b : Bool) → nat_lt q.epoch p.epoch ≡ b → AtLeast e (cond b (Some p) (Some q))
      go true i = let lt = ltb-true q.epoch p.epoch i in omega arith
      go false i = h

  higher_is : (o : Option Plan) (p q : Plan) → higher o p ≡ Some q → (q ≡ p) ⊎ (o ≡ Some q)
  higher_is None p q h = inl cc
  higher_is (Some r) p q h = go (nat_lt r.epoch p.epoch) h
    where
      go : (b : Bool) → cond b (Some p) (Some r) ≡ Some q → (q ≡ p) ⊎ (Some r ≡ Some q)
      go true i = inl cc
      go false i = inr i

  module _ (a : ℕ) (p : Plan) (can : Can c w (KeepsDone a p)) where
    pub keeps_done_keeps : Invariant c (after w (KeepsDone a p))
    keeps_done_keeps = record {
      registers = record {
        below = inv.registers.below;
        preparer_is = inv.registers.preparer_is;
        once = inv.registers.once;
        kept_done =
            new_cases (λ k. AtLeast k.epoch (replaced w.done a (higher (w.done a) p) k.arbiter)) _ w.kept
            (subst (λ o. AtLeast p.epoch o) (sym (put_at w.done a (higher (w.done a) p))) (higher_new (w.done a) p))
            (λ k m.
            put_cases (λ n o. k.arbiter ≡ n → AtLeast k.epoch o) w.done a (higher (w.done a) p)
            (λ is. higher_old k.epoch (w.done a) p (subst (λ n. AtLeast k.epoch (w.done n)) is (inv.registers.kept_done k m)))
            (λ n d is. subst (λ n. AtLeast k.epoch (w.done n)) is (inv.registers.kept_done k m)) k.arbiter refl);
        carried = λ g k mg mk.
            new_cases (λ k. g.arbiter ≡ k.arbiter → k.epoch < g.epoch → AtLeast k.epoch g.done) _ w.kept
            (λ is lt. absurd (let le = inv.registers.below g mg in let same = ap w.prepared is in let h = can.1 in omega arith))
            (λ k m. inv.registers.carried g k mg m) k mk;
      };
      all_asked = record {
        done_asked =
            put_cases (λ n o. (q : Plan) → o ≡ Some q → IsMember q w.asked) w.done a (higher (w.done a) p)
            (λ q h. ⊎_elim (λ e. subst (λ r. IsMember r w.asked) (sym e) can.0) (λ e. inv.all_asked.done_asked a q e) (higher_is (w.done a) p q h))
            (λ n d. inv.all_asked.done_asked n);
        answer_asked = inv.all_asked.answer_asked;
        prev_asked = inv.all_asked.prev_asked;
      };
      attempts = inv.attempts;
      plans = inv.plans;
      stages = record {
        of_sync = inv.stages.of_sync;
        of_asked = inv.stages.of_asked;
        of_active = λ q m. let s = inv.stages.of_active q m in (s.0, majority_map c.arbiters (λ n h. inr h) s.1);
      };
      logs = inv.logs;
      promises = inv.promises;
      sayings = inv.sayings;
      copies = inv.copies;
      roles = inv.roles;
      reports = inv.reports;
    }
