-- A promise, and its answer, keep the invariant.
use Rattle.std.proofs.Common.{◌≡◌, ℕ, ◌<◌, List, [], ◌∷◌, ◌⊎◌, refl, ap, subst, inl, inr, arith, ◌≤◌, ◌∙◌, Option, None, Some}
use Rattle.fabric_lemmas.specs.Members.{IsMember}
use Rattle.epoch_machine.specs.Settings.{Settings}
use Rattle.epoch_machine.specs.Plans.{Plan, Role}
use Rattle.epoch_machine.specs.Messages.{Promised, promised_by}
use Rattle.epoch_machine.specs.World.{World, replaced, TellsPromised, TellsAccepted, TellsPrimary, TellsCommitted}
use Rattle.epoch_machine.specs.Deeds.{RaisesPromise, AnswersPromise}
use Rattle.epoch_machine.specs.Guards.{Can}
use Rattle.epoch_machine.specs.Effects.{after}
use Rattle.epoch_machine.specs.SoundPlans.{SoundPlanned}
use Rattle.epoch_machine.specs.SoundLogs.{SoundLog}
use Rattle.epoch_machine.specs.SoundSayings.{Reached}
use Rattle.epoch_machine.specs.SoundCopies.{CollectedFrom}
use Rattle.epoch_machine.specs.SoundRoles.{SoundRole}
use Rattle.epoch_machine.specs.Invariant.{Invariant}
use Rattle.epoch_machine.proofs.Members.{new_cases, not_new}
use Rattle.epoch_machine.proofs.Replaced.{put_cases, put_both_cases, put_at}
use Rattle.epoch_machine.proofs.Majorities.{majority_map}
use Rattle.epoch_machine.proofs.Reporting.{role_told}

-- a promise more
planned_grown : (c : Settings) (promises : List Promised) (s : Promised) (prev : Option Plan) (p : Plan) → SoundPlanned c promises prev p →
    SoundPlanned c (s ∷ promises) prev p
planned_grown c promises s None p h = h
planned_grown c promises s (Some f) p (inl lost) = inl (record { joined = lost.0.joined; sent = inr lost.0.sent; before = lost.0.before }, lost.1)
planned_grown c promises s (Some f) p (inr moved) = inr (record {
  from = record { joined = moved.from.joined; sent = inr moved.from.sent; before = moved.from.before };
  most = majority_map f.members (λ n h. record { joined = h.joined; log = h.log; sent = inr h.sent; behind = h.behind }) moved.most;
})

module _ {c : Settings} {w : World} (inv : Invariant c w) where
  module _ (node e : ℕ) (can : Can c w (RaisesPromise node e)) where
    raised : (n : ℕ) → w.promised n ≤ replaced w.promised node e n
    raised = put_cases (λ n v. w.promised n ≤ v) w.promised node e (omega arith) (λ n d. omega arith)

    raised_below : (n f : ℕ) → IsMember (TellsPromised n f) (TellsPromised node e ∷ w.told) ⊎ IsMember (TellsAccepted n f) (TellsPromised node e ∷ w.told) →
        f ≤ replaced w.promised node e n
    raised_below n f (inl (inl same)) =
        let is : n ≡ node = cc in
        let fe : f ≡ e = cc in
        let here = put_at w.promised node e in
        let there = ap (replaced w.promised node e) is in omega arith
    raised_below n f (inl (inr m)) = let le = inv.reports.below n f (inl m) in let up = raised n in omega arith
    raised_below n f (inr (inl same)) = absurd cc
    raised_below n f (inr (inr m)) = let le = inv.reports.below n f (inr m) in let up = raised n in omega arith

    pub raises_promise_keeps : Invariant c (after w (RaisesPromise node e))
    raises_promise_keeps = record {
      registers = inv.registers;
      all_asked = inv.all_asked;
      attempts = inv.attempts;
      plans = inv.plans;
      stages = inv.stages;
      logs = record {
        below = λ n. let le = inv.logs.below n in let up = raised n in omega arith;
        sound = inv.logs.sound;
        primary = inv.logs.primary;
        untouched = inv.logs.untouched;
        entries = inv.logs.entries;
      };
      promises = record {
        below = λ r m. let le = inv.promises.below r m in let up = raised r.node in omega arith;
        joined_below = inv.promises.joined_below;
        sound = inv.promises.sound;
        frozen = λ r m.
            put_cases (λ n v. r.node ≡ n → v ≡ r.epoch → w.joined r.node < r.epoch → w.log r.node ≡ r.log) w.promised node e
            (λ is h lt. absurd (let le = inv.promises.below r m in let same = ap w.promised is in omega arith))
            (λ n d is h lt. inv.promises.frozen r m (ap w.promised is ∙ h) lt) r.node refl;
      };
      sayings = inv.sayings;
      copies = record {
        collection =
            put_both_cases (λ n v l. (l ≡ []) ⊎ CollectedFrom w.syncs v l) w.promised w.collected node e [] (inl refl) (λ n d. inv.copies.collection n);
        piece = inv.copies.piece;
        append = inv.copies.append;
      };
      roles =
          put_both_cases
          (λ n v o. (r : Role) → o ≡ Some r → SoundRole w.active (TellsPromised node e ∷ w.told) n v (w.joined n) (w.log n) r) w.promised w.role node
          e None (λ r h. absurd (cc (h))) (λ n d r h. role_told (TellsPromised node e) (λ x f k l i. cc (i)) (inv.roles n r h));
      reports = record {
        below = raised_below;
        none_older = (tt, inv.reports.none_older);
        primary = λ n f l m. inv.reports.primary n f l (not_new (TellsPrimary n f l) (TellsPromised node e) w.told (λ i. cc (i)) m);
        committed = λ n f k l m. inv.reports.committed n f k l (not_new (TellsCommitted n f k l) (TellsPromised node e) w.told (λ i. cc (i)) m);
      };
    }

  module _ (node : ℕ) where
    s : Promised
    s = promised_by node (w.promised node) (w.joined node) (w.log node)

    pub answers_promise_keeps : Invariant c (after w (AnswersPromise node))
    answers_promise_keeps = record {
      registers = inv.registers;
      all_asked = inv.all_asked;
      attempts = inv.attempts;
      plans = record {
        once = inv.plans.once;
        plan = λ p m.
            let o = inv.plans.plan p m in record {
              attempt = o.attempt;
              entered = o.entered;
              epoch_is = o.epoch_is;
              planned = planned_grown c w.promises _ o.attempt.prev p o.planned;
            };
        ballot = inv.plans.ballot;
      };
      stages = inv.stages;
      logs = inv.logs;
      promises = record {
        below = new_cases (λ r. r.epoch ≤ w.promised r.node) _ w.promises (omega arith) inv.promises.below;
        joined_below = new_cases (λ r. r.joined ≤ r.epoch) _ w.promises (inv.logs.below node) inv.promises.joined_below;
        sound = new_cases (λ r. SoundLog w.syncs w.written r.joined r.log) _ w.promises (inv.logs.sound node) inv.promises.sound;
        frozen =
            new_cases (λ r. w.promised r.node ≡ r.epoch → w.joined r.node < r.epoch → w.log r.node ≡ r.log) _ w.promises (λ h lt. refl)
            inv.promises.frozen;
      };
      sayings = record {
        adopted_now = inv.sayings.adopted_now;
        adopted_before = λ d r md.
            new_cases (λ r. d.node ≡ r.node → d.epoch < r.epoch → d.epoch ≤ r.joined) _ w.promises
            (λ is lt. let le = inv.sayings.adopted_now d md in let same = ap w.joined is in omega arith)
            (λ r m. inv.sayings.adopted_before d r md m) r;
        appended_now = inv.sayings.appended_now;
        appended_before = λ d r md.
            new_cases (λ r. d.node ≡ r.node → d.epoch < r.epoch → Reached d.epoch d.last r.joined r.log) _ w.promises
            (λ is lt. subst (λ n. Reached d.epoch d.last (w.joined n) (w.log n)) is (inv.sayings.appended_now d md))
            (λ r m. inv.sayings.appended_before d r md m) r;
      };
      copies = inv.copies;
      roles = inv.roles;
      reports = inv.reports;
    }
