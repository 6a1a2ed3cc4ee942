-- Leaving the phase Prepare keeps the invariant.
use Rattle.std.proofs.Common.{◌≡◌, ◌<◌, ◌⊎◌, refl, sym, subst, inl, inr, arith, ◌∙◌, Some, ⊎_elim}
use Rattle.std.proofs.lemmas.Bool.{cases_lt}
use Rattle.fabric_lemmas.specs.Members.{IsMember}
use Rattle.epoch_machine.specs.Majorities.{MajorityOf}
use Rattle.epoch_machine.specs.Settings.{Settings}
use Rattle.epoch_machine.specs.Plans.{Plan, Attempt}
use Rattle.epoch_machine.specs.Messages.{prepared_by}
use Rattle.epoch_machine.specs.World.{World}
use Rattle.epoch_machine.specs.Evidence.{AnsweredTo, Carried}
use Rattle.epoch_machine.specs.Deeds.{LeavesPrepare}
use Rattle.epoch_machine.specs.Guards.{Can}
use Rattle.epoch_machine.specs.Effects.{after}
use Rattle.epoch_machine.specs.SoundAttempts.{IsBarred}
use Rattle.epoch_machine.specs.Invariant.{Invariant}
use Rattle.epoch_machine.proofs.Members.{new_cases}
use Rattle.epoch_machine.proofs.Majorities.{meet, majority_map}
use Rattle.epoch_machine.proofs.Kept.{sync_plan}

module _ {c : Settings} {w : World} (inv : Invariant c w) where
  module _ (t : Attempt) (can : Can c w (LeavesPrepare t)) where
    -- nobody entered this epoch before
    pub fresh : (u : Attempt) → IsMember u w.attempts → u.epoch ≡ t.epoch → ⊥
    fresh u m e =
        let s = meet c.arbiters (inv.attempts.majority u m) can.2 in
        let who : u.who ≡ t.who =
        inv.registers.once (prepared_by s.0 u.who u.epoch s.1.done) (prepared_by s.0 t.who t.epoch s.2.done) s.1.sent s.2.sent refl e in
        let lt = can.1 u m who in omega arith

    prev_was_asked : (p : Plan) → t.prev ≡ Some p → IsMember p w.asked
    prev_was_asked p is =
        let h : Carried w.answers t.who t.epoch (Some p) = subst (λ o. Carried w.answers t.who t.epoch o) is can.3 in
        inv.all_asked.answer_asked (prepared_by h.0 t.who t.epoch (Some p)) p h.1 refl

    enters_below : (p : Plan) → t.prev ≡ Some p → (p.epoch < t.epoch) ⊎ MajorityOf c.arbiters (IsBarred w.prepared w.ballots t.epoch)
    enters_below p is =
        let plan = inv.plans.plan p (sync_plan inv p (inv.stages.of_asked p (prev_was_asked p is)).0) in
        let u = plan.attempt in
        let e = plan.epoch_is in
        ⊎_elim (λ lt. inl lt)
        (λ le. inr (majority_map c.arbiters
        (λ n h. record {
          past =
              let g = inv.registers.below (prepared_by n u.who u.epoch h.done) h.sent in
              let d = fresh u plan.entered in omega arith;
          none = λ b m here epoch.
              let o = inv.plans.plan b.plan (inv.plans.ballot b m) in
              fresh o.attempt o.entered (o.epoch_is ∙ epoch);
        })
        (inv.attempts.majority u plan.entered)))
        (cases_lt p.epoch t.epoch)

    pub leaves_prepare_keeps : Invariant c (after w (LeavesPrepare t))
    leaves_prepare_keeps = record {
      registers = inv.registers;
      all_asked = record {
        done_asked = inv.all_asked.done_asked;
        answer_asked = inv.all_asked.answer_asked;
        prev_asked = λ u p m.
            new_cases (λ u. u.prev ≡ Some p → IsMember p w.asked) t w.attempts (prev_was_asked p) (λ u m. inv.all_asked.prev_asked u p m) u m;
      };
      attempts = record {
        positive = new_cases (λ u. 0 < u.epoch) t w.attempts can.0 inv.attempts.positive;
        majority = new_cases (λ u. MajorityOf c.arbiters (AnsweredTo w.answers u.who u.epoch u.prev)) t w.attempts can.2 inv.attempts.majority;
        once = λ u v mu mv.
            new_cases (λ u. u.epoch ≡ v.epoch → u ≡ v) t w.attempts
            (new_cases (λ v. t.epoch ≡ v.epoch → t ≡ v) t w.attempts (λ e. refl) (λ v m e. absurd (fresh v m (sym e))) v mv)
            (λ u m.
            new_cases (λ v. u.epoch ≡ v.epoch → u ≡ v) t w.attempts (λ e. absurd (fresh u m e)) (λ v n e. inv.attempts.once u v m n e) v mv)
            u mu;
        prev_below = λ u p m.
            new_cases (λ u. u.prev ≡ Some p → (p.epoch < u.epoch) ⊎ MajorityOf c.arbiters (IsBarred w.prepared w.ballots u.epoch)) t w.attempts
            (enters_below p) (λ u m. inv.attempts.prev_below u p m) u m;
      };
      plans = record {
        once = inv.plans.once;
        plan = λ p m. let o = inv.plans.plan p m in record { attempt = o.attempt; entered = inr o.entered; epoch_is = o.epoch_is; planned = o.planned };
        ballot = inv.plans.ballot;
      };
      stages = inv.stages;
      logs = inv.logs;
      promises = inv.promises;
      sayings = inv.sayings;
      copies = inv.copies;
      roles = inv.roles;
      reports = inv.reports;
    }
