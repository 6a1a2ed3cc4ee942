-- Proposing a configuration keeps the invariant.
use Rattle.std.proofs.Common.{◌≡◌, ◌<◌, refl, sym, inl, inr, arith, Option, None, Some, ⊎_elim}
use Rattle.std.proofs.lemmas.Bool.{cases_lt}
use Rattle.fabric_lemmas.specs.Members.{IsMember}
use Rattle.epoch_machine.specs.Settings.{Settings}
use Rattle.epoch_machine.specs.Plans.{Plan}
use Rattle.epoch_machine.specs.Messages.{Promised, promised_by}
use Rattle.epoch_machine.specs.World.{World}
use Rattle.epoch_machine.specs.Evidence.{FromOrigin, Planned}
use Rattle.epoch_machine.specs.Deeds.{Proposes}
use Rattle.epoch_machine.specs.Guards.{Can}
use Rattle.epoch_machine.specs.Effects.{after}
use Rattle.epoch_machine.specs.SoundPlans.{SoundOrigin, SoundPlanned, PlanOf}
use Rattle.epoch_machine.specs.Invariant.{Invariant}
use Rattle.epoch_machine.proofs.Members.{new_cases}
use Rattle.epoch_machine.proofs.Kept.{sync_plan}

module _ {c : Settings} {w : World} (inv : Invariant c w) where
  module _ (p : Plan) (can : Can c w (Proposes p)) where
    -- nobody adopted in this epoch before
    not_joined : (r : Promised) → IsMember r w.promises → r.epoch ≡ p.epoch → r.joined < p.epoch
    not_joined r m e =
        let le = inv.promises.joined_below r m in
        let t = can.1 in
        let pos = inv.attempts.positive t.0 t.1 in
        let te = t.2 in
        ⊎_elim (λ lt. lt)
        (λ ge. absurd (⊎_elim (λ none. let z = none.0 in omega arith)
        (λ l. can.0 l.plan (sync_plan inv l.plan l.synced) (let i = l.epoch_is in omega arith))
        (inv.promises.sound r m)))
        (cases_lt r.joined p.epoch)

    abbrev sound_origin : (o : FromOrigin w.promises p) → SoundOrigin w.promises p
    sound_origin o = record { joined = o.joined; sent = o.sent; before = not_joined (promised_by p.origin p.epoch o.joined p.base) o.sent refl }

    sound_planned : (prev : Option Plan) → Planned c w.promises prev p → SoundPlanned c w.promises prev p
    sound_planned None h = h
    sound_planned (Some f) h = ⊎_elim (λ lost. inl (sound_origin lost.0, lost.1)) (λ m. inr (record { from = sound_origin m.from; most = m.most })) h

    pub proposes_keeps : Invariant c (after w (Proposes p))
    proposes_keeps = record {
      registers = inv.registers;
      all_asked = inv.all_asked;
      attempts = inv.attempts;
      plans = record {
        once = λ q r mq mr.
            new_cases (λ q. q.epoch ≡ r.epoch → q ≡ r) p w.plans
            (new_cases (λ r. p.epoch ≡ r.epoch → p ≡ r) p w.plans (λ e. refl) (λ r m e. absurd (can.0 r m (sym e))) r mr)
            (λ q m.
            new_cases (λ r. q.epoch ≡ r.epoch → q ≡ r) p w.plans (λ e. absurd (can.0 q m e)) (λ r n e. inv.plans.once q r m n e) r mr)
            q mq;
        plan = new_cases (PlanOf c w.attempts w.promises) p w.plans
            (let t = can.1 in record { attempt = t.0; entered = t.1; epoch_is = t.2; planned = sound_planned t.0.prev t.3 })
            inv.plans.plan;
        ballot = λ b m. inr (inv.plans.ballot b m);
      };
      stages = record {
        of_sync = λ q m. let s = inv.stages.of_sync q m in (inr s.0, s.1);
        of_asked = inv.stages.of_asked;
        of_active = inv.stages.of_active;
      };
      logs = inv.logs;
      promises = inv.promises;
      sayings = inv.sayings;
      copies = inv.copies;
      roles = inv.roles;
      reports = inv.reports;
    }
