-- The decision on a configuration, asking for it as done, and its activation keep the invariant.
use Rattle.std.proofs.Common.{◌≡◌, ℕ, List, ◌∷◌, subst, inl, inr, arith, ◌∙◌, ⊎_elim}
use Rattle.fabric_lemmas.specs.Members.{IsMember}
use Rattle.epoch_machine.specs.Majorities.{MajorityOf}
use Rattle.epoch_machine.specs.Logs.{Entry}
use Rattle.epoch_machine.specs.Settings.{Settings}
use Rattle.epoch_machine.specs.Plans.{Plan}
use Rattle.epoch_machine.specs.Messages.{ballot_of}
use Rattle.epoch_machine.specs.World.{World, whole}
use Rattle.epoch_machine.specs.Deeds.{Syncs, AsksDone, Activates}
use Rattle.epoch_machine.specs.Guards.{Can}
use Rattle.epoch_machine.specs.Effects.{after}
use Rattle.epoch_machine.specs.SoundLogs.{SoundLog}
use Rattle.epoch_machine.specs.Invariant.{Invariant}
use Rattle.epoch_machine.proofs.Members.{new_cases}
use Rattle.epoch_machine.proofs.Prefixes.{prefix_refl}
use Rattle.epoch_machine.proofs.Grown.{sound_log_grown}
use Rattle.epoch_machine.proofs.Kept.{sync_plan, positive}

module _ {c : Settings} {w : World} (inv : Invariant c w) where
  module _ (p : Plan) (can : Can c w (Syncs p)) where
    grown : (joined : ℕ) (log : List Entry) → SoundLog w.syncs w.written joined log → SoundLog (p ∷ w.syncs) w.written joined log
    grown = sound_log_grown (λ q m. inr m) (λ e. prefix_refl (w.written e))

    pub syncs_keeps : Invariant c (after w (Syncs p))
    syncs_keeps = record {
      registers = inv.registers;
      all_asked = inv.all_asked;
      attempts = inv.attempts;
      plans = inv.plans;
      stages = record {
        of_sync = new_cases (λ q. IsMember q w.plans × MajorityOf c.arbiters (λ a. IsMember (ballot_of q a) w.ballots)) p w.syncs can inv.stages.of_sync;
        of_asked = λ q m. let s = inv.stages.of_asked q m in (inr s.0, s.1);
        of_active = inv.stages.of_active;
      };
      logs = record {
        below = inv.logs.below;
        sound = λ n. grown (w.joined n) (w.log n) (inv.logs.sound n);
        primary =
            new_cases (λ q. w.joined q.primary ≡ q.epoch → w.log q.primary ≡ whole w.written q) p w.syncs
            (λ e. ⊎_elim (λ none. absurd (let z = none.0 in let pos = positive inv p can.0 in omega arith))
            (λ l.
            let one : l.plan ≡ p = inv.plans.once l.plan p (sync_plan inv l.plan l.synced) can.0 (l.epoch_is ∙ e) in
            inv.logs.primary p (subst (λ q. IsMember q w.syncs) one l.synced) e)
            (inv.logs.sound p.primary))
            inv.logs.primary;
        untouched = inv.logs.untouched;
        entries = inv.logs.entries;
      };
      promises = record {
        below = inv.promises.below;
        joined_below = inv.promises.joined_below;
        sound = λ r m. grown r.joined r.log (inv.promises.sound r m);
        frozen = inv.promises.frozen;
      };
      sayings = inv.sayings;
      copies = record {
        collection = λ n.
            ⊎_elim (λ h. inl h) (λ h. inr (record { plan = h.plan; synced = inr h.synced; epoch_is = h.epoch_is; begins = h.begins }))
            (inv.copies.collection n);
        piece = λ d m. let h = inv.copies.piece d m in record { plan = h.plan; synced = inr h.synced; epoch_is = h.epoch_is; is = h.is };
        append = λ d m. let h = inv.copies.append d m in record { plan = h.plan; synced = inr h.synced; epoch_is = h.epoch_is; is = h.is };
      };
      roles = inv.roles;
      reports = inv.reports;
    }

  module _ (p : Plan) (can : Can c w (AsksDone p)) where
    pub asks_done_keeps : Invariant c (after w (AsksDone p))
    asks_done_keeps = record {
      registers = inv.registers;
      all_asked = record {
        done_asked = λ a q h. inr (inv.all_asked.done_asked a q h);
        answer_asked = λ g q m h. inr (inv.all_asked.answer_asked g q m h);
        prev_asked = λ t q m h. inr (inv.all_asked.prev_asked t q m h);
      };
      attempts = inv.attempts;
      plans = inv.plans;
      stages = record {
        of_sync = inv.stages.of_sync;
        of_asked = new_cases _ p w.asked can inv.stages.of_asked;
        of_active = λ q m. let s = inv.stages.of_active q m in (inr s.0, s.1);
      };
      logs = inv.logs;
      promises = inv.promises;
      sayings = inv.sayings;
      copies = inv.copies;
      roles = inv.roles;
      reports = inv.reports;
    }

  module _ (p : Plan) (can : Can c w (Activates p)) where
    pub activates_keeps : Invariant c (after w (Activates p))
    activates_keeps = record {
      registers = inv.registers;
      all_asked = inv.all_asked;
      attempts = inv.attempts;
      plans = inv.plans;
      stages = record {
        of_sync = inv.stages.of_sync;
        of_asked = inv.stages.of_asked;
        of_active = new_cases _ p w.active can inv.stages.of_active;
      };
      logs = record {
        below = inv.logs.below;
        sound = inv.logs.sound;
        primary = inv.logs.primary;
        untouched = λ e.
            ⊎_elim (λ h. inl h) (λ h. inr (record { plan = h.plan; activated = inr h.activated; epoch_is = h.epoch_is; reached = h.reached }))
            (inv.logs.untouched e);
        entries = inv.logs.entries;
      };
      promises = inv.promises;
      sayings = inv.sayings;
      copies = inv.copies;
      roles = λ n r h.
          let s = inv.roles n r h in record {
            activated = inr s.activated;
            primary = s.primary;
            promised_is = s.promised_is;
            joined_is = s.joined_is;
            base = s.base;
            floor = s.floor;
            reported = s.reported;
            within = s.within;
            covers = s.covers;
          };
      reports = record {
        below = inv.reports.below;
        none_older = inv.reports.none_older;
        primary = λ n e l m.
            let h = inv.reports.primary n e l m in
            record { plan = h.plan; activated = inr h.activated; primary = h.primary; epoch_is = h.epoch_is; begins = h.begins };
        committed = λ n e k l m.
            let h = inv.reports.committed n e k l m in record {
              plan = h.plan;
              activated = inr h.activated;
              primary = h.primary;
              epoch_is = h.epoch_is;
              enough = h.enough;
              within = h.within;
              most = h.most;
            };
      };
    }
