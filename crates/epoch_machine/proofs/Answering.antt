-- What a replica says of its log, and its restart, keep the invariant.
use Rattle.std.proofs.Common.{◌≡◌, ℕ, ◌<◌, [], ◌⊎◌, refl, ap, inl, inr, arith, ◌≤◌, None, Some}
use Rattle.epoch_machine.specs.Settings.{Settings}
use Rattle.epoch_machine.specs.Plans.{Role}
use Rattle.epoch_machine.specs.World.{World}
use Rattle.epoch_machine.specs.Deeds.{SaysAdopted, SaysAppended, Restarts}
use Rattle.epoch_machine.specs.Guards.{Can}
use Rattle.epoch_machine.specs.Effects.{after}
use Rattle.epoch_machine.specs.SoundSayings.{Reached}
use Rattle.epoch_machine.specs.SoundCopies.{CollectedFrom}
use Rattle.epoch_machine.specs.SoundRoles.{SoundRole}
use Rattle.epoch_machine.specs.Invariant.{Invariant}
use Rattle.epoch_machine.proofs.Members.{new_cases}
use Rattle.epoch_machine.proofs.Replaced.{put_cases}
use Rattle.epoch_machine.proofs.Majorities.{majority_map}

module _ {c : Settings} {w : World} (inv : Invariant c w) where
  pub says_adopted_keeps : (node : ℕ) → Can c w (SaysAdopted node) → Invariant c (after w (SaysAdopted node))
  says_adopted_keeps node can = record {
    registers = inv.registers;
    all_asked = inv.all_asked;
    attempts = inv.attempts;
    plans = inv.plans;
    stages = record {
      of_sync = inv.stages.of_sync;
      of_asked = λ p m. let s = inv.stages.of_asked p m in (s.0, majority_map p.members (λ n h. inr h) s.1);
      of_active = inv.stages.of_active;
    };
    logs = inv.logs;
    promises = inv.promises;
    sayings = record {
      adopted_now = new_cases (λ d. d.epoch ≤ w.joined d.node) _ w.adopted (omega arith) inv.sayings.adopted_now;
      adopted_before = λ d r md mr.
          new_cases (λ d. d.node ≡ r.node → d.epoch < r.epoch → d.epoch ≤ r.joined) _ w.adopted
          (λ is lt. absurd (let le = inv.promises.below r mr in let same = ap w.promised is in omega arith))
          (λ d m. inv.sayings.adopted_before d r m mr) d md;
      appended_now = inv.sayings.appended_now;
      appended_before = inv.sayings.appended_before;
    };
    copies = inv.copies;
    roles = inv.roles;
    reports = inv.reports;
  }

  pub says_appended_keeps : (node : ℕ) → Can c w (SaysAppended node) → Invariant c (after w (SaysAppended node))
  says_appended_keeps node can = record {
    registers = inv.registers;
    all_asked = inv.all_asked;
    attempts = inv.attempts;
    plans = inv.plans;
    stages = inv.stages;
    logs = inv.logs;
    promises = inv.promises;
    sayings = record {
      adopted_now = inv.sayings.adopted_now;
      adopted_before = inv.sayings.adopted_before;
      appended_now =
          new_cases (λ d. Reached d.epoch d.last (w.joined d.node) (w.log d.node)) _ w.appended (inr (refl, omega arith)) inv.sayings.appended_now;
      appended_before = λ d r md mr.
          new_cases (λ d. d.node ≡ r.node → d.epoch < r.epoch → Reached d.epoch d.last r.joined r.log) _ w.appended
          (λ is lt. absurd (let le = inv.promises.below r mr in let same = ap w.promised is in omega arith))
          (λ d m. inv.sayings.appended_before d r m mr) d md;
    };
    copies = inv.copies;
    roles = inv.roles;
    reports = record {
      below = inv.reports.below;
      none_older = inv.reports.none_older;
      primary = inv.reports.primary;
      committed = λ n e k l m.
          let h = inv.reports.committed n e k l m in record {
            plan = h.plan;
            activated = h.activated;
            primary = h.primary;
            epoch_is = h.epoch_is;
            enough = h.enough;
            within = h.within;
            most = majority_map h.plan.members (λ n a. record { own = a.own; sent = inr a.sent; enough = a.enough }) h.most;
          };
    };
  }

  pub restarts_keeps : (node : ℕ) → Invariant c (after w (Restarts node))
  restarts_keeps node = record {
    registers = inv.registers;
    all_asked = inv.all_asked;
    attempts = inv.attempts;
    plans = inv.plans;
    stages = inv.stages;
    logs = inv.logs;
    promises = inv.promises;
    sayings = inv.sayings;
    copies = record {
      collection =
          put_cases (λ n l. (l ≡ []) ⊎ CollectedFrom w.syncs (w.promised n) l) w.collected node [] (inl refl) (λ n d. inv.copies.collection n);
      piece = inv.copies.piece;
      append = inv.copies.append;
    };
    roles =
        put_cases (λ n o. (r : Role) → o ≡ Some r → SoundRole w.active w.told n (w.promised n) (w.joined n) (w.log n) r) w.role node None
        (λ r h. absurd (cc (h))) (λ n d. inv.roles n);
    reports = inv.reports;
  }
