-- A report of committed entries keeps the invariant.
use Rattle.std.proofs.Common.{◌≡◌, ℕ, List, ◌∷◌, length, refl, sym, ap, subst, inl, inr, arith, ◌∙◌, Some, ⊎_elim}
use Rattle.epoch_machine.specs.Majorities.{MajorityOf}
use Rattle.epoch_machine.specs.Logs.{Prefix, Entry}
use Rattle.epoch_machine.specs.Settings.{Settings}
use Rattle.epoch_machine.specs.Plans.{Plan, Role}
use Rattle.epoch_machine.specs.World.{Report, World, whole, TellsPrimary, TellsCommitted}
use Rattle.epoch_machine.specs.Evidence.{HasAppended}
use Rattle.epoch_machine.specs.Deeds.{Commits}
use Rattle.epoch_machine.specs.Guards.{Can}
use Rattle.epoch_machine.specs.Effects.{after}
use Rattle.epoch_machine.specs.SoundRoles.{SoundRole}
use Rattle.epoch_machine.specs.SoundReports.{CommittedTold}
use Rattle.epoch_machine.specs.Invariant.{Invariant}
use Rattle.epoch_machine.proofs.Members.{not_new}
use Rattle.epoch_machine.proofs.Replaced.{put_cases}
use Rattle.epoch_machine.proofs.Prefixes.{prefix_refl}
use Rattle.epoch_machine.proofs.Kept.{active_sync, one_sync}
use Rattle.epoch_machine.proofs.Reporting.{other_below}
use Rattle.epoch_machine.proofs.Writing.{role_log}

module _ {c : Settings} {w : World} (inv : Invariant c w) where
  module _ (node last : ℕ) (r : Role) (can : Can c w (Commits node last r)) where
    t : SoundRole w.active w.told node (w.promised node) (w.joined node) (w.log node) r
    t = inv.roles node r can.0

    abbrev committing : Role
    committing = record r { reported = last }

    abbrev commit : Report
    commit = TellsCommitted node r.plan.epoch last (w.log node)

    -- another primary is of another epoch
    other_epoch : (n : ℕ) (q : Role) → w.role n ≡ Some q → (node ≡ n → ⊥) → r.plan.epoch ≡ q.plan.epoch → ⊥
    other_epoch n q h d e =
        let u = inv.roles n q h in
        let one : r.plan ≡ q.plan = one_sync inv r.plan q.plan (active_sync inv r.plan t.activated) (active_sync inv q.plan u.activated) e in
        d (sym t.primary ∙ ap (λ (p : Plan). p.primary) one ∙ u.primary)

    own_role : SoundRole w.active (commit ∷ w.told) node (w.promised node) (w.joined node) (w.log node) committing
    own_role = record {
      activated = t.activated;
      primary = t.primary;
      promised_is = t.promised_is;
      joined_is = t.joined_is;
      base = t.base;
      floor = t.floor;
      reported = inr can.1;
      within = can.3;
      covers = λ y e k l m is. ⊎_elim
          (λ i. inr (let same : k ≡ last = cc in omega arith))
          (λ m. ⊎_elim (λ le. inl le) (λ le. inr (let lt = can.2 in omega arith)) (t.covers y e k l m is)) m;
    }

    pub commits_keeps : Invariant c (after w (Commits node last r))
    commits_keeps = record {
      registers = inv.registers;
      all_asked = inv.all_asked;
      attempts = inv.attempts;
      plans = inv.plans;
      stages = inv.stages;
      logs = inv.logs;
      promises = inv.promises;
      sayings = inv.sayings;
      copies = inv.copies;
      roles =
          put_cases (λ n o. (q : Role) → o ≡ Some q → SoundRole w.active (commit ∷ w.told) n (w.promised n) (w.joined n) (w.log n) q) w.role node
          (Some committing)
          (λ q h.
          let same : committing ≡ q = cc in
          subst (SoundRole w.active (commit ∷ w.told) node (w.promised node) (w.joined node) (w.log node)) same own_role)
          (λ n d q h.
          let u = inv.roles n q h in record {
            activated = u.activated;
            primary = u.primary;
            promised_is = u.promised_is;
            joined_is = u.joined_is;
            base = u.base;
            floor = u.floor;
            reported = u.reported;
            within = u.within;
            covers = λ y e k l m is. ⊎_elim
                (λ i. absurd (let same : e ≡ r.plan.epoch = cc in other_epoch n q h d (sym same ∙ is)))
                (λ m. u.covers y e k l m is) m;
          });
      reports = record {
        below = other_below inv commit (λ n e i. cc (i)) (λ n e i. cc (i));
        none_older = (tt, inv.reports.none_older);
        primary = λ n e l m. inv.reports.primary n e l (not_new (TellsPrimary n e l) commit w.told (λ i. cc (i)) m);
        committed = λ n e k l m. ⊎_elim (λ i. committed_told n e k l i) (inv.reports.committed n e k l) m;
      };
    }
      where
        committed_told : (n e k : ℕ) (l : List Entry) → TellsCommitted n e k l ≡ commit → CommittedTold w.active w.written w.appended n e k l
        committed_told n e k l i =
            let a : n ≡ node = cc in
            let b : e ≡ r.plan.epoch = cc in
            let k_is : k ≡ last = cc in
            let d : l ≡ w.log node = cc in record {
              plan = r.plan;
              activated = t.activated;
              primary = t.primary ∙ sym a;
              epoch_is = sym b;
              enough = let le = can.3 in let n = ap length d in omega arith;
              within = subst (λ l. Prefix l (whole w.written r.plan)) (sym d ∙ refl)
                  (subst (λ l. Prefix l (whole w.written r.plan)) (sym (role_log inv node r can.0)) (prefix_refl (whole w.written r.plan)));
              most = subst (λ k. MajorityOf r.plan.members (HasAppended w.appended r.plan.epoch k)) (sym k_is) can.4;
            }
