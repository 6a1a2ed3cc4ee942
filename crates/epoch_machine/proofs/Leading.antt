-- A primary's activation keeps the invariant.
use Rattle.std.proofs.Common.{◌≡◌, ℕ, List, ◌∷◌, length, refl, sym, ap, subst, inl, arith, ◌≤◌, ◌∙◌, Some, ⊎_elim}
use Rattle.fabric_lemmas.specs.Members.{IsMember}
use Rattle.epoch_machine.specs.Logs.{Prefix, Entry}
use Rattle.epoch_machine.specs.Settings.{Settings}
use Rattle.epoch_machine.specs.Plans.{Plan, Role}
use Rattle.epoch_machine.specs.World.{Report, World, whole, TellsPrimary, TellsCommitted}
use Rattle.epoch_machine.specs.Deeds.{BecomesPrimary}
use Rattle.epoch_machine.specs.Guards.{Can}
use Rattle.epoch_machine.specs.Effects.{after}
use Rattle.epoch_machine.specs.SoundRoles.{SoundRole}
use Rattle.epoch_machine.specs.SoundReports.{PrimaryTold}
use Rattle.epoch_machine.specs.Invariant.{Invariant}
use Rattle.epoch_machine.proofs.Members.{not_new}
use Rattle.epoch_machine.proofs.Replaced.{put_cases}
use Rattle.epoch_machine.proofs.Prefixes.{prefix_append, prefix_length}
use Rattle.epoch_machine.proofs.Kept.{active_sync, one_sync}
use Rattle.epoch_machine.proofs.Reporting.{role_told, other_below}

module _ {c : Settings} {w : World} (inv : Invariant c w) where
  module _ (node : ℕ) (p : Plan) (can : Can c w (BecomesPrimary node p)) where
    log_of_plan : w.log node ≡ whole w.written p
    log_of_plan =
        subst (λ n. w.joined n ≡ p.epoch → w.log n ≡ whole w.written p) can.1 (inv.logs.primary p (active_sync inv p can.0)) can.2

    abbrev new_role : Role
    new_role = record { plan = p; floor = length (w.log node); reported = 0 }

    abbrev report : Report
    report = TellsPrimary node p.epoch (w.log node)

    base_begins : Prefix p.base (w.log node)
    base_begins = subst (λ l. Prefix p.base l) (sym log_of_plan) (prefix_append p.base (w.written p.epoch))

    -- what was reported committed in this epoch, the primary has
    covered : (y e k : ℕ) (l : List Entry) → IsMember (TellsCommitted y e k l) w.told → e ≡ p.epoch → k ≤ length (w.log node)
    covered y e k l m is =
        let h = inv.reports.committed y e k l m in
        let one : h.plan ≡ p = one_sync inv h.plan p (active_sync inv h.plan h.activated) (active_sync inv p can.0) (h.epoch_is ∙ is) in
        let le = prefix_length (subst (λ q. Prefix l (whole w.written q)) one h.within) in
        let enough = h.enough in
        let n = ap length log_of_plan in omega arith

    pub becomes_primary_keeps : Invariant c (after w (BecomesPrimary node p))
    becomes_primary_keeps = record {
      registers = inv.registers;
      all_asked = inv.all_asked;
      attempts = inv.attempts;
      plans = inv.plans;
      stages = inv.stages;
      logs = inv.logs;
      promises = inv.promises;
      sayings = inv.sayings;
      copies = inv.copies;
      roles =
          put_cases (λ n o. (r : Role) → o ≡ Some r → SoundRole w.active (report ∷ w.told) n (w.promised n) (w.joined n) (w.log n) r) w.role node
          (Some new_role)
          (λ r h.
          let same : new_role ≡ r = cc in
          subst (SoundRole w.active (report ∷ w.told) node (w.promised node) (w.joined node) (w.log node)) same
          (role_told report (λ y e k l i. cc (i)) (record {
            activated = can.0;
            primary = can.1;
            promised_is = can.3;
            joined_is = can.2;
            base = prefix_length base_begins;
            floor = omega arith;
            reported = inl refl;
            within = omega arith;
            covers = λ y e k l m is. inl (covered y e k l m is);
          })))
          (λ n d r h. role_told report (λ y e k l i. cc (i)) (inv.roles n r h));
      reports = record {
        below = other_below inv report (λ n e i. cc (i)) (λ n e i. cc (i));
        none_older = (tt, inv.reports.none_older);
        primary = λ n e l m. ⊎_elim
            (λ i. primary_told n e l i)
            (inv.reports.primary n e l) m;
        committed = λ n e k l m. inv.reports.committed n e k l (not_new (TellsCommitted n e k l) report w.told (λ i. cc (i)) m);
      };
    }
      where
        primary_told : (n e : ℕ) (l : List Entry) → TellsPrimary n e l ≡ report → PrimaryTold w.active n e l
        primary_told n e l i =
            let a : n ≡ node = cc in
            let b : e ≡ p.epoch = cc in
            let d : l ≡ w.log node = cc in
            record { plan = p; activated = can.0; primary = can.1 ∙ sym a; epoch_is = sym b; begins = subst (λ l. Prefix p.base l) (sym d) base_begins }
