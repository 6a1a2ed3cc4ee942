-- An entry that a primary writes, or sends, keeps the invariant.
use Rattle.std.proofs.Common.{◌≡◌, ℕ, List, [], ◌∷◌, ◌++◌, ◌⊎◌, refl, sym, ap, subst, inr, arith, ◌∙◌, Some, ⊎_elim}
use Rattle.std.proofs.lemmas.List.{append_assoc}
use Rattle.fabric_lemmas.specs.Members.{IsMember}
use Rattle.epoch_machine.specs.Epochs.{number_of}
use Rattle.epoch_machine.specs.Logs.{IsAt, Prefix, Entry}
use Rattle.epoch_machine.specs.Settings.{Settings}
use Rattle.epoch_machine.specs.Plans.{Plan, Role}
use Rattle.epoch_machine.specs.World.{World, replaced, whole, TellsAccepted, TellsPrimary, TellsCommitted}
use Rattle.epoch_machine.specs.Deeds.{Writes, SendsAppend}
use Rattle.epoch_machine.specs.Guards.{HasAdopted, Can}
use Rattle.epoch_machine.specs.Effects.{after}
use Rattle.epoch_machine.specs.SoundLogs.{SoundLog, WrittenBy}
use Rattle.epoch_machine.specs.SoundCopies.{SoundAppend}
use Rattle.epoch_machine.specs.SoundRoles.{SoundRole}
use Rattle.epoch_machine.specs.Invariant.{Invariant}
use Rattle.epoch_machine.proofs.Members.{new_cases, not_new}
use Rattle.epoch_machine.proofs.Replaced.{put_cases, put_at, put_other}
use Rattle.epoch_machine.proofs.Places.{IsAt-push}
use Rattle.epoch_machine.proofs.Prefixes.{prefix_refl, prefix_append, prefix_trans, prefix_at}
use Rattle.epoch_machine.proofs.Grown.{whole_grown, sound_log_grown}
use Rattle.epoch_machine.proofs.Kept.{active_sync, one_sync}
use Rattle.epoch_machine.proofs.Lengthening.{longer_frozen, longer_appended, longer_roles, accepted_below, accepted_last}

module _ {c : Settings} {w : World} (inv : Invariant c w) where
  -- the primary has all that was written
  pub role_log : (node : ℕ) (r : Role) → w.role node ≡ Some r → w.log node ≡ whole w.written r.plan
  role_log node r h =
      let s = inv.roles node r h in
      subst (λ n. w.joined n ≡ r.plan.epoch → w.log n ≡ whole w.written r.plan) s.primary
      (inv.logs.primary r.plan (active_sync inv r.plan s.activated)) s.joined_is

  module _ (node : ℕ) (r : Role) (x : Entry) (can : Can c w (Writes node r x)) where
    s : SoundRole w.active w.told node (w.promised node) (w.joined node) (w.log node) r
    s = inv.roles node r can.0

    abbrev more : ℕ → List Entry
    more = replaced w.written r.plan.epoch (w.written r.plan.epoch ++ (x ∷ []))

    writer_stands : HasAdopted w node
    writer_stands = s.joined_is ∙ sym s.promised_is

    grows : (e : ℕ) → Prefix (w.written e) (more e)
    grows =
        put_cases (λ e l. Prefix (w.written e) l) w.written r.plan.epoch (w.written r.plan.epoch ++ (x ∷ []))
        (prefix_append (w.written r.plan.epoch) (x ∷ [])) (λ e d. prefix_refl (w.written e))

    synced : IsMember r.plan w.syncs
    synced = active_sync inv r.plan s.activated

    written_whole : w.log node ++ (x ∷ []) ≡ whole more r.plan
    written_whole =
        ap (λ l. l ++ (x ∷ [])) (role_log node r can.0) ∙ append_assoc r.plan.base (w.written r.plan.epoch) (x ∷ []) ∙
        ap (λ l. r.plan.base ++ l) (sym (put_at w.written r.plan.epoch (w.written r.plan.epoch ++ (x ∷ []))))

    written_primary : (q : Plan) → IsMember q w.syncs → w.joined q.primary ≡ q.epoch →
        replaced w.log node (w.log node ++ (x ∷ [])) q.primary ≡ whole more q
    written_primary q m e =
        put_cases (λ n l. q.primary ≡ n → l ≡ whole more q) w.log node (w.log node ++ (x ∷ []))
        (λ is.
        let one : r.plan ≡ q = one_sync inv r.plan q synced m (sym s.joined_is ∙ ap w.joined (sym is) ∙ e) in
        subst (λ q. w.log node ++ (x ∷ []) ≡ whole more q) one written_whole)
        (λ n d is.
        let apart : r.plan.epoch ≡ q.epoch → ⊥ = λ h.
        let one : r.plan ≡ q = one_sync inv r.plan q synced m h in
        d (sym s.primary ∙ ap (λ (p : Plan). p.primary) one ∙ is) in
        ap w.log (sym is) ∙ inv.logs.primary q m e ∙
        ap (λ l. q.base ++ l) (sym (put_other w.written r.plan.epoch (w.written r.plan.epoch ++ (x ∷ [])) q.epoch apart)))
        q.primary refl

    pub writes_keeps : Invariant c (after w (Writes node r x))
    writes_keeps = record {
      registers = inv.registers;
      all_asked = inv.all_asked;
      attempts = inv.attempts;
      plans = inv.plans;
      stages = inv.stages;
      logs = record {
        below = inv.logs.below;
        sound =
            put_cases (λ n l. SoundLog w.syncs more (w.joined n) l) w.log node (w.log node ++ (x ∷ []))
            (inr (record {
              plan = r.plan;
              synced = synced;
              epoch_is = sym s.joined_is;
              begins = subst (λ l. Prefix r.plan.base l) (sym written_whole) (prefix_append r.plan.base (more r.plan.epoch));
              within = subst (λ l. Prefix l (whole more r.plan)) (sym written_whole) (prefix_refl (whole more r.plan));
            }))
            (λ n d. sound_log_grown (λ q m. m) grows (w.joined n) (w.log n) (inv.logs.sound n));
        primary = written_primary;
        untouched =
            put_cases (λ e l. (l ≡ []) ⊎ WrittenBy w.active w.joined e) w.written r.plan.epoch (w.written r.plan.epoch ++ (x ∷ []))
            (inr (record {
              plan = r.plan;
              activated = s.activated;
              epoch_is = refl;
              reached = let j = s.joined_is in let here = ap w.joined s.primary in omega arith;
            }))
            (λ e d. inv.logs.untouched e);
        entries =
            put_cases (λ e l. (place : ℕ) (y : Entry) → IsAt l place y → number_of y.epoch ≡ e) w.written r.plan.epoch (w.written r.plan.epoch ++ (x ∷ []))
            (λ place y h. ⊎_elim (inv.logs.entries r.plan.epoch place y) (λ is. ap (λ (z : Entry). number_of z.epoch) is ∙ can.1)
            (IsAt-push (w.written r.plan.epoch) x place y h))
            (λ e d. inv.logs.entries e);
      };
      promises = record {
        below = inv.promises.below;
        joined_below = inv.promises.joined_below;
        sound = λ p m. sound_log_grown (λ q m. m) grows p.joined p.log (inv.promises.sound p m);
        frozen = longer_frozen inv node x writer_stands;
      };
      sayings = record {
        adopted_now = inv.sayings.adopted_now;
        adopted_before = inv.sayings.adopted_before;
        appended_now = longer_appended inv node x writer_stands;
        appended_before = inv.sayings.appended_before;
      };
      copies = record {
        collection = inv.copies.collection;
        piece = inv.copies.piece;
        append = λ d m.
            let h = inv.copies.append d m in
            record { plan = h.plan; synced = h.synced; epoch_is = h.epoch_is; is = prefix_at d.place d.entry (whole_grown grows h.plan) h.is };
      };
      roles = longer_roles inv node x writer_stands r.plan.epoch;
      reports = record {
        below = accepted_below inv node x writer_stands r.plan.epoch s.joined_is;
        none_older = accepted_last inv node x writer_stands r.plan.epoch s.joined_is;
        primary = λ n e l m. inv.reports.primary n e l (not_new (TellsPrimary n e l) (TellsAccepted node r.plan.epoch) w.told (λ i. cc (i)) m);
        committed = λ n e k l m.
            let h = inv.reports.committed n e k l (not_new (TellsCommitted n e k l) (TellsAccepted node r.plan.epoch) w.told (λ i. cc (i)) m) in record {
              plan = h.plan;
              activated = h.activated;
              primary = h.primary;
              epoch_is = h.epoch_is;
              enough = h.enough;
              within = prefix_trans h.within (whole_grown grows h.plan);
              most = h.most;
            };
      };
    }

  pub sends_append_keeps : (node place : ℕ) (r : Role) (entry : Entry) → Can c w (SendsAppend node place r entry) →
      Invariant c (after w (SendsAppend node place r entry))
  sends_append_keeps node place r entry can = record {
    registers = inv.registers;
    all_asked = inv.all_asked;
    attempts = inv.attempts;
    plans = inv.plans;
    stages = inv.stages;
    logs = inv.logs;
    promises = inv.promises;
    sayings = inv.sayings;
    copies = record {
      collection = inv.copies.collection;
      piece = inv.copies.piece;
      append =
          new_cases (SoundAppend w.syncs w.written) _ w.appends
          (record {
            plan = r.plan;
            synced = active_sync inv r.plan (let s = inv.roles node r can.0 in s.activated);
            epoch_is = refl;
            is = subst (λ l. IsAt l place entry) (role_log node r can.0) can.1;
          })
          inv.copies.append;
    };
    roles = inv.roles;
    reports = inv.reports;
  }
