-- An entry that a member appends keeps the invariant.
use Rattle.std.proofs.Common.{◌≡◌, ℕ, [], ◌∷◌, ◌++◌, length, refl, sym, ap, subst, inr, arith, ◌∙◌, ⊎_elim}
use Rattle.fabric_lemmas.specs.Members.{IsMember}
use Rattle.epoch_machine.specs.Logs.{IsAt}
use Rattle.epoch_machine.specs.Settings.{Settings}
use Rattle.epoch_machine.specs.Plans.{Plan}
use Rattle.epoch_machine.specs.Messages.{Append}
use Rattle.epoch_machine.specs.World.{World, whole, TellsAccepted, TellsPrimary, TellsCommitted}
use Rattle.epoch_machine.specs.Deeds.{Appends}
use Rattle.epoch_machine.specs.Guards.{HasAdopted, Can}
use Rattle.epoch_machine.specs.Effects.{after}
use Rattle.epoch_machine.specs.SoundLogs.{SoundLog}
use Rattle.epoch_machine.specs.SoundCopies.{SoundAppend}
use Rattle.epoch_machine.specs.Invariant.{Invariant}
use Rattle.epoch_machine.proofs.Members.{not_new}
use Rattle.epoch_machine.proofs.Replaced.{put_cases}
use Rattle.epoch_machine.proofs.Places.{IsAt-bound}
use Rattle.epoch_machine.proofs.Prefixes.{prefix_append, prefix_trans, prefix_next}
use Rattle.epoch_machine.proofs.Kept.{sync_plan, one_sync, positive}
use Rattle.epoch_machine.proofs.Lengthening.{longer_frozen, longer_appended, longer_roles, accepted_below, accepted_last}

module _ {c : Settings} {w : World} (inv : Invariant c w) where
  module _ (node : ℕ) (d : Append) (can : Can c w (Appends node d)) where
    stands : HasAdopted w node
    stands = let a = can.1 in let b = can.2 in omega arith

    sent : SoundAppend w.syncs w.written d
    sent = inv.copies.append d can.0

    appended_log : SoundLog w.syncs w.written (w.joined node) (w.log node ++ (d.entry ∷ []))
    appended_log = ⊎_elim
        (λ none.
        let z = none.0 in
        let e = sent.epoch_is in
        let j = can.1 in
        let pos = positive inv sent.plan (sync_plan inv sent.plan sent.synced) in absurd (omega arith))
        (λ l.
        let one : sent.plan ≡ l.plan = one_sync inv sent.plan l.plan sent.synced l.synced (sent.epoch_is ∙ sym can.1 ∙ sym l.epoch_is) in
        let at_plan : IsAt (whole w.written l.plan) d.place d.entry = subst (λ p. IsAt (whole w.written p) d.place d.entry) one sent.is in
        inr (record {
          plan = l.plan;
          synced = l.synced;
          epoch_is = l.epoch_is;
          begins = prefix_trans l.begins (prefix_append (w.log node) (d.entry ∷ []));
          within = prefix_next d.entry l.within (subst (λ n. IsAt (whole w.written l.plan) n d.entry) can.3 at_plan);
        }))
        (inv.logs.sound node)

    -- the primary itself has nothing to append
    not_primary : (q : Plan) → IsMember q w.syncs → q.primary ≡ node → w.joined node ≡ q.epoch → ⊥
    not_primary q m is e =
        let one : sent.plan ≡ q = one_sync inv sent.plan q sent.synced m (sent.epoch_is ∙ sym can.1 ∙ e) in
        let lt = IsAt-bound (whole w.written q) d.place d.entry (subst (λ p. IsAt (whole w.written p) d.place d.entry) one sent.is) in
        let all : w.log node ≡ whole w.written q = subst (λ n. w.joined n ≡ q.epoch → w.log n ≡ whole w.written q) is (inv.logs.primary q m) e in
        let n = ap length all in
        let place = can.3 in omega arith

    pub appends_keeps : Invariant c (after w (Appends node d))
    appends_keeps = record {
      registers = inv.registers;
      all_asked = inv.all_asked;
      attempts = inv.attempts;
      plans = inv.plans;
      stages = inv.stages;
      logs = record {
        below = inv.logs.below;
        sound =
            put_cases (λ n l. SoundLog w.syncs w.written (w.joined n) l) w.log node (w.log node ++ (d.entry ∷ [])) appended_log
            (λ n a. inv.logs.sound n);
        primary = λ q m e.
            put_cases (λ n l. q.primary ≡ n → l ≡ whole w.written q) w.log node (w.log node ++ (d.entry ∷ []))
            (λ is. absurd (not_primary q m is (ap w.joined (sym is) ∙ e)))
            (λ n a is. ap w.log (sym is) ∙ inv.logs.primary q m e) q.primary refl;
        untouched = inv.logs.untouched;
        entries = inv.logs.entries;
      };
      promises = record {
        below = inv.promises.below;
        joined_below = inv.promises.joined_below;
        sound = inv.promises.sound;
        frozen = longer_frozen inv node d.entry stands;
      };
      sayings = record {
        adopted_now = inv.sayings.adopted_now;
        adopted_before = inv.sayings.adopted_before;
        appended_now = longer_appended inv node d.entry stands;
        appended_before = inv.sayings.appended_before;
      };
      copies = inv.copies;
      roles = longer_roles inv node d.entry stands d.epoch;
      reports = record {
        below = accepted_below inv node d.entry stands d.epoch can.1;
        none_older = accepted_last inv node d.entry stands d.epoch can.1;
        primary = λ n e l m. inv.reports.primary n e l (not_new (TellsPrimary n e l) (TellsAccepted node d.epoch) w.told (λ i. cc (i)) m);
        committed = λ n e k l m. inv.reports.committed n e k l (not_new (TellsCommitted n e k l) (TellsAccepted node d.epoch) w.told (λ i. cc (i)) m);
      };
    }
