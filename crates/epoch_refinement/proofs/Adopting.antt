-- A log that is adopted, in a world where its epoch is promised.
use Rattle.std.proofs.Common.{◌≡◌, ℕ, ◌<◌, ◌≤◌, Bool, true, false, ◌==◌, List, length, refl, sym, ◌∙◌, subst, inl, arith}
use Rattle.std.specs.Prelude.{if◌then◌else◌}
use Rattle.ring_points.specs.declared.who.Who.{Who}
use Rattle.replica_core.specs.declared.entry.Entry.{Entry}
use Rattle.epoch_machine.specs.Settings.{Settings}
use Rattle.epoch_machine.specs.World.{World, replaced}
use Rattle.epoch_machine.specs.Deeds.{SaysAdopted}
use Rattle.epoch_machine.specs.Guards.{MayAdopt}
use Rattle.epoch_machine.specs.Effects.{adopting, after}
use Rattle.epoch_machine.specs.Invariant.{Invariant}
use Rattle.epoch_machine.proofs.Replaced.{put_at}
use Rattle.epoch_machine.proofs.Histories.{deed_keeps}
use Rattle.unit_rules.specs.declared.progress.CatchUp.{CatchUp}
use Rattle.unit_rules.specs.Copies.{adoption, nothing_adopted, log_adopted}
use Rattle.unit_rules.specs.Deeds.{acted}
use Rattle.unit_rules.specs.Progress.{is_primary}
use Rattle.unit_rules.specs.ReplicaStates.{ReplicaState}
use Rattle.epoch_refinement.specs.Epochs.{IsEpoch}
use Rattle.epoch_refinement.specs.Facts.{of_node, is_adopted, Has, Later}
use Rattle.epoch_refinement.specs.Refined.{AllShown, Refined}
use Rattle.epoch_refinement.specs.ReplicaStates.{IsNumbered, ShowsReplicaState}
use Rattle.epoch_refinement.specs.Shown.{ShownSync}
use Rattle.epoch_refinement.specs.Told.{tells_all}
use Rattle.epoch_refinement.proofs.Doing.{not_primary}
use Rattle.epoch_refinement.proofs.Lasting.{deed_later, later_trans, sync_later}

-- what is adopted is told to who asked, whether it is empty or not

pub adoption_shown : (w : World) (p : ℕ) (me : Who) (q : ℕ) (t : CatchUp) (is_own : Bool) (n : ℕ) → q ≡ p → IsEpoch n t.epoch →
    Has w (is_adopted (record { node = me.actor; epoch = n })) → AllShown w p me (adoption q t is_own)
adoption_shown w p me q t is_own n of is h = go (t.last == 0)
  where
    go : (b : Bool) → AllShown w p me (if b then nothing_adopted q t else log_adopted q t is_own)
    go true = (of, (n, is, h), tt)
    go false = (tt, (of, (n, is, h), tt))

pub adoption_tells : (node : ℕ) (log : List Entry) (q : ℕ) (t : CatchUp) (is_own : Bool) (before : List _) →
    tells_all node log (adoption q t is_own) before ≡ before
adoption_tells node log q t is_own before = go (t.last == 0)
  where
    go : (b : Bool) → tells_all node log (if b then nothing_adopted q t else log_adopted q t is_own) before ≡ before
    go true = refl
    go false = refl

-- the log is adopted in a world where the epoch is promised and not adopted, and the node says so
module _ {c : Settings} {w : World} (inv : Invariant c w) (p : ℕ) (me : Who) (t : CatchUp) (s : ReplicaState) (shows : ShowsReplicaState w p me.actor s)
    (sync : ShownSync w t.epoch t.origin t.last) (promised : w.promised me.actor ≡ sync.plan.epoch) (before : w.joined me.actor < sync.plan.epoch) where
  pub may_adopt : MayAdopt w me.actor sync.plan
  may_adopt = record { synced = sync.synced; promised = promised; before = before }

  -- this replica has the log
  pub record Adopts (old : List Entry) (next : ReplicaState) : Type 0 where
    pub partition : next.replica.partition ≡ p
    pub promised_is : next.replica.promised ≡ s.replica.promised
    pub at_is : next.replica.at ≡ t.epoch
    pub log_is : old ≡ next.replica.log
    pub room : length next.replica.log ≤ 100000
    pub taken_is : next.catch_up ≡ s.catch_up
    pub numbered : IsNumbered next.replica.log
    pub numbered_collected : IsNumbered next.replica.collected
    pub role_is : is_primary next.replica.role ≡ false

  pub adopts : (old : List Entry) (next : ReplicaState) (is_own : Bool) → Adopts old next → Invariant c (adopting w me.actor sync.plan old) →
      Later (of_node me.actor) w (adopting w me.actor sync.plan old) →
      Refined c w p me (acted next (adoption next.replica.partition t is_own))
  adopts old next is_own has after_inv later = record {
    after = after (adopting w me.actor sync.plan old) (SaysAdopted me.actor);
    inv = deed_keeps after_inv (SaysAdopted me.actor) (joined_now ∙ sym promised);
    later = all;
    shows = record {
      partition = has.partition;
      promised = subst (IsEpoch (w.promised me.actor)) (sym has.promised_is) shows.promised;
      joined = subst (IsEpoch (replaced w.joined me.actor sync.plan.epoch me.actor)) (sym has.at_is) epoch_now;
      log = put_at w.log me.actor old ∙ has.log_is;
      room = has.room;
      collected = λ lt. absurd (let j = joined_now in let q = promised in omega arith);
      taken = λ u h. sync_later all (shows.taken u (sym has.taken_is ∙ h));
      reached = λ u m h i. shows.reached u m (sym has.taken_is ∙ h) i;
      numbered = has.numbered;
      numbered_collected = has.numbered_collected;
      idle = λ h. has.role_is;
      progress = λ l h. absurd (not_primary next l has.role_is h);
    };
    sent = adoption_shown (after (adopting w me.actor sync.plan old) (SaysAdopted me.actor)) p me next.replica.partition t is_own
        (replaced w.joined me.actor sync.plan.epoch me.actor) has.partition epoch_now (inl refl);
    told = sym (adoption_tells me.actor next.replica.log next.replica.partition t is_own w.told);
  }
    where
      joined_now : replaced w.joined me.actor sync.plan.epoch me.actor ≡ sync.plan.epoch
      joined_now = put_at w.joined me.actor sync.plan.epoch

      epoch_now : IsEpoch (replaced w.joined me.actor sync.plan.epoch me.actor) t.epoch
      epoch_now = subst (λ k. IsEpoch k t.epoch) (sym joined_now) sync.epoch

      all : Later (of_node me.actor) w (after (adopting w me.actor sync.plan old) (SaysAdopted me.actor))
      all = later_trans later (deed_later (adopting w me.actor sync.plan old) (SaysAdopted me.actor))
