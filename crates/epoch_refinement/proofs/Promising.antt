-- The row of Promise.
use Rattle.std.proofs.Common.{◌≡◌, ℕ, zero, suc, ◌+◌, ◌<◌, Bool, true, false, cond, List, [], ◌∷◌, ◌++◌, length, ◌⊎◌, Ok, refl, sym, ap, ◌∙◌, subst, inl, inr, ⊎_elim, arith}
use Rattle.ring_points.specs.declared.unit.Epoch.{Epoch}
use Rattle.ring_points.specs.declared.who.Who.{Who}
use Rattle.ring_points.specs.Epochs.{is_older, same_epoch}
use Rattle.replica_core.specs.declared.entry.Entry.{Entry}
use Rattle.replica_core.specs.declared.refusal.Done.TheVariants.{New}
use Rattle.replica_core.specs.declared.refusal.ReplicaRefusal.TheVariants.{Older}
use Rattle.replica_core.specs.declared.role.Role.{Role}
use Rattle.replica_core.specs.declared.role.Role.TheVariants.{None as NoRole, IdleSecondary, ActiveSecondary, Primary}
use Rattle.replica_core.specs.Roles.{demoted}
use Rattle.replica_core.specs.Replicas.{raised}
use Rattle.replica_core.specs.Calls.{unless, held_if}
use Rattle.epoch_machine.specs.Logs.{IsAt}
use Rattle.epoch_machine.specs.Settings.{Settings}
use Rattle.epoch_machine.specs.World.{World, TellsPromised}
use Rattle.epoch_machine.specs.Deeds.{RaisesPromise, AnswersPromise}
use Rattle.epoch_machine.specs.Effects.{after}
use Rattle.epoch_machine.specs.Invariant.{Invariant}
use Rattle.epoch_machine.proofs.Replaced.{put_at}
use Rattle.epoch_machine.proofs.Histories.{deed_keeps}
use Rattle.unit_rules.specs.Progress.{is_primary}
use Rattle.unit_rules.specs.Promises.{promise_answered, promise_received}
use Rattle.unit_rules.specs.ReplicaStates.{ReplicaState, replica_put}
use Rattle.epoch_refinement.specs.Epochs.{IsEpoch}
use Rattle.epoch_refinement.specs.Facts.{Actor, Later}
use Rattle.epoch_refinement.specs.Refined.{Refined}
use Rattle.epoch_refinement.specs.ReplicaStates.{IsNumbered, ShowsReplicaState}
use Rattle.epoch_refinement.proofs.Doing.{not_primary}
use Rattle.epoch_refinement.proofs.Numbers.{older_not, same_not, below_older, same_epoch-true, real}
use Rattle.epoch_refinement.proofs.Lasting.{deed_later, later_refl, later_trans, sync_later, progress_later}

abbrev pub raising : World → ℕ → ℕ → World
raising w node n = after w (RaisesPromise node n)

pub numbered_none : IsNumbered []
numbered_none = record { lsn = λ place x h. absurd h; small = λ place x h. absurd h }

push_cases : (xs : List Entry) (y : Entry) (n : ℕ) (x : Entry) → IsAt (xs ++ (y ∷ [])) n x → IsAt xs n x ⊎ ((x ≡ y) × (n ≡ length xs))
push_cases [] y zero x h = inr (sym h, refl)
push_cases [] y (suc n) x h = absurd h
push_cases (z ∷ xs) y zero x h = inl h
push_cases (z ∷ xs) y (suc n) x h = ⊎_elim (λ i. inl i) (λ i. inr (i.0, ap suc i.1)) (push_cases xs y n x h)

pub numbered_push : (xs : List Entry) (y : Entry) → y.lsn ≡ length xs + 1 → y.epoch.configuration < 4294967296 → IsNumbered xs →
    IsNumbered (xs ++ (y ∷ []))
numbered_push xs y next small numbered = record {
  small = λ place x h. ⊎_elim (λ i. numbered.small place x i)
      (λ i. subst (λ (z : Entry). z.epoch.configuration < 4294967296) (sym i.0) small) (push_cases xs y place x h);
  lsn = λ place x h. ⊎_elim (λ i. numbered.lsn place x i)
      (λ i. let same = ap (λ (z : Entry). z.lsn) i.0 in let p = i.1 in omega arith) (push_cases xs y place x h);
}

-- a replica still shows after a deed that changes nothing of its node
pub shows_later : {x : Actor} {w v : World} {p node : ℕ} {s : ReplicaState} → Later x w v → v.promised node ≡ w.promised node → v.joined node ≡ w.joined node →
    v.log node ≡ w.log node → v.collected node ≡ w.collected node → v.role node ≡ w.role node → ShowsReplicaState w p node s → ShowsReplicaState v p node s
shows_later {s = s} later promised joined log collected role shows = record {
  partition = shows.partition;
  promised = subst (λ n. IsEpoch n s.replica.promised) (sym promised) shows.promised;
  joined = subst (λ n. IsEpoch n s.replica.at) (sym joined) shows.joined;
  log = log ∙ shows.log;
  room = shows.room;
  collected = λ lt. collected ∙ shows.collected (omega arith);
  taken = λ t h. sync_later later (shows.taken t h);
  reached = λ t n h is. let le = shows.reached t n h is in omega arith;
  numbered = shows.numbered;
  numbered_collected = shows.numbered_collected;
  idle = shows.idle;
  progress = λ l h. let d = shows.progress l h in let i = d.1 in (d.0, progress_later later (role ∙ i.role) i);
}

-- a role that is lost is none of a primary
pub demoted_not : (r : Role) → is_primary (demoted r) ≡ false
demoted_not NoRole = refl
demoted_not IdleSecondary = refl
demoted_not ActiveSecondary = refl
demoted_not Primary = refl

module _ {c : Settings} {w : World} (inv : Invariant c w) (p : ℕ) (me : Who) (s : ReplicaState) (shows : ShowsReplicaState w p me.actor s) where
  module _ (e : Epoch) (n : ℕ) (is : IsEpoch n e) (above : w.promised me.actor < n) where
    older : is_older s.replica.promised e ≡ true
    older = below_older s.replica.promised e shows.promised is above

    no_primary : is_primary (raised e s.replica).role ≡ false
    no_primary = subst (λ b. is_primary (cond b (demoted s.replica.role) s.replica.role) ≡ false) (sym older) (demoted_not s.replica.role)

    -- the replica shows the world where its promise was raised
    pub raised_shows : ShowsReplicaState (after w (RaisesPromise me.actor n)) p me.actor (replica_put s (raised e s.replica))
    raised_shows = record {
      partition = shows.partition;
      promised = subst (λ k. IsEpoch k e) (sym (put_at w.promised me.actor n)) is;
      joined = shows.joined;
      log = shows.log;
      room = shows.room;
      collected = λ lt. put_at w.collected me.actor [] ∙ ap (λ b. cond b [] s.replica.collected) (sym older);
      taken = λ t h. sync_later (deed_later w (RaisesPromise me.actor n)) (shows.taken t h);
      reached = λ t m h i. let le = shows.reached t m h i in let q = put_at w.promised me.actor n in omega arith;
      numbered = shows.numbered;
      numbered_collected = subst (λ b. IsNumbered (cond b [] s.replica.collected)) (sym older) numbered_none;
      idle = λ h. no_primary;
      progress = λ l h. absurd (not_primary (replica_put s (raised e s.replica)) l no_primary h);
    }

  -- the promise is raised where it is neither older nor the same
  pub promise_above : (e : Epoch) (n : ℕ) → IsEpoch n e → is_older e s.replica.promised ≡ false → same_epoch s.replica.promised e ≡ false →
      w.promised me.actor < n
  promise_above e n is h i =
      let le = older_not e s.replica.promised is shows.promised h in
      let d = same_not s.replica.promised e shows.promised is i in omega arith

  pub promise_refines : (from : Who) (e : Epoch) (n : ℕ) → IsEpoch n e → Refined c w p me (promise_received from e s)
  unfolding promise_received
  promise_refines from e n is = go (is_older e s.replica.promised) refl (same_epoch s.replica.promised e) refl
    where
      go : (older : Bool) → is_older e s.replica.promised ≡ older → (same : Bool) → same_epoch s.replica.promised e ≡ same →
          Refined c w p me (promise_answered from e s (unless older (Older s.replica.promised) s.replica (held_if same s.replica (Ok New, raised e s.replica))))
      go true h same i = record {
        after = w;
        inv = inv;
        later = later_refl w;
        shows = shows;
        sent = (shows.partition, let q = shows.promised in q.small, tt);
        told = refl;
      }
      go false h true i = record {
        after = after w (AnswersPromise me.actor);
        inv = deed_keeps inv (AnswersPromise me.actor) tt;
        later = deed_later w (AnswersPromise me.actor);
        shows = shows_later (deed_later w (AnswersPromise me.actor)) refl refl refl refl refl shows;
        sent = (
          shows.partition,
          record {
            epoch = w.promised me.actor;
            joined = w.joined me.actor;
            log = w.log me.actor;
            promised = inl refl;
            epoch_is = subst (IsEpoch (w.promised me.actor)) (same_epoch-true s.replica.promised e i) shows.promised;
            joined_is = shows.joined;
            last_is = ap length shows.log;
            room = shows.room;
          },
          tt,
        );
        told = refl;
      }
      go false h false i = record {
        after = after (raising w me.actor n) (AnswersPromise me.actor);
        inv = deed_keeps next (AnswersPromise me.actor) tt;
        later = later_trans (deed_later w (RaisesPromise me.actor n)) (deed_later (raising w me.actor n) (AnswersPromise me.actor));
        shows = shows_later (deed_later (raising w me.actor n) (AnswersPromise me.actor)) refl refl refl refl refl (raised_shows e n is above);
        sent = (
          (shows.partition, real n e is (let lt = above in omega arith)),
          (
            shows.partition,
            record {
              epoch = (raising w me.actor n).promised me.actor;
              joined = w.joined me.actor;
              log = w.log me.actor;
              promised = inl refl;
              epoch_is = subst (λ k. IsEpoch k e) (sym (put_at w.promised me.actor n)) is;
              joined_is = shows.joined;
              last_is = ap length shows.log;
              room = shows.room;
            },
            tt,
          ),
        );
        told = ap (λ k. TellsPromised me.actor k ∷ w.told) is.is;
      }
        where
          above : w.promised me.actor < n
          above = promise_above e n is h i

          next : Invariant c (raising w me.actor n)
          next = deed_keeps inv (RaisesPromise me.actor n) above
