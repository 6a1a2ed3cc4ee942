-- The row of Piece.
use Rattle.std.proofs.Common.{◌≡◌, ℕ, ◌+◌, ◌<◌, ◌≤◌, Bool, true, false, cond, ◌==◌, ◌&&◌, nat_le, List, [], ◌∷◌, ◌++◌, length, Option, None, Some, ◌⊎◌, Ok, refl, sym, ap, ◌∙◌, subst, inl, inr, arith}
use Rattle.std.proofs.lemmas.Bool.{eqb-true, leb-true, and_parts, both_ways, not-true}
use Rattle.std.proofs.lemmas.List.{length-append}
use Rattle.std.specs.Prelude.{not, if◌then◌else◌}
use Rattle.fabric_lemmas.specs.Members.{IsMember}
use Rattle.ring_points.specs.declared.unit.Epoch.{Epoch}
use Rattle.ring_points.specs.declared.who.Who.{Who}
use Rattle.ring_points.specs.Epochs.{is_older, same_epoch}
use Rattle.replica_core.specs.declared.entry.Entry.{Entry}
use Rattle.replica_core.specs.declared.refusal.Done.TheVariants.{New, Held}
use Rattle.replica_core.specs.declared.refusal.ReplicaRefusal.TheVariants.{Older, Gap}
use Rattle.replica_core.specs.Replicas.{Replica, raised, settled, collected_in}
use Rattle.replica_core.specs.Roles.{demoted}
use Rattle.replica_core.specs.declared.refusal.Done.{Done}
use Rattle.replica_core.specs.Calls.{Outcome, unless, held_if, is_gap, is_collected, collected_call}
use Rattle.replica_core.proofs.Orders.{not_itself}
use Rattle.epoch_machine.specs.Epochs.{number_of}
use Rattle.epoch_machine.specs.Messages.{Piece}
use Rattle.epoch_machine.specs.Settings.{Settings}
use Rattle.epoch_machine.specs.World.{World}
use Rattle.epoch_machine.specs.Deeds.{Collects, AdoptsCollected}
use Rattle.epoch_machine.specs.Guards.{MayAdopt, Can}
use Rattle.epoch_machine.specs.Effects.{after}
use Rattle.epoch_machine.specs.Invariant.{Invariant}
use Rattle.epoch_machine.proofs.Replaced.{put_at}
use Rattle.epoch_machine.proofs.Histories.{deed_keeps}
use Rattle.unit_rules.specs.declared.progress.CatchUp.{CatchUp}
use Rattle.unit_rules.specs.Copies.{fetch_next, adoption, piece_collected, is_wanted, piece_for, piece_received}
use Rattle.unit_rules.specs.Deeds.{Keep, acted, still}
use Rattle.unit_rules.specs.Progress.{is_primary}
use Rattle.unit_rules.specs.ReplicaStates.{ReplicaState, replica_put}
use Rattle.fabric_terms.specs.declared.record.Record.TheVariants as kept
use Rattle.epoch_refinement.specs.Epochs.{IsEpoch}
use Rattle.epoch_refinement.specs.Facts.{of_node, Later}
use Rattle.epoch_refinement.specs.Refined.{Refined}
use Rattle.epoch_refinement.specs.ReplicaStates.{IsNumbered, ShowsReplicaState}
use Rattle.epoch_refinement.specs.Shown.{ShownSync, ShownPiece}
use Rattle.epoch_refinement.proofs.Doing.{after_refined, nothing_refined, not_primary}
use Rattle.epoch_refinement.proofs.Numbers.{older_not, same_not, below_older, same_epoch-true, one_epoch}
use Rattle.epoch_refinement.proofs.Lasting.{deed_later, later_refl, sync_later}
use Rattle.epoch_refinement.proofs.Promising.{numbered_none, numbered_push}
use Rattle.epoch_refinement.proofs.Adopting.{Adopts, adopts}

module _ {c : Settings} {w : World} (inv : Invariant c w) (p : ℕ) (me : Who) (s : ReplicaState) (shows : ShowsReplicaState w p me.actor s) where
  -- an entry of the Sync last taken
  module _ (t : CatchUp) (is_taken : s.catch_up ≡ Some t) (e : Epoch) (x : Entry) (piece : ShownPiece w e x) (same : same_epoch t.epoch e ≡ true)
      (not_at : same_epoch s.replica.at t.epoch ≡ false) (not_older : is_older t.epoch s.replica.promised ≡ false)
      (within : x.lsn ≤ t.last) where
    sync : ShownSync w t.epoch t.origin t.last
    sync = shows.taken t is_taken

    promised_is : w.promised me.actor ≡ sync.plan.epoch
    promised_is =
        let a = older_not t.epoch s.replica.promised sync.epoch shows.promised not_older in
        let b = shows.reached t sync.plan.epoch is_taken sync.epoch in omega arith

    -- so it is the promised epoch
    epoch_is : s.replica.promised ≡ t.epoch
    epoch_is =
        let a = shows.promised in let b = sync.epoch in
        one_epoch s.replica.promised t.epoch sync.plan.epoch
        (subst (λ n. IsEpoch n s.replica.promised) promised_is shows.promised).number b.number

    before_joined : w.joined me.actor < sync.plan.epoch
    before_joined =
        let le = inv.logs.below me.actor in
        let d = same_not s.replica.at t.epoch shows.joined sync.epoch not_at in
        let q = promised_is in omega arith

    may : MayAdopt w me.actor sync.plan
    may = record { synced = sync.synced; promised = promised_is; before = before_joined }

    not_above : is_older s.replica.promised t.epoch ≡ false
    not_above = subst (λ z. is_older z t.epoch ≡ false) (sym epoch_is) (not_itself t.epoch)

    not_leading : is_primary s.replica.role ≡ false
    not_leading = shows.idle (below_older s.replica.at s.replica.promised shows.joined shows.promised (let q = promised_is in let b = before_joined in
        omega arith))

    role_now : is_primary (raised t.epoch s.replica).role ≡ false
    role_now = subst (λ b. is_primary (cond b (demoted s.replica.role) s.replica.role) ≡ false) (sym not_above) not_leading

    -- what was collected before this entry
    abbrev before : Bool → List Entry
    before first = cond first [] (collected_in t.epoch s.replica)

    collected_same : collected_in t.epoch s.replica ≡ s.replica.collected
    collected_same = ap (λ b. cond b [] s.replica.collected) not_above

    numbered_before : (first : Bool) → IsNumbered (before first)
    numbered_before true = numbered_none
    numbered_before false = subst IsNumbered (sym collected_same) shows.numbered_collected

    in_base : x.lsn ≤ length sync.plan.base
    in_base = let le = within in let l = sync.last_is in omega arith

    piece_sent : (first : Bool) → x.lsn ≡ length (before first) + 1 →
        IsMember (record { epoch = sync.plan.epoch; place = length (before first); entry = x }) w.pieces
    piece_sent first next =
        let place : piece.place ≡ length (before first) = let h = piece.place_is in omega arith in
        let epoch : piece.epoch ≡ sync.plan.epoch =
        let a = piece.epoch_is in let b = sync.epoch in a.is ∙ ap number_of (sym (same_epoch-true t.epoch e same)) ∙ sym b.is in
        subst (λ (q : Piece). IsMember q w.pieces) (λ i. record { epoch = epoch i; place = place i; entry = x }) piece.sent

    can_collect : (first : Bool) → x.lsn ≡ length (before first) + 1 → Can c w (Collects me.actor sync.plan (before first) x)
    can_collect first next = (may, which first, let le = in_base in omega arith, piece_sent first next)
      where
        which : (first : Bool) → (before first ≡ []) ⊎ (before first ≡ w.collected me.actor)
        which true = inl refl
        which false = inr (collected_same ∙ sym (shows.collected (let lt = before_joined in let q = promised_is in omega arith)))

    abbrev u : Bool → World
    u first = after w (Collects me.actor sync.plan (before first) x)

    later : (first : Bool) → Later (of_node me.actor) w (u first)
    later first = deed_later w (Collects me.actor sync.plan (before first) x)

    -- the replica with the entry collected
    abbrev more : Bool → Replica
    more first = record (raised t.epoch s.replica) { collected = before first ++ x ∷ [] }

    collected_shows : (first : Bool) → x.lsn ≡ length (before first) + 1 → ShowsReplicaState (u first) p me.actor (replica_put s (more first))
    collected_shows first next = record {
      partition = shows.partition;
      promised = subst (IsEpoch (w.promised me.actor)) epoch_is shows.promised;
      joined = shows.joined;
      log = shows.log;
      room = shows.room;
      collected = λ lt. put_at w.collected me.actor (before first ++ (x ∷ []));
      taken = λ t h. sync_later (later first) (shows.taken t h);
      reached = shows.reached;
      numbered = shows.numbered;
      numbered_collected = numbered_push (before first) x next piece.small (numbered_before first);
      idle = λ h. role_now;
      progress = λ l h. absurd (not_primary (replica_put s (more first)) l role_now h);
    }

    collects : (first final : Bool) → (x.lsn == t.last) ≡ final → x.lsn ≡ length (before first) + 1 →
        Refined c w p me
        (piece_collected t x s (Ok New, cond final (settled t.epoch (more first)) (more first)))
    collects first false h next =
        subst (λ b. Refined c w p me (acted (replica_put s (more first)) (Keep (kept.Incoming s.replica.partition t.epoch x.lsn x.epoch x.bytes) ∷
        (if b then adoption s.replica.partition t false else fetch_next t (more first) ∷ [])))) (sym h)
        (record {
          after = u first;
          inv = deed_keeps inv (Collects me.actor sync.plan (before first) x) (can_collect first next);
          later = later first;
          shows = collected_shows first next;
          sent = (shows.partition, record { plan = sync.plan; synced = sync.synced; epoch = sync.epoch; origin_is = sync.origin_is }, tt);
          told = refl;
        })
    collects first true h next =
        subst (λ b. Refined c w p me (acted (replica_put s (settled t.epoch (more first))) (Keep (kept.Incoming s.replica.partition t.epoch x.lsn x.epoch x.bytes) ∷
        (if b then adoption s.replica.partition t false else fetch_next t (settled t.epoch (more first)) ∷ [])))) (sym h)
        (after_refined (later first) (Keep (kept.Incoming s.replica.partition t.epoch x.lsn x.epoch x.bytes) ∷ []) tt (λ log. refl) done)
      where
        can : Can c (u first) (AdoptsCollected me.actor sync.plan)
        can = (
          record { synced = may.synced; promised = may.promised; before = may.before },
          let e = ap length (put_at w.collected me.actor (before first ++ (x ∷ []))) in
              let n = length-append (before first) (x ∷ []) in
              let l = sync.last_is in let k = eqb-true x.lsn t.last h in omega arith,
        )

        length_now : length (before first ++ x ∷ []) ≤ 100000
        length_now = let n = length-append (before first) (x ∷ []) in let le = within in let r = sync.room in omega arith

        has_log : Adopts (deed_keeps inv (Collects me.actor sync.plan (before first) x) (can_collect first next)) p me t (replica_put s (more first))
            (collected_shows first next) (sync_later (later first) sync) promised_is before_joined ((u first).collected me.actor)
            (replica_put s (settled t.epoch (more first)))
        has_log = record {
          partition = shows.partition;
          promised_is = refl;
          at_is = refl;
          log_is = put_at w.collected me.actor (before first ++ (x ∷ []));
          room = length_now;
          taken_is = refl;
          numbered = let k = collected_shows first next in k.numbered_collected;
          numbered_collected = numbered_none;
          role_is = role_now;
        }

        done : Refined c (u first) p me (acted (replica_put s (settled t.epoch (more first))) (adoption s.replica.partition t false))
        done =
            adopts (deed_keeps inv (Collects me.actor sync.plan (before first) x) (can_collect first next)) p me t (replica_put s (more first))
            (collected_shows first next) (sync_later (later first) sync) promised_is before_joined ((u first).collected me.actor)
            (replica_put s (settled t.epoch (more first))) false has_log
            (deed_keeps (deed_keeps inv (Collects me.actor sync.plan (before first) x) (can_collect first next)) (AdoptsCollected me.actor sync.plan) can)
            (deed_later (u first) (AdoptsCollected me.actor sync.plan))

    -- the same first entry again changes nothing
    held : (x.lsn == t.last) ≡ false → Refined c w p me (piece_collected t x s (Ok Held, s.replica))
    held h =
        subst (λ b. Refined c w p me (acted (replica_put s s.replica) (Keep (kept.Incoming s.replica.partition t.epoch x.lsn x.epoch x.bytes) ∷
        (if b then adoption s.replica.partition t false else fetch_next t s.replica ∷ [])))) (sym h)
        (record {
          after = w;
          inv = inv;
          later = later_refl w;
          shows = shows;
          sent = (shows.partition, record { plan = sync.plan; synced = sync.synced; epoch = sync.epoch; origin_is = sync.origin_is }, tt);
          told = refl;
        })

    -- the call, by whether the entry is the first one, and the last one
    abbrev called : (first final again : Bool) → Outcome Done
    called first true again = (Ok New, settled t.epoch (more first))
    called first false again = held_if again s.replica (Ok New, more first)

    same_call : (final : Bool) → collected_call final t.epoch x s.replica ≡ called (x.lsn == 1) final (is_collected t.epoch x s.replica)
    same_call true = refl
    same_call false = refl

    takes : Refined c w p me (piece_collected t x s
        (unless (is_gap t.epoch x.lsn s.replica)
        (Gap (length (collected_in t.epoch s.replica))) s.replica (collected_call (x.lsn == t.last) t.epoch x s.replica)))
    takes =
        subst (λ o. Refined c w p me (piece_collected t x s (unless (is_gap t.epoch x.lsn s.replica)
        (Gap (length (collected_in t.epoch s.replica))) s.replica o)))
        (sym (same_call (x.lsn == t.last)))
        (go (x.lsn == 1) refl (x.lsn == length (collected_in t.epoch s.replica) + 1) refl (x.lsn == t.last) refl (is_collected t.epoch x s.replica))
      where
        go : (first : Bool) → (x.lsn == 1) ≡ first → (next : Bool) → (x.lsn == length (collected_in t.epoch s.replica) + 1) ≡ next →
            (final : Bool) → (x.lsn == t.last) ≡ final → (again : Bool) →
            Refined c w p me (piece_collected t x s
            (unless (not first && not next) (Gap (length (collected_in t.epoch s.replica))) s.replica
            (called first final again)))
        go true h next i true j again = collects true true j (eqb-true x.lsn 1 h)
        go true h next i false j true = held j
        go true h next i false j false = collects true false j (eqb-true x.lsn 1 h)
        go false h true i true j again = collects false true j (eqb-true x.lsn (length (collected_in t.epoch s.replica) + 1) i)
        go false h true i false j true = held j
        go false h true i false j false = collects false false j (eqb-true x.lsn (length (collected_in t.epoch s.replica) + 1) i)
        go false h false i final j again = nothing_refined inv shows

  pub piece_refines : (e : Epoch) (x : Entry) → ShownPiece w e x → Refined c w p me (piece_received e x s)
  unfolding piece_received
  piece_refines e x piece = go s.catch_up refl
    where
      by : (t : CatchUp) → s.catch_up ≡ Some t → (wanted : Bool) → is_wanted t e x.lsn s.replica ≡ wanted →
          (older : Bool) → is_older t.epoch s.replica.promised ≡ older → (at : Bool) → same_epoch s.replica.at t.epoch ≡ at →
          Refined c w p me (if wanted then piece_collected t x s (unless older (Older s.replica.promised) s.replica (held_if at s.replica
          (unless (is_gap t.epoch x.lsn s.replica)
          (Gap (length (collected_in t.epoch s.replica))) s.replica (collected_call (x.lsn == t.last) t.epoch x s.replica))))
          else still s)
      by t h false i older j at k = nothing_refined inv shows
      by t h true i true j at k = nothing_refined inv shows
      by t h true i false j true k =
          let a = and_parts ((same_epoch t.epoch e && not (same_epoch s.replica.at e)) && nat_le 1 x.lsn) (nat_le x.lsn t.last) i in
          let b = and_parts (same_epoch t.epoch e && not (same_epoch s.replica.at e)) (nat_le 1 x.lsn) a.0 in
          let d = and_parts (same_epoch t.epoch e) (not (same_epoch s.replica.at e)) b.0 in
          absurd (both_ways (same_epoch s.replica.at t.epoch) (subst (λ z. same_epoch s.replica.at z ≡ false) (sym (same_epoch-true t.epoch e d.0))
          (not-true (same_epoch s.replica.at e) d.1)) k)
      by t h true i false j false k =
          let a = and_parts ((same_epoch t.epoch e && not (same_epoch s.replica.at e)) && nat_le 1 x.lsn) (nat_le x.lsn t.last) i in
          let b = and_parts (same_epoch t.epoch e && not (same_epoch s.replica.at e)) (nat_le 1 x.lsn) a.0 in
          let d = and_parts (same_epoch t.epoch e) (not (same_epoch s.replica.at e)) b.0 in
          takes t h e x piece d.0 k j (leb-true x.lsn t.last a.1)

      go : (o : Option CatchUp) → s.catch_up ≡ o → Refined c w p me (piece_for e x s o)
      go None h = nothing_refined inv shows
      go (Some t) h = by t h (is_wanted t e x.lsn s.replica) refl (is_older t.epoch s.replica.promised) refl (same_epoch s.replica.at t.epoch) refl
