-- What a primary commits, and the row of Appended.
use Rattle.std.proofs.Common.{◌≡◌, ℕ, ◌+◌, ◌<◌, ◌≤◌, max, Bool, true, false, cond, ◌&&◌, ◌==◌, nat_lt, nat_le, List, [], ◌∷◌, length, Option, None, Some, refl, sym, ap, ◌∙◌, subst, inl, inr, ⊎_elim, arith}
use Rattle.std.proofs.lemmas.Bool.{eqb-true, ltb-true, leb-true, cases_lt, or_cases, and_parts}
use Rattle.std.specs.Prelude.{not, map, if◌then◌else◌}
use Rattle.std.specs.List.{list_any}
use Rattle.fabric_lemmas.specs.Members.{IsMember}
use Rattle.ring_points.specs.declared.unit.Epoch.{Epoch}
use Rattle.ring_points.specs.declared.who.Who.{Who}
use Rattle.ring_points.specs.Epochs.{is_older, same_epoch}
use Rattle.epoch_machine.specs.Epochs.{number_of}
use Rattle.epoch_machine.specs.Evidence.{HasAppended}
use Rattle.epoch_machine.specs.Messages.{appended_by}
use Rattle.epoch_machine.specs.Plans.{Role}
use Rattle.epoch_machine.specs.Settings.{Settings}
use Rattle.epoch_machine.specs.World.{World, TellsCommitted}
use Rattle.epoch_machine.specs.Deeds.{SaysAppended, Commits}
use Rattle.epoch_machine.specs.Guards.{HasAdopted, Can}
use Rattle.epoch_machine.specs.Effects.{after}
use Rattle.epoch_machine.specs.SoundRoles.{SoundRole}
use Rattle.epoch_machine.specs.Invariant.{Invariant}
use Rattle.epoch_machine.proofs.Replaced.{put_at}
use Rattle.epoch_machine.proofs.Kept.{active_sync, sync_plan, positive}
use Rattle.epoch_machine.proofs.Histories.{deed_keeps}
use Rattle.unit_rules.specs.declared.progress.PeerProgress.{PeerProgress}
use Rattle.unit_rules.specs.Deeds.{still}
use Rattle.unit_rules.specs.Progress.{is_primary, progress_of, confirmed_up_to, peer_confirms, confirmed_by, confirmed_of, most_confirmed}
use Rattle.unit_rules.specs.ReplicaStates.{ReplicationProgress, ReplicaState}
use Rattle.unit_rules.specs.Writes.{commits, committed, appended_to, appended_received}
use Rattle.epoch_refinement.specs.Epochs.{IsEpoch}
use Rattle.epoch_refinement.specs.Facts.{of_node, Later, is_appended, Has}
use Rattle.epoch_refinement.specs.Refined.{Refined}
use Rattle.epoch_refinement.specs.ReplicaStates.{IsConfirmed, ShowsReplicaState, ShowsProgress}
use Rattle.epoch_refinement.proofs.Activating.{progress_is}
use Rattle.epoch_refinement.proofs.Confirmed.{has_confirmed, Committable, committable, any_in, map_in}
use Rattle.epoch_refinement.proofs.Doing.{nothing_refined}
use Rattle.epoch_refinement.proofs.Numbers.{same_epoch-true, real}
use Rattle.epoch_refinement.proofs.Lasting.{deed_later, later_trans, sync_later}

-- progress that the world shows, at a primary
module _ {c : Settings} {w : World} (inv : Invariant c w) (p : ℕ) (me : Who) (s : ReplicaState) (shows : ShowsReplicaState w p me.actor s) (l : ReplicationProgress) (r : Role)
    (progress : ShowsProgress w me.actor (length s.replica.log) l r) where
  sound : SoundRole w.active w.told me.actor (w.promised me.actor) (w.joined me.actor) (w.log me.actor) r
  sound = inv.roles me.actor r progress.role

  has_adopted : HasAdopted w me.actor
  has_adopted = sound.joined_is ∙ sym sound.promised_is

  pub progress_epoch : IsEpoch r.plan.epoch s.replica.at
  progress_epoch = subst (λ n. IsEpoch n s.replica.at) sound.joined_is shows.joined

  -- the state with this progress
  pub led : ShowsReplicaState w p me.actor (record s { progress = Some l })
  led = record {
    partition = shows.partition;
    promised = shows.promised;
    joined = shows.joined;
    log = shows.log;
    room = shows.room;
    collected = shows.collected;
    taken = shows.taken;
    reached = shows.reached;
    numbered = shows.numbered;
    numbered_collected = shows.numbered_collected;
    idle = shows.idle;
    progress = λ m i. subst (λ m. (q : Role) × ShowsProgress w me.actor (length s.replica.log) m q)
        (progress_is (is_primary s.replica.role) (not (is_older s.replica.at s.replica.promised)) l m i) (r, progress);
  }

  abbrev v : World
  v = after w (SaysAppended me.actor)

  later : Later (of_node me.actor) w v
  later = deed_later w (SaysAppended me.actor)

  abbrev last : ℕ
  last = length s.replica.log

  said : (k : ℕ) → 0 < k → k ≤ last → (m : ℕ) → has_confirmed me.actor k l.peers m ≡ true → HasAppended v.appended r.plan.epoch k m
  said k some le m h = ⊎_elim
      (λ e. record {
        own = length (w.log me.actor);
        sent = inl (λ i. record { node = eqb-true m me.actor e i; epoch = sym sound.joined_is i; last = length (w.log me.actor) });
        enough = let n = ap length shows.log in omega arith;
      })
      (λ a. peer (any_in (λ q. q.node == m && nat_le k q.confirmed) l.peers a))
      (or_cases (m == me.actor) (list_any (λ q. q.node == m && nat_le k q.confirmed) l.peers) h)
    where
      peer : ((q : PeerProgress) × IsMember q l.peers × ((q.node == m && nat_le k q.confirmed) ≡ true)) → HasAppended v.appended r.plan.epoch k m
      peer a =
          let parts = and_parts (a.0.node == m) (nat_le k a.0.confirmed) a.2 in
          let enough = leb-true k a.0.confirmed parts.1 in
          ⊎_elim (λ none. absurd (omega arith))
          (λ has. record {
            own = a.0.confirmed;
            sent = inr (subst (λ n. IsMember (appended_by n r.plan.epoch a.0.confirmed) w.appended) (eqb-true a.0.node m parts.0) has.0);
            enough = enough;
          })
          (progress.confirmed a.0 a.1)

  module _ (k : ℕ) (above : l.committed < k) (has : Committable me.actor last l r.plan.members k) where
    within : k ≤ last
    within = ⊎_elim (λ e. omega arith) (λ q. ⊎_elim (λ none. let e = q.2 in omega arith) (λ some. let e = q.2 in let le = some.1 in omega arith)
        (progress.confirmed q.0 q.1)) has.one

    can_commit : Can c v (Commits me.actor k r)
    can_commit = (
      progress.role,
      let f = progress.floor in omega arith,
      ⊎_elim (λ none. omega arith) (λ some. omega arith) progress.reported,
      let n = ap length shows.log in let le = within in omega arith,
      record { by = has_confirmed me.actor k l.peers; each = said k (omega arith) within; most = has.most },
    )

    abbrev u : World
    u = after v (Commits me.actor k r)

    all : Later (of_node me.actor) w u
    all = later_trans later (deed_later v (Commits me.actor k r))

    commits_refined : Refined c w p me (commits l k s)
    commits_refined = record {
      after = u;
      inv = deed_keeps (deed_keeps inv (SaysAppended me.actor) has_adopted) (Commits me.actor k r) can_commit;
      later = all;
      shows = record {
        partition = shows.partition;
        promised = shows.promised;
        joined = shows.joined;
        log = shows.log;
        room = shows.room;
        collected = shows.collected;
        taken = λ t i. sync_later all (shows.taken t i);
        reached = shows.reached;
        numbered = shows.numbered;
        numbered_collected = shows.numbered_collected;
        idle = shows.idle;
        progress = λ m i. subst (λ m. (q : Role) × ShowsProgress u me.actor last m q)
            (progress_is (is_primary s.replica.role) (not (is_older s.replica.at s.replica.promised)) (record l { committed = k }) m i)
            (record r { reported = k }, new);
      };
      sent = (
        (shows.partition, real r.plan.epoch s.replica.at progress_epoch (positive inv r.plan (sync_plan inv r.plan (active_sync inv r.plan sound.activated)))),
        tt,
      );
      told = λ i. TellsCommitted me.actor (let e = progress_epoch in e.is i) k (shows.log i) ∷ w.told;
    }
      where
        new : ShowsProgress u me.actor last (record l { committed = k }) (record r { reported = k })
        new = record {
          role = put_at w.role me.actor (Some (record r { reported = k }));
          floor = let f = progress.floor in omega arith;
          reported = inr refl;
          member = progress.member;
          peers = progress.peers;
          confirmed = λ q m. ⊎_elim (λ none. inl none) (λ some. inr (all.keeps (is_appended _) some.0, some.1)) (progress.confirmed q m);
        }

  pub committed_refines : Refined c w p me (committed l s)
  committed_refines = go (nat_lt l.committed (most_confirmed (confirmed_of l (length s.replica.log)))) refl
    where
      k : ℕ
      k = most_confirmed (confirmed_of l (length s.replica.log))

      go : (b : Bool) → nat_lt l.committed (most_confirmed (confirmed_of l (length s.replica.log))) ≡ b →
          Refined c w p me (if b then commits l (most_confirmed (confirmed_of l (length s.replica.log))) s else still (record s { progress = Some l }))
      go true h =
          let lt = ltb-true l.committed (most_confirmed (confirmed_of l (length s.replica.log))) h in
          commits_refined (most_confirmed (confirmed_of l (length s.replica.log))) lt
          (committable me.actor (length s.replica.log) l r.plan.members progress.member progress.peers (omega arith))
      go false h = nothing_refined inv led

-- Appended: the frame shows what the sender said

same_nodes : (node lsn own : ℕ) (peers : List PeerProgress) →
    map (λ (q : PeerProgress). q.node) (map (peer_confirms node lsn own) peers) ≡ map (λ (q : PeerProgress). q.node) peers
same_nodes node lsn own [] = refl
same_nodes node lsn own (q ∷ qs) = go (q.node == node) (same_nodes node lsn own qs)
  where
    go : (b : Bool) → map (λ (q : PeerProgress). q.node) (map (peer_confirms node lsn own) qs) ≡ map (λ (q : PeerProgress). q.node) qs →
        (cond b (record q { confirmed = confirmed_up_to lsn own q; next = lsn + 1 }) q).node ∷ map (λ (q : PeerProgress). q.node) (map (peer_confirms node lsn own) qs)
        ≡ q.node ∷ map (λ (q : PeerProgress). q.node) qs
    go true e = ap (λ l. q.node ∷ l) e
    go false e = ap (λ l. q.node ∷ l) e

module _ {c : Settings} {w : World} (inv : Invariant c w) (p : ℕ) (me : Who) (s : ReplicaState) (shows : ShowsReplicaState w p me.actor s) where
  module _ (l : ReplicationProgress) (r : Role) (progress : ShowsProgress w me.actor (length s.replica.log) l r) (node last : ℕ)
      (said : Has w (is_appended (appended_by node r.plan.epoch last))) where
    abbrev own : ℕ
    own = length s.replica.log

    confirmed_now : (q : PeerProgress) → IsConfirmed w r own q → IsConfirmed w r own (peer_confirms node last own q)
    confirmed_now q h = go (q.node == node) refl (nat_le last own) refl
      where
        new : q.node ≡ node → last ≤ own → IsConfirmed w r own (record q { confirmed = max q.confirmed last; next = last + 1 })
        new same le = ⊎_elim
            (λ less. let e : max q.confirmed last ≡ last = omega arith in
            inr (subst (λ (k : ℕ × ℕ). Has w (is_appended (appended_by k.0 r.plan.epoch k.1))) (λ i. (sym same i, sym e i)) said, omega arith))
            (λ ge. let e : max q.confirmed last ≡ q.confirmed = omega arith in ⊎_elim
            (λ none. inl (e ∙ none))
            (λ some. inr (subst (λ k. Has w (is_appended (appended_by q.node r.plan.epoch k))) (sym e) some.0, (let k = some.1 in omega arith))) h)
            (cases_lt q.confirmed last)

        go : (b : Bool) → (q.node == node) ≡ b → (d : Bool) → nat_le last own ≡ d →
            IsConfirmed w r own (cond b (record q { confirmed = cond d (max q.confirmed last) q.confirmed; next = last + 1 }) q)
        go true i true j = new (eqb-true q.node node i) (leb-true last own j)
        go true i false j = h
        go false i d j = h

    progress_now : ShowsProgress w me.actor own (confirmed_by node last own l) r
    progress_now = record {
      role = progress.role;
      floor = progress.floor;
      reported = progress.reported;
      member = progress.member;
      peers = same_nodes node last own l.peers ∙ progress.peers;
      confirmed = λ q m.
          let o = map_in (peer_confirms node last own) l.peers q m in
          subst (IsConfirmed w r own) (sym o.2) (confirmed_now o.0 (progress.confirmed o.0 o.1));
    }

  pub appended_refines : (node last : ℕ) (e : Epoch) (n : ℕ) → IsEpoch n e → Has w (is_appended (appended_by node n last)) →
      Refined c w p me (appended_received node e last s)
  unfolding appended_received
  appended_refines node last e n is said = go (progress_of s) refl
    where
      by : (l : ReplicationProgress) → progress_of s ≡ Some l → (same : Bool) → same_epoch s.replica.at e ≡ same →
          Refined c w p me (if same then committed (confirmed_by node last (length s.replica.log) l) s else still s)
      by l h true i =
          let d = shows.progress l h in
          let q = progress_epoch inv p me s shows l d.0 d.1 in
          let number : n ≡ d.0.plan.epoch = is.is ∙ ap number_of (sym (same_epoch-true s.replica.at e i)) ∙ sym q.is in
          committed_refines inv p me s shows (confirmed_by node last (length s.replica.log) l) d.0
          (progress_now l d.0 d.1 node last (subst (λ k. Has w (is_appended (appended_by node k last))) number said))
      by l h false i = nothing_refined inv shows

      go : (o : Option ReplicationProgress) → progress_of s ≡ o → Refined c w p me (appended_to node e last s o)
      go None h = nothing_refined inv shows
      go (Some l) h = by l h (same_epoch s.replica.at e) refl
