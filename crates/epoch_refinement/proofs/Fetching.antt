-- The row of Fetch.
use Rattle.std.proofs.Common.{◌≡◌, ℕ, zero, suc, ◌+◌, ◌-◌, Bool, true, false, nat_le, List, [], ◌∷◌, Option, None, Some, refl, sym, ◌∙◌, subst, inl, arith}
use Rattle.std.proofs.lemmas.Bool.{leb-true}
use Rattle.std.specs.Prelude.{slice_get, if◌then◌else◌}
use Rattle.ring_points.specs.declared.unit.Epoch.{Epoch}
use Rattle.ring_points.specs.declared.who.Who.{Who}
use Rattle.ring_points.specs.Epochs.{same_epoch}
use Rattle.replica_core.specs.declared.entry.Entry.{Entry}
use Rattle.epoch_machine.specs.Logs.{IsAt}
use Rattle.epoch_machine.specs.Settings.{Settings}
use Rattle.epoch_machine.specs.World.{World}
use Rattle.epoch_machine.specs.Deeds.{SendsPiece}
use Rattle.epoch_machine.specs.Guards.{Can}
use Rattle.epoch_machine.specs.Effects.{after}
use Rattle.epoch_machine.specs.Invariant.{Invariant}
use Rattle.epoch_machine.proofs.Histories.{deed_keeps}
use Rattle.unit_rules.specs.Copies.{entry_given, fetch_received}
use Rattle.unit_rules.specs.Deeds.{still}
use Rattle.unit_rules.specs.ReplicaStates.{ReplicaState, entry_at}
use Rattle.epoch_refinement.specs.Epochs.{IsEpoch}
use Rattle.epoch_refinement.specs.Refined.{Refined}
use Rattle.epoch_refinement.specs.ReplicaStates.{ShowsReplicaState}
use Rattle.epoch_refinement.specs.Shown.{ShownFetch}
use Rattle.epoch_refinement.proofs.Doing.{nothing_refined}
use Rattle.epoch_refinement.proofs.Numbers.{same_epoch-true}
use Rattle.epoch_refinement.proofs.Lasting.{deed_later}
use Rattle.epoch_refinement.proofs.Promising.{shows_later}

place_found : (log : List Entry) (n : ℕ) (x : Entry) → slice_get log n ≡ Some x → IsAt log n x
place_found [] n x h = absurd (cc (h))
place_found (y ∷ ys) zero x h = cc
place_found (y ∷ ys) (suc n) x h = place_found ys n x h

pub entry_found : (lsn : ℕ) (log : List Entry) (x : Entry) → entry_at lsn log ≡ Some x → (place : ℕ) × (lsn ≡ place + 1) × IsAt log place x
entry_found lsn log x h = go (nat_le 1 lsn) refl h
  where
    go : (b : Bool) → nat_le 1 lsn ≡ b → (if b then slice_get log (lsn - 1) else None) ≡ Some x → (place : ℕ) × (lsn ≡ place + 1) × IsAt log place x
    go true i h = (lsn - 1, let le = leb-true 1 lsn i in omega arith, place_found log (lsn - 1) x h)
    go false i h = absurd (cc (h))

module _ {c : Settings} {w : World} (inv : Invariant c w) (p : ℕ) (me : Who) (s : ReplicaState) (shows : ShowsReplicaState w p me.actor s) where
  pub fetch_refines : (from : Who) (e : Epoch) (lsn : ℕ) → ShownFetch w e me.actor → Refined c w p me (fetch_received from e lsn s)
  unfolding fetch_received
  fetch_refines from e lsn fetch = go (same_epoch s.replica.promised e) refl (entry_at lsn s.replica.log) refl
    where
      go : (same : Bool) → same_epoch s.replica.promised e ≡ same → (o : Option Entry) → entry_at lsn s.replica.log ≡ o →
          Refined c w p me (if same then entry_given from e s o else still s)
      go false h o i = nothing_refined inv shows
      go true h None i = nothing_refined inv shows
      go true h (Some x) i =
          let found = entry_found lsn s.replica.log x i in
          let promised : IsEpoch (w.promised me.actor) e = subst (IsEpoch (w.promised me.actor)) (same_epoch-true s.replica.promised e h) shows.promised in
          let is = fetch.epoch in
          let can : Can c w (SendsPiece me.actor found.0 fetch.plan x) =
          (fetch.synced, fetch.origin_is, promised.is ∙ sym is.is, subst (λ l. IsAt l found.0 x) (sym shows.log) found.2) in
          record {
            after = after w (SendsPiece me.actor found.0 fetch.plan x);
            inv = deed_keeps inv (SendsPiece me.actor found.0 fetch.plan x) can;
            later = deed_later w (SendsPiece me.actor found.0 fetch.plan x);
            shows = shows_later (deed_later w (SendsPiece me.actor found.0 fetch.plan x)) refl refl refl refl refl shows;
            sent = (
              shows.partition,
              record {
                epoch = fetch.plan.epoch;
                place = found.0;
                epoch_is = fetch.epoch;
                place_is = shows.numbered.lsn found.0 x found.2;
                small = shows.numbered.small found.0 x found.2;
                sent = inl refl;
              },
              tt,
            );
            told = refl;
          }
