-- What is shown stays shown, as long as all that was done stays done.
use Rattle.std.proofs.Common.{◌≡◌, ℕ, Some, sym, ◌∙◌, subst, inl, inr, ⊎_elim, arith}
use Rattle.ring_points.specs.declared.unit.Config.{Config}
use Rattle.ring_points.specs.declared.unit.Epoch.{Epoch}
use Rattle.ring_points.specs.declared.who.Who.{Who}
use Rattle.fabric_terms.specs.declared.message.Body.{Body}
use Rattle.fabric_terms.specs.declared.message.Body.TheVariants as body
use Rattle.epoch_machine.specs.Plans.{Role}
use Rattle.epoch_machine.specs.World.{World}
use Rattle.unit_rules.specs.declared.progress.PeerProgress.{PeerProgress}
use Rattle.unit_rules.specs.Registers.{Register}
use Rattle.unit_rules.specs.ReplicaStates.{ReplicationProgress, ReplicaState}
use Rattle.epoch_refinement.specs.Epochs.{IsEpoch}
use Rattle.epoch_refinement.specs.Facts.{SameReplicaState, SameRegister, Fact, is_answer, is_plan, is_ballot, is_synced, is_asked, is_kept, is_active, is_promise, is_piece, is_adopted, is_append, is_appended, Has}
use Rattle.epoch_refinement.specs.Registers.{ShowsRegister}
use Rattle.epoch_refinement.specs.ReplicaStates.{IsConfirmed, ShowsProgress, ShowsReplicaState}
use Rattle.epoch_refinement.specs.Shown.{IsDone, ShownSync, ShownVoted, Shown}

module _ (w v : World) (keeps : (x : Fact) → Has w x → Has v x) where
  sync_lasts : {e : Epoch} {origin last : ℕ} → ShownSync w e origin last → ShownSync v e origin last
  sync_lasts s =
      record { plan = s.plan; synced = keeps (is_synced s.plan) s.synced; epoch = s.epoch; origin_is = s.origin_is; last_is = s.last_is; room = s.room }

  voted_lasts : {p arbiter : ℕ} {kept : Config} → ShownVoted w p arbiter kept → ShownVoted v p arbiter kept
  voted_lasts s = record { plan = s.plan; voted = keeps (is_ballot _) s.voted; is = s.is }

  pub shown_lasts : (p : ℕ) (from to : Who) (b : Body) → Shown w p from to b → Shown v p from to b
  shown_lasts p from to (body.Promised q e at last) s = record {
    epoch = s.epoch;
    joined = s.joined;
    log = s.log;
    promised = keeps (is_promise _) s.promised;
    epoch_is = s.epoch_is;
    joined_is = s.joined_is;
    last_is = s.last_is;
    room = s.room;
  }
  shown_lasts p from to (body.Sync q e origin last) s = sync_lasts s
  shown_lasts p from to (body.Fetch q e lsn) s =
      record { plan = s.plan; synced = keeps (is_synced s.plan) s.synced; epoch = s.epoch; origin_is = s.origin_is }
  shown_lasts p from to (body.Piece q e lsn entry_epoch text) s =
      record { epoch = s.epoch; place = s.place; epoch_is = s.epoch_is; place_is = s.place_is; small = s.small; sent = keeps (is_piece _) s.sent }
  shown_lasts p from to (body.Activate config) s = record { plan = s.plan; activated = keeps (is_active s.plan) s.activated; is = s.is }
  shown_lasts p from to (body.Prepared q e config) s =
      record { epoch = s.epoch; plan = s.plan; epoch_is = s.epoch_is; answered = keeps (is_answer _) s.answered; is = s.is; asker = s.asker }
  shown_lasts p from to (body.Vote config) s = record { plan = s.plan; planned = keeps (is_plan s.plan) s.planned; is = s.is }
  shown_lasts p from to (body.Voted q e kept) s = (voted_lasts s.0, s.1)
  shown_lasts p from to (body.DoneAsk config) s = record { plan = s.plan; asked = keeps (is_asked s.plan) s.asked; is = s.is }
  shown_lasts p from to (body.DoneKept q e) s = (s.0, s.1, keeps (is_kept _) s.2)
  shown_lasts p from to (body.Adopted q e last) s = (s.0, s.1, keeps (is_adopted _) s.2)
  shown_lasts p from to (body.Append q e lsn text) s = record {
    plan = s.plan;
    synced = keeps (is_synced s.plan) s.synced;
    epoch = s.epoch;
    is = ⊎_elim (λ le. inl le) (λ h. inr (h.0, h.1, keeps (is_append _) h.2)) s.is;
  }
  shown_lasts p from to (body.Appended q e last) s = (s.0, s.1, keeps (is_appended _) s.2)
  shown_lasts p from to b s = s

  confirmed_lasts : (r : Role) (last : ℕ) (q : PeerProgress) → IsConfirmed w r last q → IsConfirmed v r last q
  confirmed_lasts r last q h = ⊎_elim (λ none. inl none) (λ some. inr (keeps (is_appended _) some.0, some.1)) h

  progress_lasts : {node last : ℕ} {l : ReplicationProgress} {r : Role} → v.role node ≡ Some r → ShowsProgress w node last l r → ShowsProgress v node last l r
  progress_lasts {last = last} {r = r} role s = record {
    role = role;
    floor = s.floor;
    reported = s.reported;
    member = s.member;
    peers = s.peers;
    confirmed = λ q m. confirmed_lasts r last q (s.confirmed q m);
  }

  -- a replica that is as it was
  pub state_lasts : {p node : ℕ} {s : ReplicaState} → SameReplicaState w v node → ShowsReplicaState w p node s → ShowsReplicaState v p node s
  state_lasts {s = s} same shows = record {
    partition = shows.partition;
    promised = subst (λ n. IsEpoch n s.replica.promised) (sym same.promised) shows.promised;
    joined = subst (λ n. IsEpoch n s.replica.at) (sym same.joined) shows.joined;
    log = same.log ∙ shows.log;
    room = shows.room;
    collected = λ lt. same.collected ∙ shows.collected (let j = same.joined in let k = same.promised in omega arith);
    taken = λ t h. sync_lasts (shows.taken t h);
    reached = λ t n h is. let le = shows.reached t n h is in let k = same.promised in omega arith;
    numbered = shows.numbered;
    numbered_collected = shows.numbered_collected;
    idle = shows.idle;
    progress = λ l h. let d = shows.progress l h in let i = d.1 in (d.0, progress_lasts (same.role ∙ i.role) i);
  }

  -- a register that is as it was
  pub register_lasts : {p a : ℕ} {r : Register} → SameRegister w v a → ShowsRegister w p a r → ShowsRegister v p a r
  register_lasts {p = p} {r = r} same shows = record {
    nothing = λ h. same.prepared ∙ shows.nothing h;
    prepared = λ k h. let q = shows.prepared k h in (subst (λ n. IsEpoch n k.epoch) (sym same.prepared) q.0, same.preparer ∙ q.1);
    votes = λ u m. voted_lasts (shows.votes u m);
    done = subst (λ o. IsDone p o r.done) (sym same.done) shows.done;
  }
