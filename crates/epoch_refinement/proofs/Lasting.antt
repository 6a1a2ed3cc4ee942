-- What a deed leaves as it was: facts stay, and so do frames that show them.
use Rattle.std.proofs.Common.{◌≡◌, ℕ, ◌≤◌, arith, List, [], ◌∷◌, ◌++◌, Some, None, refl, ap, ◌∙◌, inl, inr, ⊎_elim}
use Rattle.replica_core.specs.declared.entry.Entry.{Entry}
use Rattle.epoch_machine.proofs.Replaced.{put_other}
use Rattle.ring_points.specs.declared.who.Who.{Who}
use Rattle.fabric_terms.specs.declared.message.Body.{Body}
use Rattle.fabric_terms.specs.declared.message.Body.TheVariants as body
use Rattle.epoch_machine.specs.World.{World}
use Rattle.epoch_machine.specs.Plans.{Plan, Role}
use Rattle.epoch_machine.specs.Deeds.{Deed, Prepares, Votes, KeepsDone, LeavesPrepare, Proposes, Syncs, AsksDone, Activates, RaisesPromise, AnswersPromise, AdoptsNothing, AdoptsOwn, AdoptsCollected, Collects, SendsPiece, SaysAdopted, Appends, SaysAppended, Restarts, BecomesPrimary, Writes, SendsAppend, Commits}
use Rattle.epoch_machine.specs.Effects.{higher, adopting, after}
use Rattle.epoch_refinement.specs.Facts.{Actor, of_node, of_arbiter, actor_of, SameReplicaState, SameRegister, Beside, Fact, is_answer, is_attempt, is_plan, is_ballot, is_synced, is_asked, is_kept, is_active, is_promise, is_piece, is_adopted, is_append, is_appended, Has, Later}
use Rattle.unit_rules.specs.declared.progress.PeerProgress.{PeerProgress}
use Rattle.unit_rules.specs.Deeds.{Deed as Act, Keep, Send, Tell}
use Rattle.unit_rules.specs.ReplicaStates.{ReplicationProgress}
use Rattle.epoch_refinement.specs.Refined.{AllShown}
use Rattle.epoch_refinement.specs.ReplicaStates.{IsConfirmed, ShowsProgress}
use Rattle.epoch_refinement.specs.Shown.{ShownVoted, ShownSync, Shown}
use Rattle.ring_points.specs.declared.unit.Config.{Config}
use Rattle.ring_points.specs.declared.unit.Epoch.{Epoch}

deed_keeps_facts : (w : World) (deed : Deed) (x : Fact) → Has w x → Has (after w deed) x
deed_keeps_facts w (Prepares a to e) (is_answer x) h = inr h
deed_keeps_facts w (LeavesPrepare t) (is_attempt x) h = inr h
deed_keeps_facts w (Proposes p) (is_plan x) h = inr h
deed_keeps_facts w (Votes a p) (is_ballot x) h = inr h
deed_keeps_facts w (Syncs p) (is_synced x) h = inr h
deed_keeps_facts w (AsksDone p) (is_asked x) h = inr h
deed_keeps_facts w (KeepsDone a p) (is_kept x) h = inr h
deed_keeps_facts w (Activates p) (is_active x) h = inr h
deed_keeps_facts w (AnswersPromise node) (is_promise x) h = inr h
deed_keeps_facts w (SendsPiece node place p entry) (is_piece x) h = inr h
deed_keeps_facts w (SaysAdopted node) (is_adopted x) h = inr h
deed_keeps_facts w (SendsAppend node place r entry) (is_append x) h = inr h
deed_keeps_facts w (SaysAppended node) (is_appended x) h = inr h
deed_keeps_facts w deed x h = h

same_state : (w : World) (m : ℕ) → SameReplicaState w w m
same_state w m = record { promised = refl; joined = refl; log = refl; collected = refl; role = refl }

same_register : (w : World) (a : ℕ) → SameRegister w w a
same_register w a = record { prepared = refl; preparer = refl; done = refl }

-- another node or arbitrator
other_node : (node m : ℕ) → (of_node node ≡ of_node m → ⊥) → node ≡ m → ⊥
other_node node m d e = d (ap of_node e)

other_arbiter : (a b : ℕ) → (of_arbiter a ≡ of_arbiter b → ⊥) → a ≡ b → ⊥
other_arbiter a b d e = d (ap of_arbiter e)

adopting_beside : (w : World) (node : ℕ) (p : Plan) (log : List Entry) → Beside (of_node node) w (adopting w node p log)
adopting_beside w node p log = record {
  states = λ m d. record {
    promised = refl;
    joined = put_other w.joined node p.epoch m (other_node node m d);
    log = put_other w.log node log m (other_node node m d);
    collected = refl;
    role = refl;
  };
  registers = λ b d. record { prepared = refl; preparer = refl; done = refl };
  attempts = λ d. refl;
  plans = λ d. refl;
}

-- a deed of an actor
deed_beside : (w : World) (deed : Deed) → Beside (actor_of deed) w (after w deed)
deed_beside w (Prepares a to e) = record {
  states = λ m d. record { promised = refl; joined = refl; log = refl; collected = refl; role = refl };
  registers = λ b d. record {
    prepared = put_other w.prepared a e b (other_arbiter a b d);
    preparer = put_other w.preparer a to b (other_arbiter a b d);
    done = refl;
  };
  attempts = λ d. refl;
  plans = λ d. refl;
}
deed_beside w (KeepsDone a p) = record {
  states = λ m d. record { promised = refl; joined = refl; log = refl; collected = refl; role = refl };
  registers = λ b d. record { prepared = refl; preparer = refl; done = put_other w.done a (higher (w.done a) p) b (other_arbiter a b d) };
  attempts = λ d. refl;
  plans = λ d. refl;
}
deed_beside w (LeavesPrepare t) = record {
  states = λ m d. record { promised = refl; joined = refl; log = refl; collected = refl; role = refl };
  registers = λ b d. record { prepared = refl; preparer = refl; done = refl };
  attempts = λ d. absurd (d refl);
  plans = λ d. refl;
}
deed_beside w (Proposes p) = record {
  states = λ m d. record { promised = refl; joined = refl; log = refl; collected = refl; role = refl };
  registers = λ b d. record { prepared = refl; preparer = refl; done = refl };
  attempts = λ d. refl;
  plans = λ d. absurd (d refl);
}
deed_beside w (RaisesPromise node e) = record {
  states = λ m d. record {
    promised = put_other w.promised node e m (other_node node m d);
    joined = refl;
    log = refl;
    collected = put_other w.collected node [] m (other_node node m d);
    role = put_other w.role node None m (other_node node m d);
  };
  registers = λ b d. record { prepared = refl; preparer = refl; done = refl };
  attempts = λ d. refl;
  plans = λ d. refl;
}
deed_beside w (AdoptsNothing node p) = adopting_beside w node p []
deed_beside w (AdoptsOwn node p) = adopting_beside w node p (w.log node)
deed_beside w (AdoptsCollected node p) = adopting_beside w node p (w.collected node)
deed_beside w (Collects node p before entry) = record {
  states = λ m d. record {
    promised = refl;
    joined = refl;
    log = refl;
    collected = put_other w.collected node (before ++ (entry ∷ [])) m (other_node node m d);
    role = refl;
  };
  registers = λ b d. record { prepared = refl; preparer = refl; done = refl };
  attempts = λ d. refl;
  plans = λ d. refl;
}
deed_beside w (Appends node a) = record {
  states = λ m d. record {
    promised = refl;
    joined = refl;
    log = put_other w.log node (w.log node ++ (a.entry ∷ [])) m (other_node node m d);
    collected = refl;
    role = refl;
  };
  registers = λ b d. record { prepared = refl; preparer = refl; done = refl };
  attempts = λ d. refl;
  plans = λ d. refl;
}
deed_beside w (Restarts node) = record {
  states = λ m d. record {
    promised = refl;
    joined = refl;
    log = refl;
    collected = put_other w.collected node [] m (other_node node m d);
    role = put_other w.role node None m (other_node node m d);
  };
  registers = λ b d. record { prepared = refl; preparer = refl; done = refl };
  attempts = λ d. refl;
  plans = λ d. refl;
}
deed_beside w (BecomesPrimary node p) = record {
  states = λ m d. record { promised = refl; joined = refl; log = refl; collected = refl; role = put_other w.role node _ m (other_node node m d) };
  registers = λ b d. record { prepared = refl; preparer = refl; done = refl };
  attempts = λ d. refl;
  plans = λ d. refl;
}
deed_beside w (Writes node r entry) = record {
  states = λ m d. record {
    promised = refl;
    joined = refl;
    log = put_other w.log node (w.log node ++ (entry ∷ [])) m (other_node node m d);
    collected = refl;
    role = refl;
  };
  registers = λ b d. record { prepared = refl; preparer = refl; done = refl };
  attempts = λ d. refl;
  plans = λ d. refl;
}
deed_beside w (Commits node last r) = record {
  states = λ m d. record { promised = refl; joined = refl; log = refl; collected = refl; role = put_other w.role node _ m (other_node node m d) };
  registers = λ b d. record { prepared = refl; preparer = refl; done = refl };
  attempts = λ d. refl;
  plans = λ d. refl;
}
deed_beside w deed = record {
  states = λ m d. record { promised = refl; joined = refl; log = refl; collected = refl; role = refl };
  registers = λ b d. record { prepared = refl; preparer = refl; done = refl };
  attempts = λ d. refl;
  plans = λ d. refl;
}

pub deed_later : (w : World) (deed : Deed) → Later (actor_of deed) w (after w deed)
deed_later w deed = record { keeps = deed_keeps_facts w deed; beside = deed_beside w deed }

pub later_refl : {x : Actor} (w : World) → Later x w w
later_refl w = record {
  keeps = λ x h. h;
  beside = record { states = λ m d. same_state w m; registers = λ a d. same_register w a; attempts = λ d. refl; plans = λ d. refl };
}

pub later_trans : {x : Actor} {u v w : World} → Later x u v → Later x v w → Later x u w
later_trans a b = record {
  keeps = λ x h. b.keeps x (a.keeps x h);
  beside = record {
    states = λ m d.
        let p = a.beside.states m d in let q = b.beside.states m d in record {
          promised = q.promised ∙ p.promised;
          joined = q.joined ∙ p.joined;
          log = q.log ∙ p.log;
          collected = q.collected ∙ p.collected;
          role = q.role ∙ p.role;
        };
    registers = λ k d.
        let p = a.beside.registers k d in let q = b.beside.registers k d in
        record { prepared = q.prepared ∙ p.prepared; preparer = q.preparer ∙ p.preparer; done = q.done ∙ p.done };
    attempts = λ d. b.beside.attempts d ∙ a.beside.attempts d;
    plans = λ d. b.beside.plans d ∙ a.beside.plans d;
  };
}

module _ {x : Actor} {w v : World} (later : Later x w v) where
  abbrev pub sync_later : {e : Epoch} {origin last : ℕ} → ShownSync w e origin last → ShownSync v e origin last
  sync_later s =
      record { plan = s.plan; synced = later.keeps (is_synced s.plan) s.synced; epoch = s.epoch; origin_is = s.origin_is; last_is = s.last_is; room = s.room }

  pub voted_later : {p arbiter : ℕ} {kept : Config} → ShownVoted w p arbiter kept → ShownVoted v p arbiter kept
  voted_later s = record { plan = s.plan; voted = later.keeps (is_ballot _) s.voted; is = s.is }

  pub shown_later : (p : ℕ) (from to : Who) (b : Body) → Shown w p from to b → Shown v p from to b
  shown_later p from to (body.Promised q e at last) s = record {
    epoch = s.epoch;
    joined = s.joined;
    log = s.log;
    promised = later.keeps (is_promise _) s.promised;
    epoch_is = s.epoch_is;
    joined_is = s.joined_is;
    last_is = s.last_is;
    room = s.room;
  }
  shown_later p from to (body.Sync q e origin last) s = sync_later s
  shown_later p from to (body.Fetch q e lsn) s =
      record { plan = s.plan; synced = later.keeps (is_synced s.plan) s.synced; epoch = s.epoch; origin_is = s.origin_is }
  shown_later p from to (body.Piece q e lsn entry_epoch text) s =
      record { epoch = s.epoch; place = s.place; epoch_is = s.epoch_is; place_is = s.place_is; small = s.small; sent = later.keeps (is_piece _) s.sent }
  shown_later p from to (body.Activate config) s = record { plan = s.plan; activated = later.keeps (is_active s.plan) s.activated; is = s.is }
  shown_later p from to (body.Prepared q e config) s =
      record { epoch = s.epoch; plan = s.plan; epoch_is = s.epoch_is; answered = later.keeps (is_answer _) s.answered; is = s.is; asker = s.asker }
  shown_later p from to (body.Vote config) s = record { plan = s.plan; planned = later.keeps (is_plan s.plan) s.planned; is = s.is }
  shown_later p from to (body.Voted q e kept) s = (voted_later s.0, s.1)
  shown_later p from to (body.DoneAsk config) s = record { plan = s.plan; asked = later.keeps (is_asked s.plan) s.asked; is = s.is }
  shown_later p from to (body.DoneKept q e) s = (s.0, s.1, later.keeps (is_kept _) s.2)
  shown_later p from to (body.Adopted q e last) s = (s.0, s.1, later.keeps (is_adopted _) s.2)
  shown_later p from to (body.Append q e lsn text) s = record {
    plan = s.plan;
    synced = later.keeps (is_synced s.plan) s.synced;
    epoch = s.epoch;
    is = ⊎_elim (λ le. inl le) (λ h. inr (h.0, h.1, later.keeps (is_append _) h.2)) s.is;
  }
  shown_later p from to (body.Appended q e last) s = (s.0, s.1, later.keeps (is_appended _) s.2)
  shown_later p from to b s = s

  pub all_shown_later : (p : ℕ) (from : Who) (ds : List Act) → AllShown w p from ds → AllShown v p from ds
  all_shown_later p from [] a = a
  all_shown_later p from (Keep r ∷ ds) a = all_shown_later p from ds a
  all_shown_later p from (Send to b ∷ ds) a = (a.0, shown_later p from to b a.1, all_shown_later p from ds a.2)
  all_shown_later p from (Tell r ∷ ds) a = (a.0, all_shown_later p from ds a.1)

  pub confirmed_later : (r : Role) (last : ℕ) (q : PeerProgress) → IsConfirmed w r last q → IsConfirmed v r last q
  confirmed_later r last q h = ⊎_elim (λ none. inl none) (λ some. inr (later.keeps (is_appended _) some.0, some.1)) h

  pub progress_later : {node last : ℕ} {l : ReplicationProgress} {r : Role} → v.role node ≡ Some r → ShowsProgress w node last l r → ShowsProgress v node last l r
  progress_later {last = last} {r = r} role s = record {
    role = role;
    floor = s.floor;
    reported = s.reported;
    member = s.member;
    peers = s.peers;
    confirmed = λ q m. confirmed_later r last q (s.confirmed q m);
  }

  -- a longer log does no harm to what is confirmed
  pub progress_longer : {node last more : ℕ} {l : ReplicationProgress} {r : Role} → v.role node ≡ Some r → last ≤ more → ShowsProgress w node last l r →
      ShowsProgress v node more l r
  progress_longer {last = last} {r = r} role le s = record {
    role = role;
    floor = s.floor;
    reported = s.reported;
    member = s.member;
    peers = s.peers;
    confirmed = λ q m. ⊎_elim (λ none. inl none) (λ some. inr (later.keeps (is_appended _) some.0, (let k = some.1 in omega arith))) (s.confirmed q m);
  }
