-- The invariant holds of the empty world, each deed keeps it, and so it holds after every valid history.
use Rattle.std.proofs.Common.{List, [], ◌∷◌, ◌⊎◌, refl, inl, inr, arith}
use Rattle.epoch_machine.specs.Settings.{Settings}
use Rattle.epoch_machine.specs.World.{World, empty_world}
use Rattle.epoch_machine.specs.Deeds.{Deed, Prepares, Votes, KeepsDone, LeavesPrepare, Proposes, Syncs, AsksDone, Activates, RaisesPromise, AnswersPromise, AdoptsNothing, AdoptsOwn, AdoptsCollected, Collects, SendsPiece, SaysAdopted, Appends, SaysAppended, Restarts, BecomesPrimary, Writes, SendsAppend, Commits}
use Rattle.epoch_machine.specs.Guards.{Can}
use Rattle.epoch_machine.specs.Effects.{after}
use Rattle.epoch_machine.specs.Histories.{world_after, Valid}
use Rattle.epoch_machine.specs.Invariant.{Invariant}
use Rattle.epoch_machine.proofs.Arbiters.{prepares_keeps, votes_keeps, keeps_done_keeps}
use Rattle.epoch_machine.proofs.Leaving.{leaves_prepare_keeps}
use Rattle.epoch_machine.proofs.Proposing.{proposes_keeps}
use Rattle.epoch_machine.proofs.Deciding.{syncs_keeps, asks_done_keeps, activates_keeps}
use Rattle.epoch_machine.proofs.Promising.{raises_promise_keeps, answers_promise_keeps}
use Rattle.epoch_machine.proofs.Adopting.{adopts_nothing_keeps, adopts_own_keeps, adopts_collected_keeps}
use Rattle.epoch_machine.proofs.Copying.{collects_keeps, sends_piece_keeps}
use Rattle.epoch_machine.proofs.Answering.{says_adopted_keeps, says_appended_keeps, restarts_keeps}
use Rattle.epoch_machine.proofs.Appending.{appends_keeps}
use Rattle.epoch_machine.proofs.Writing.{writes_keeps, sends_append_keeps}
use Rattle.epoch_machine.proofs.Leading.{becomes_primary_keeps}
use Rattle.epoch_machine.proofs.Committing.{commits_keeps}

pub empty_sound : (c : Settings) → Invariant c empty_world
empty_sound c = record {
  registers = record {
    below = λ g m. absurd m;
    preparer_is = λ g m. absurd m;
    once = λ g h m. absurd m;
    kept_done = λ k m. absurd m;
    carried = λ g k m. absurd m;
  };
  all_asked = record {
    done_asked = λ a p h. absurd (cc (h));
    answer_asked = λ g p m. absurd m;
    prev_asked = λ t p m. absurd m;
  };
  attempts = record {
    positive = λ t m. absurd m;
    majority = λ t m. absurd m;
    once = λ t u m. absurd m;
    prev_below = λ t p m. absurd m;
  };
  plans = record {
    once = λ p q m. absurd m;
    plan = λ p m. absurd m;
    ballot = λ b m. absurd m;
  };
  stages = record {
    of_sync = λ p m. absurd m;
    of_asked = λ p m. absurd m;
    of_active = λ p m. absurd m;
  };
  logs = record {
    below = λ n. omega arith;
    sound = λ n. inl (refl, refl);
    primary = λ p m. absurd m;
    untouched = λ e. inl refl;
    entries = λ e place x h. absurd h;
  };
  promises = record {
    below = λ r m. absurd m;
    joined_below = λ r m. absurd m;
    sound = λ r m. absurd m;
    frozen = λ r m. absurd m;
  };
  sayings = record {
    adopted_now = λ d m. absurd m;
    adopted_before = λ d r m. absurd m;
    appended_now = λ d m. absurd m;
    appended_before = λ d r m. absurd m;
  };
  copies = record {
    collection = λ n. inl refl;
    piece = λ d m. absurd m;
    append = λ d m. absurd m;
  };
  roles = λ n r h. absurd (cc (h));
  reports = record {
    below = λ n e. nothing;
    none_older = tt;
    primary = λ n e l m. absurd m;
    committed = λ n e k l m. absurd m;
  };
}
  where
    nothing : {A : Type 0} → ⊥ ⊎ ⊥ → A
    nothing (inl m) = absurd m
    nothing (inr m) = absurd m

pub deed_keeps : {c : Settings} {w : World} → Invariant c w → (deed : Deed) → Can c w deed → Invariant c (after w deed)
deed_keeps inv (Prepares a to e) can = prepares_keeps inv a to e can
deed_keeps inv (Votes a p) can = votes_keeps inv a p can
deed_keeps inv (KeepsDone a p) can = keeps_done_keeps inv a p can
deed_keeps inv (LeavesPrepare t) can = leaves_prepare_keeps inv t can
deed_keeps inv (Proposes p) can = proposes_keeps inv p can
deed_keeps inv (Syncs p) can = syncs_keeps inv p can
deed_keeps inv (AsksDone p) can = asks_done_keeps inv p can
deed_keeps inv (Activates p) can = activates_keeps inv p can
deed_keeps inv (RaisesPromise node e) can = raises_promise_keeps inv node e can
deed_keeps inv (AnswersPromise node) can = answers_promise_keeps inv node
deed_keeps inv (AdoptsNothing node p) can = adopts_nothing_keeps inv node p can
deed_keeps inv (AdoptsOwn node p) can = adopts_own_keeps inv node p can
deed_keeps inv (AdoptsCollected node p) can = adopts_collected_keeps inv node p can
deed_keeps inv (Collects node p before entry) can = collects_keeps inv node p before entry can
deed_keeps inv (SendsPiece node place p entry) can = sends_piece_keeps inv node place p entry can
deed_keeps inv (SaysAdopted node) can = says_adopted_keeps inv node can
deed_keeps inv (Appends node d) can = appends_keeps inv node d can
deed_keeps inv (SaysAppended node) can = says_appended_keeps inv node can
deed_keeps inv (Restarts node) can = restarts_keeps inv node
deed_keeps inv (BecomesPrimary node p) can = becomes_primary_keeps inv node p can
deed_keeps inv (Writes node r entry) can = writes_keeps inv node r entry can
deed_keeps inv (SendsAppend node place r entry) can = sends_append_keeps inv node place r entry can
deed_keeps inv (Commits node last r) can = commits_keeps inv node last r can

pub history_sound : (c : Settings) (deeds : List Deed) → Valid c deeds → Invariant c (world_after deeds)
history_sound c [] valid = empty_sound c
history_sound c (deed ∷ deeds) valid = deed_keeps (history_sound c deeds valid.1) deed valid.0
