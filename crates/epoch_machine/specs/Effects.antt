-- What a deed leaves.
use Rattle.std.specs.Prelude.{ℕ, cond, nat_lt, List, [], ◌∷◌, ◌++◌, length, Option, None, Some}
use Rattle.epoch_machine.specs.Logs.{Entry}
use Rattle.epoch_machine.specs.Plans.{Plan}
use Rattle.epoch_machine.specs.Messages.{prepared_by, ballot_of, kept_by, promised_by, adopted_by, appended_by}
use Rattle.epoch_machine.specs.World.{TellsPromised, TellsAccepted, TellsPrimary, TellsCommitted, World, replaced}
use Rattle.epoch_machine.specs.Deeds.{Deed, Prepares, Votes, KeepsDone, LeavesPrepare, Proposes, Syncs, AsksDone, Activates, RaisesPromise, AnswersPromise, AdoptsNothing, AdoptsOwn, AdoptsCollected, Collects, SendsPiece, SaysAdopted, Appends, SaysAppended, Restarts, BecomesPrimary, Writes, SendsAppend, Commits}

-- the higher done configuration
abbrev pub higher : Option Plan → Plan → Option Plan
higher None p = Some p
higher (Some q) p = cond (nat_lt q.epoch p.epoch) (Some p) (Some q)

-- the node has adopted this log in the plan's epoch
abbrev pub adopting : World → ℕ → Plan → List Entry → World
adopting w node p log = record w { joined = replaced w.joined node p.epoch; log = replaced w.log node log }

-- the world after the deed
abbrev pub after : World → Deed → World
after w (Prepares a to e) = record w {
  prepared = replaced w.prepared a e;
  preparer = replaced w.preparer a to;
  answers = prepared_by a to e (w.done a) ∷ w.answers;
}
after w (Votes a p) = record w { ballots = ballot_of p a ∷ w.ballots }
after w (KeepsDone a p) = record w { done = replaced w.done a (higher (w.done a) p); kept = kept_by p.epoch a ∷ w.kept }
after w (LeavesPrepare t) = record w { attempts = t ∷ w.attempts }
after w (Proposes p) = record w { plans = p ∷ w.plans }
after w (Syncs p) = record w { syncs = p ∷ w.syncs }
after w (AsksDone p) = record w { asked = p ∷ w.asked }
after w (Activates p) = record w { active = p ∷ w.active }
after w (RaisesPromise node e) = record w {
  promised = replaced w.promised node e;
  collected = replaced w.collected node [];
  role = replaced w.role node None;
  told = TellsPromised node e ∷ w.told;
}
after w (AnswersPromise node) = record w { promises = promised_by node (w.promised node) (w.joined node) (w.log node) ∷ w.promises }
after w (AdoptsNothing node p) = adopting w node p []
after w (AdoptsOwn node p) = adopting w node p (w.log node)
after w (AdoptsCollected node p) = adopting w node p (w.collected node)
after w (Collects node p before entry) = record w { collected = replaced w.collected node (before ++ (entry ∷ [])) }
after w (SendsPiece node place p entry) = record w { pieces = record { epoch = p.epoch; place = place; entry = entry } ∷ w.pieces }
after w (SaysAdopted node) = record w { adopted = adopted_by (w.joined node) node ∷ w.adopted }
after w (Appends node d) = record w {
  log = replaced w.log node (w.log node ++ (d.entry ∷ []));
  told = TellsAccepted node d.epoch ∷ w.told;
}
after w (SaysAppended node) = record w { appended = appended_by node (w.joined node) (length (w.log node)) ∷ w.appended }
after w (Restarts node) = record w { collected = replaced w.collected node []; role = replaced w.role node None }
after w (BecomesPrimary node p) = record w {
  role = replaced w.role node (Some (record { plan = p; floor = length (w.log node); reported = 0 }));
  told = TellsPrimary node p.epoch (w.log node) ∷ w.told;
}
after w (Writes node r entry) = record w {
  log = replaced w.log node (w.log node ++ (entry ∷ []));
  written = replaced w.written r.plan.epoch (w.written r.plan.epoch ++ (entry ∷ []));
  told = TellsAccepted node r.plan.epoch ∷ w.told;
}
after w (SendsAppend node place r entry) = record w { appends = record { epoch = r.plan.epoch; place = place; entry = entry } ∷ w.appends }
after w (Commits node last r) = record w {
  role = replaced w.role node (Some (record r { reported = last }));
  told = TellsCommitted node r.plan.epoch last (w.log node) ∷ w.told;
}
