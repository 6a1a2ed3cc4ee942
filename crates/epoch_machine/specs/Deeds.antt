-- What can happen, one deed at a time. Nothing but these changes the world.
use Rattle.std.specs.Prelude.{ℕ, List}
use Rattle.epoch_machine.specs.Logs.{Entry}
use Rattle.epoch_machine.specs.Plans.{Who, Plan, Attempt, Role}
use Rattle.epoch_machine.specs.Messages.{Append}

-- a deed, by who does it and about what
pub data Deed : Type 0 where
  -- an arbitrator answers: a Prepare, a vote for a configuration, a configuration that is to be kept as done
  Prepares : (arbiter : ℕ) → (to : Who) → (epoch : ℕ) → Deed
  Votes : (arbiter : ℕ) → Plan → Deed
  KeepsDone : (arbiter : ℕ) → Plan → Deed
  -- A manager goes on: from the phase Prepare; from the choice of the origin, with the configuration that it proposes; from
  -- the vote, so that it may send Syncs; from the copying of the log, so that it asks arbitrators to keep the configuration
  -- as done; and from there, so that it activates the members.
  LeavesPrepare : Attempt → Deed
  Proposes : Plan → Deed
  Syncs : Plan → Deed
  AsksDone : Plan → Deed
  Activates : Plan → Deed
  -- a replica raises its promise, and answers with what it promised
  RaisesPromise : (node epoch : ℕ) → Deed
  AnswersPromise : (node : ℕ) → Deed
  -- a replica adopts as the log of the epoch: the empty log, its own as the origin, or what it has collected
  AdoptsNothing : (node : ℕ) → Plan → Deed
  AdoptsOwn : (node : ℕ) → Plan → Deed
  AdoptsCollected : (node : ℕ) → Plan → Deed
  -- a replica collects an entry, after what it collected before or anew; the origin sends one
  Collects : (node : ℕ) → Plan → (before : List Entry) → Entry → Deed
  SendsPiece : (node place : ℕ) → Plan → Entry → Deed
  -- a replica says that it has adopted; takes an entry of the primary; says how many it has; begins again
  SaysAdopted : (node : ℕ) → Deed
  Appends : (node : ℕ) → Append → Deed
  SaysAppended : (node : ℕ) → Deed
  Restarts : (node : ℕ) → Deed
  -- a primary begins, accepts a write, sends an entry, and reports entries committed
  BecomesPrimary : (node : ℕ) → Plan → Deed
  Writes : (node : ℕ) → Role → Entry → Deed
  SendsAppend : (node place : ℕ) → Role → Entry → Deed
  Commits : (node last : ℕ) → Role → Deed
