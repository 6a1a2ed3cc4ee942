-- What arbitrators and replicas send. A Promised carries the log itself, where a frame shows its length and epoch.
use Rattle.std.specs.Prelude.{ℕ, List, Option}
use Rattle.epoch_machine.specs.Logs.{Entry}
use Rattle.epoch_machine.specs.Plans.{Plan, Who}

-- an arbitrator's answer to a Prepare, with its done configuration
pub record Prepared : Type 0 where
  pub arbiter : ℕ
  pub to : Who
  pub epoch : ℕ
  pub done : Option Plan

-- an arbitrator's vote for a configuration
pub record Ballot : Type 0 where
  pub arbiter : ℕ
  pub plan : Plan

-- an arbitrator keeps the configuration of this epoch as done, or a later one
pub record DoneKept : Type 0 where
  pub arbiter : ℕ
  pub epoch : ℕ

-- a replica's answer to a Promise: its log, and the epoch in which it adopted that
pub record Promised : Type 0 where
  pub node : ℕ
  pub epoch : ℕ
  pub joined : ℕ
  pub log : List Entry

-- an entry of the origin's log for those that adopt it, places from 0
pub record Piece : Type 0 where
  pub epoch : ℕ
  pub place : ℕ
  pub entry : Entry

-- a replica has adopted in the epoch
pub record Adopted : Type 0 where
  pub node : ℕ
  pub epoch : ℕ

-- an entry of the primary's log for the members, places from 0
pub record Append : Type 0 where
  pub epoch : ℕ
  pub place : ℕ
  pub entry : Entry

-- a replica has so many entries in the epoch
pub record Appended : Type 0 where
  pub node : ℕ
  pub epoch : ℕ
  pub last : ℕ

-- the arbitrator's Prepared
abbrev pub prepared_by : ℕ → Who → ℕ → Option Plan → Prepared
prepared_by arbiter to epoch done = record { arbiter = arbiter; to = to; epoch = epoch; done = done }

-- the arbitrator's vote
abbrev pub ballot_of : Plan → ℕ → Ballot
ballot_of p arbiter = record { arbiter = arbiter; plan = p }

-- the arbitrator's DoneKept
abbrev pub kept_by : ℕ → ℕ → DoneKept
kept_by epoch arbiter = record { arbiter = arbiter; epoch = epoch }

-- the replica's Promised
abbrev pub promised_by : ℕ → ℕ → ℕ → List Entry → Promised
promised_by node epoch joined log = record { node = node; epoch = epoch; joined = joined; log = log }

-- the replica's Adopted
abbrev pub adopted_by : ℕ → ℕ → Adopted
adopted_by epoch node = record { node = node; epoch = epoch }

-- the replica's Appended
abbrev pub appended_by : ℕ → ℕ → ℕ → Appended
appended_by node epoch last = record { node = node; epoch = epoch; last = last }
