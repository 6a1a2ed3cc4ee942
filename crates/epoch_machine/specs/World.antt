-- What arbitrators and replicas of one partition keep, and all that was ever sent and told. Epochs are numbers.
use Rattle.std.specs.Prelude.{ℕ, cond, ◌==◌, List, [], ◌++◌, Option, None}
use Rattle.epoch_machine.specs.Logs.{Entry}
use Rattle.epoch_machine.specs.Plans.{Who, Plan, Attempt, Role}
use Rattle.epoch_machine.specs.Messages.{Prepared, Ballot, DoneKept, Promised, Piece, Adopted, Append, Appended}

-- what nodes report; log is that of the node at the report
pub data Report : Type 0 where
  TellsPromised : (node epoch : ℕ) → Report
  TellsAccepted : (node epoch : ℕ) → Report
  TellsPrimary : (node epoch : ℕ) → (log : List Entry) → Report
  TellsCommitted : (node epoch last : ℕ) → (log : List Entry) → Report

-- Each thing has a field of its own, by the number of who keeps it; all lists have the latest first.
pub record World : Type 0 where
  -- an arbitrator: the epoch that it prepared last, for whom, and the configuration that it keeps as done
  pub prepared : ℕ → ℕ
  pub preparer : ℕ → Who
  pub done : ℕ → Option Plan
  -- a replica: its promise, the epoch of its log, and its log
  pub promised : ℕ → ℕ
  pub joined : ℕ → ℕ
  pub log : ℕ → List Entry
  -- a replica, until it restarts: what it has collected, and its role
  pub collected : ℕ → List Entry
  pub role : ℕ → Option Role
  -- what the primary of an epoch wrote beyond its base; nobody is told it
  pub written : ℕ → List Entry
  -- the way of a configuration: Prepare answered and left, proposed, voted for, decided (a Sync may be sent), asked for as
  -- done, kept as done, activated
  pub answers : List Prepared
  pub attempts : List Attempt
  pub plans : List Plan
  pub ballots : List Ballot
  pub syncs : List Plan
  pub asked : List Plan
  pub kept : List DoneKept
  pub active : List Plan
  -- what replicas sent
  pub promises : List Promised
  pub pieces : List Piece
  pub adopted : List Adopted
  pub appends : List Append
  pub appended : List Appended
  -- what nodes reported
  pub told : List Report

-- nothing was prepared, promised, written or sent
abbrev pub empty_world : World
empty_world = record {
  prepared = λ a. 0;
  preparer = λ a. record { actor = 0; instance = 0 };
  done = λ a. None;
  promised = λ n. 0;
  joined = λ n. 0;
  log = λ n. [];
  collected = λ n. [];
  role = λ n. None;
  written = λ e. [];
  answers = [];
  attempts = [];
  plans = [];
  ballots = [];
  syncs = [];
  asked = [];
  kept = [];
  active = [];
  promises = [];
  pieces = [];
  adopted = [];
  appends = [];
  appended = [];
  told = [];
}

-- the function with another value at one number
abbrev pub replaced : {A : Type 0} → (ℕ → A) → ℕ → A → ℕ → A
replaced f m value n = cond (m == n) value (f n)

-- all that the primary of the plan's epoch has: the base, and what it wrote
abbrev pub whole : (ℕ → List Entry) → Plan → List Entry
whole written p = p.base ++ written p.epoch
