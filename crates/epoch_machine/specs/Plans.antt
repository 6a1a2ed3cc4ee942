-- What managers decide, and what a primary is.
use Rattle.std.specs.Prelude.{ℕ, List, Option}
use Rattle.epoch_machine.specs.Logs.{Entry}
pub use Rattle.ring_points.specs.declared.who.Who.{Who}

-- A configuration, with the log that its epoch begins with: the base is what the members take from the origin. A Sync tells
-- origin and length of the base; nobody but the manager knows them before.
pub record Plan : Type 0 where
  pub epoch : ℕ
  pub primary : ℕ
  pub members : List ℕ
  pub origin : ℕ
  pub base : List Entry

-- A manager left the phase Prepare: a majority of arbitrators has answered, and prev is the highest configuration that an
-- answer carried as done.
pub record Attempt : Type 0 where
  pub who : Who
  pub epoch : ℕ
  pub prev : Option Plan

-- A primary since its activation: floor is its last lsn at that time, reported the last lsn that it reported committed
-- since, or 0.
pub record Role : Type 0 where
  pub plan : Plan
  pub floor : ℕ
  pub reported : ℕ
