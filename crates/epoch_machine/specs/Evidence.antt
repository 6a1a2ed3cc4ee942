-- What was answered, and what it is evidence of.
use Rattle.std.specs.Prelude.{◌≡◌, ℕ, ◌<◌, ◌≤◌, List, [], length, Option, None, Some, ◌⊎◌}
use Rattle.fabric_lemmas.specs.Members.{IsMember}
use Rattle.epoch_machine.specs.Majorities.{MajorityOf}
use Rattle.epoch_machine.specs.Logs.{Entry}
use Rattle.epoch_machine.specs.Settings.{Settings, Opens}
use Rattle.epoch_machine.specs.Plans.{Who, Plan}
use Rattle.epoch_machine.specs.Messages.{Prepared, Promised, Appended, prepared_by, promised_by, appended_by}

-- there is a configuration, of this epoch or a higher one
abbrev pub AtLeast : ℕ → Option Plan → Type 0
AtLeast e None = ⊥
AtLeast e (Some p) = e ≤ p.epoch

-- the first is no higher than the second
abbrev pub NotAbove : Option Plan → Option Plan → Type 0
NotAbove None prev = Unit {0}
NotAbove (Some d) prev = AtLeast d.epoch prev

-- the arbitrator answered Prepared, with a done configuration no higher than prev
pub record AnsweredTo (answers : List Prepared) (to : Who) (epoch : ℕ) (prev : Option Plan) (arbiter : ℕ) : Type 0 where
  pub done : Option Plan
  pub sent : IsMember (prepared_by arbiter to epoch done) answers
  pub not_above : NotAbove done prev

-- one of the answers carried prev
abbrev pub Carried : List Prepared → Who → ℕ → Option Plan → Type 0
Carried answers to epoch None = Unit {0}
Carried answers to epoch (Some p) = (arbiter : ℕ) × IsMember (prepared_by arbiter to epoch (Some p)) answers

-- a log that was joined in epoch a and has m entries is not ahead of one that was joined in b and has n
abbrev pub NotAhead : ℕ → ℕ → ℕ → ℕ → Type 0
NotAhead a m b n = (a < b) ⊎ ((a ≡ b) × (m ≤ n))

-- the node promised, with a log that is not ahead of the best one
pub record PromisedBehind (promises : List Promised) (epoch best_epoch best_length : ℕ) (node : ℕ) : Type 0 where
  pub joined : ℕ
  pub log : List Entry
  pub sent : IsMember (promised_by node epoch joined log) promises
  pub behind : NotAhead joined (length log) best_epoch best_length

-- the base is the log of the origin at a promise
pub record FromOrigin (promises : List Promised) (p : Plan) : Type 0 where
  pub joined : ℕ
  pub sent : IsMember (promised_by p.origin p.epoch joined p.base) promises

-- a majority of the members of prev promised, and none of these logs is ahead of the origin's
pub record Moved (promises : List Promised) (prev p : Plan) : Type 0 where
  pub from : FromOrigin promises p
  pub most : MajorityOf prev.members (PromisedBehind promises p.epoch from.joined (length p.base))

-- what the base may be: nothing, for create; any origin's, where the epoch opens a data loss number, for lose; else the
-- greatest log of a majority of prev's members, for swap and heal
abbrev pub Planned : Settings → List Promised → Option Plan → Plan → Type 0
Planned c promises None p = p.base ≡ []
Planned c promises (Some prev) p = (FromOrigin promises p × Opens c p.epoch) ⊎ Moved promises prev p

-- the member said that it has so many entries, or more
pub record HasAppended (appended : List Appended) (epoch last : ℕ) (node : ℕ) : Type 0 where
  pub own : ℕ
  pub sent : IsMember (appended_by node epoch own) appended
  pub enough : last ≤ own
