-- What holds of those who left the phase Prepare.
use Rattle.std.specs.Prelude.{◌≡◌, ℕ, ◌<◌, List, Some, ◌⊎◌}
use Rattle.fabric_lemmas.specs.Members.{IsMember}
use Rattle.epoch_machine.specs.Majorities.{MajorityOf}
use Rattle.epoch_machine.specs.Settings.{Settings}
use Rattle.epoch_machine.specs.Plans.{Plan, Attempt}
use Rattle.epoch_machine.specs.Messages.{Prepared, Ballot}
use Rattle.epoch_machine.specs.Evidence.{AnsweredTo}

-- the arbitrator will never vote for this epoch: it prepared a higher one, and has not voted
pub record IsBarred (prepared : ℕ → ℕ) (ballots : List Ballot) (epoch : ℕ) (arbiter : ℕ) : Type 0 where
  pub past : epoch < prepared arbiter
  pub none : (b : Ballot) → IsMember b ballots → b.arbiter ≡ arbiter → b.plan.epoch ≡ epoch → ⊥

-- who left Prepare has a majority, for an epoch that nobody else has
pub record SoundAttempts (c : Settings) (prepared : ℕ → ℕ) (answers : List Prepared) (ballots : List Ballot) (attempts : List Attempt) : Type 0 where
  -- epoch 0 is nobody's: who never adopted has it
  pub positive : (t : Attempt) → IsMember t attempts → 0 < t.epoch
  pub majority : (t : Attempt) → IsMember t attempts → MajorityOf c.arbiters (AnsweredTo answers t.who t.epoch t.prev)
  -- an epoch has one attempt
  pub once : (t u : Attempt) → IsMember t attempts → IsMember u attempts → t.epoch ≡ u.epoch → t ≡ u
  -- prev is of a lower epoch, or the attempt decides nothing
  pub prev_below : (t : Attempt) (p : Plan) → IsMember t attempts → t.prev ≡ Some p →
      (p.epoch < t.epoch) ⊎ MajorityOf c.arbiters (IsBarred prepared ballots t.epoch)
