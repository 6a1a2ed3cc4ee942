-- What holds of configurations, from their proposal to their activation.
use Rattle.std.specs.Prelude.{◌≡◌, ℕ, ◌<◌, List, [], length, Option, None, Some, ◌⊎◌}
use Rattle.fabric_lemmas.specs.Members.{IsMember}
use Rattle.epoch_machine.specs.Majorities.{MajorityOf}
use Rattle.epoch_machine.specs.Settings.{Settings, Opens}
use Rattle.epoch_machine.specs.Plans.{Plan, Attempt}
use Rattle.epoch_machine.specs.Messages.{Ballot, DoneKept, Promised, Adopted, ballot_of, kept_by, promised_by, adopted_by}
use Rattle.epoch_machine.specs.Evidence.{PromisedBehind}

-- the base is the origin's log at a promise, from before it adopted in the epoch
pub record SoundOrigin (promises : List Promised) (p : Plan) : Type 0 where
  pub joined : ℕ
  pub sent : IsMember (promised_by p.origin p.epoch joined p.base) promises
  pub before : joined < p.epoch

-- a majority of prev's members promised, and no log of theirs is ahead of the origin's
pub record SoundMoved (promises : List Promised) (prev p : Plan) : Type 0 where
  pub from : SoundOrigin promises p
  pub most : MajorityOf prev.members (PromisedBehind promises p.epoch from.joined (length p.base))

-- what the base may be, as for Planned
abbrev pub SoundPlanned : Settings → List Promised → Option Plan → Plan → Type 0
SoundPlanned c promises None p = p.base ≡ []
SoundPlanned c promises (Some prev) p = (SoundOrigin promises p × Opens c p.epoch) ⊎ SoundMoved promises prev p

-- the attempt from which the configuration came
pub record PlanOf (c : Settings) (attempts : List Attempt) (promises : List Promised) (p : Plan) : Type 0 where
  pub attempt : Attempt
  pub entered : IsMember attempt attempts
  pub epoch_is : attempt.epoch ≡ p.epoch
  pub planned : SoundPlanned c promises attempt.prev p

-- an epoch has one configuration, with one base, and arbitrators vote for that one
pub record SoundPlans (c : Settings) (attempts : List Attempt) (promises : List Promised) (plans : List Plan) (ballots : List Ballot) : Type 0 where
  -- an epoch has one plan
  pub once : (p q : Plan) → IsMember p plans → IsMember q plans → p.epoch ≡ q.epoch → p ≡ q
  pub plan : (p : Plan) → IsMember p plans → PlanOf c attempts promises p
  pub ballot : (b : Ballot) → IsMember b ballots → IsMember b.plan plans

-- each phase comes after the one before, with its majority
pub record SoundStages (c : Settings) (plans : List Plan) (ballots : List Ballot) (syncs : List Plan) (adopted : List Adopted) (asked : List Plan)
    (kept : List DoneKept) (active : List Plan) : Type 0 where
  pub of_sync : (p : Plan) → IsMember p syncs → IsMember p plans × MajorityOf c.arbiters (λ a. IsMember (ballot_of p a) ballots)
  pub of_asked : (p : Plan) → IsMember p asked → IsMember p syncs × MajorityOf p.members (λ m. IsMember (adopted_by p.epoch m) adopted)
  pub of_active : (p : Plan) → IsMember p active → IsMember p asked × MajorityOf c.arbiters (λ a. IsMember (kept_by p.epoch a) kept)
