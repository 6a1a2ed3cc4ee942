-- What holds of reports.
use Rattle.std.specs.Prelude.{◌≡◌, ℕ, ◌≤◌, List, [], ◌∷◌, length, ◌⊎◌}
use Rattle.fabric_lemmas.specs.Members.{IsMember}
use Rattle.epoch_machine.specs.Majorities.{MajorityOf}
use Rattle.epoch_machine.specs.Logs.{Entry, Prefix}
use Rattle.epoch_machine.specs.Plans.{Plan}
use Rattle.epoch_machine.specs.Messages.{Appended}
use Rattle.epoch_machine.specs.World.{Report, TellsPromised, TellsAccepted, TellsPrimary, TellsCommitted, whole}
use Rattle.epoch_machine.specs.Evidence.{HasAppended}

-- who reported itself primary is that of an activated configuration, and has its base
pub record PrimaryTold (active : List Plan) (node epoch : ℕ) (log : List Entry) : Type 0 where
  pub plan : Plan
  pub activated : IsMember plan active
  pub primary : plan.primary ≡ node
  pub epoch_is : plan.epoch ≡ epoch
  pub begins : Prefix plan.base log

-- what was reported committed, a majority of the members of the activated configuration has
pub record CommittedTold (active : List Plan) (written : ℕ → List Entry) (appended : List Appended) (node epoch last : ℕ) (log : List Entry) :
    Type 0 where
  pub plan : Plan
  pub activated : IsMember plan active
  pub primary : plan.primary ≡ node
  pub epoch_is : plan.epoch ≡ epoch
  pub enough : last ≤ length log
  pub within : Prefix log (whole written plan)
  pub most : MajorityOf plan.members (HasAppended appended plan.epoch last)

-- the report is no Accepted below one of the earlier reports
abbrev pub NotOlder : Report → List Report → Type 0
NotOlder (TellsAccepted n e) earlier = (f : ℕ) → IsMember (TellsPromised n f) earlier ⊎ IsMember (TellsAccepted n f) earlier → f ≤ e
NotOlder report earlier = Unit {0}

-- so of each report, latest first
abbrev pub NoneOlder : List Report → Type 0
NoneOlder [] = Unit {0}
NoneOlder (report ∷ earlier) = NotOlder report earlier × NoneOlder earlier

-- each report has its evidence
pub record SoundReports (promised : ℕ → ℕ) (active : List Plan) (written : ℕ → List Entry) (appended : List Appended) (told : List Report) :
    Type 0 where
  pub below : (n e : ℕ) → IsMember (TellsPromised n e) told ⊎ IsMember (TellsAccepted n e) told → e ≤ promised n
  pub none_older : NoneOlder told
  pub primary : (n e : ℕ) (l : List Entry) → IsMember (TellsPrimary n e l) told → PrimaryTold active n e l
  pub committed : (n e k : ℕ) (l : List Entry) → IsMember (TellsCommitted n e k l) told → CommittedTold active written appended n e k l
