-- When an arbitrator's register of a partition is that of the machine.
use Rattle.std.specs.Prelude.{◌≡◌, ℕ, [], ◌∷◌, ◌++◌, Option, None, Some}
use Rattle.fabric_lemmas.specs.Members.{IsMember}
use Rattle.ring_points.specs.declared.unit.Config.{Config}
use Rattle.ring_points.specs.declared.who.Who.{Who}
use Rattle.fabric_terms.specs.declared.record.Record.{Record}
use Rattle.fabric_terms.specs.declared.record.Record.TheVariants.{PreparedBy, VotedFor, DoneFor}
use Rattle.epoch_machine.specs.Settings.{Settings}
use Rattle.epoch_machine.specs.World.{World}
use Rattle.epoch_machine.specs.Invariant.{Invariant}
use Rattle.unit_rules.specs.declared.register.Preparation.{Preparation}
use Rattle.unit_rules.specs.Registers.{Register, Reply}
use Rattle.epoch_refinement.specs.Epochs.{IsEpoch}
use Rattle.epoch_refinement.specs.Facts.{of_arbiter, Later}
use Rattle.epoch_refinement.specs.Shown.{partition_of, IsDone, ShownVoted, Shown}

-- the register of this arbitrator, by its actor's number
pub record ShowsRegister (w : World) (p arbiter : ℕ) (r : Register) : Type 0 where
  pub nothing : r.prepared ≡ None → w.prepared arbiter ≡ 0
  pub prepared : (k : Preparation) → r.prepared ≡ Some k → IsEpoch (w.prepared arbiter) k.epoch × (w.preparer arbiter ≡ k.preparer)
  pub votes : (v : Config) → IsMember v r.votes → ShownVoted w p arbiter v
  pub done : IsDone p (w.done arbiter) r.done

-- the register with what was recorded
abbrev pub recorded : Register → Option Record → Register
recorded r (Some (PreparedBy p epoch preparer)) = record r { prepared = Some (record { epoch = epoch; preparer = preparer }) }
recorded r (Some (VotedFor config)) = record r { votes = r.votes ++ config ∷ [] }
recorded r (Some (DoneFor config)) = record r { done = Some config }
recorded r _ = r

-- what is recorded is of the partition
abbrev pub IsRecordOf : ℕ → Option Record → Type 0
IsRecordOf p (Some (PreparedBy q epoch preparer)) = q ≡ p
IsRecordOf p (Some (VotedFor config)) = config.partition ≡ p
IsRecordOf p (Some (DoneFor config)) = config.partition ≡ p
IsRecordOf p (Some r) = ⊥
IsRecordOf p None = Unit {0}

-- the machine has done what the arbitrator did, to whom it answers
pub record RefinedReply (c : Settings) (w : World) (p : ℕ) (me to : Who) (r : Register) (reply : Reply) : Type 0 where
  pub after : World
  pub inv : Invariant c after
  pub later : Later (of_arbiter me.actor) w after
  pub shows : ShowsRegister after p me.actor (recorded r reply.kept)
  pub kept : IsRecordOf p reply.kept
  pub of : partition_of reply.body ≡ p
  pub sent : Shown after p me to reply.body
  pub told : after.told ≡ w.told
