-- What holds of logs and of promises.
use Rattle.std.specs.Prelude.{◌≡◌, ℕ, ◌<◌, ◌≤◌, List, [], ◌⊎◌}
use Rattle.fabric_lemmas.specs.Members.{IsMember}
use Rattle.epoch_machine.specs.Epochs.{number_of}
use Rattle.epoch_machine.specs.Logs.{Entry, IsAt, Prefix}
use Rattle.epoch_machine.specs.Plans.{Plan}
use Rattle.epoch_machine.specs.Messages.{Promised}
use Rattle.epoch_machine.specs.World.{whole}

-- a log of a replica that joined an epoch: the base, and a part of what the primary wrote
pub record LogOf (syncs : List Plan) (written : ℕ → List Entry) (joined : ℕ) (log : List Entry) : Type 0 where
  pub plan : Plan
  pub synced : IsMember plan syncs
  pub epoch_is : plan.epoch ≡ joined
  pub begins : Prefix plan.base log
  pub within : Prefix log (whole written plan)

-- a replica that never adopted has no log
abbrev pub SoundLog : List Plan → (ℕ → List Entry) → ℕ → List Entry → Type 0
SoundLog syncs written joined log = ((joined ≡ 0) × (log ≡ [])) ⊎ LogOf syncs written joined log

-- the primary of the epoch joined it, before it wrote
pub record WrittenBy (active : List Plan) (joined : ℕ → ℕ) (epoch : ℕ) : Type 0 where
  pub plan : Plan
  pub activated : IsMember plan active
  pub epoch_is : plan.epoch ≡ epoch
  pub reached : epoch ≤ joined plan.primary

-- all logs of an epoch begin with one base, and are fronts of what its primary has
pub record SoundLogs (promised joined : ℕ → ℕ) (log : ℕ → List Entry) (written : ℕ → List Entry) (syncs active : List Plan) : Type 0 where
  pub below : (n : ℕ) → joined n ≤ promised n
  pub sound : (n : ℕ) → SoundLog syncs written (joined n) (log n)
  -- the primary has all that was written in its epoch
  pub primary : (p : Plan) → IsMember p syncs → joined p.primary ≡ p.epoch → log p.primary ≡ whole written p
  pub untouched : (e : ℕ) → (written e ≡ []) ⊎ WrittenBy active joined e
  -- beyond the base, entries are of the epoch itself
  pub entries : (e place : ℕ) (x : Entry) → IsAt (written e) place x → number_of x.epoch ≡ e

-- what a promise showed of the log
pub record SoundPromises (promised joined : ℕ → ℕ) (log : ℕ → List Entry) (written : ℕ → List Entry) (syncs : List Plan) (promises : List Promised) :
    Type 0 where
  pub below : (r : Promised) → IsMember r promises → r.epoch ≤ promised r.node
  pub joined_below : (r : Promised) → IsMember r promises → r.joined ≤ r.epoch
  pub sound : (r : Promised) → IsMember r promises → SoundLog syncs written r.joined r.log
  -- a log stays as it is from the promise on until the replica adopts, or promises more
  pub frozen : (r : Promised) → IsMember r promises → promised r.node ≡ r.epoch → joined r.node < r.epoch → log r.node ≡ r.log
