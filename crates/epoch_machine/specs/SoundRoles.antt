-- What holds of primaries.
use Rattle.std.specs.Prelude.{◌≡◌, ℕ, ◌<◌, ◌≤◌, List, length, Option, Some, ◌⊎◌}
use Rattle.fabric_lemmas.specs.Members.{IsMember}
use Rattle.epoch_machine.specs.Logs.{Entry}
use Rattle.epoch_machine.specs.Plans.{Plan, Role}
use Rattle.epoch_machine.specs.World.{Report, TellsCommitted}

-- the primary of its epoch, which has adopted in it and promised no higher one
pub record SoundRole (active : List Plan) (told : List Report) (node promised joined : ℕ) (log : List Entry) (r : Role) : Type 0 where
  pub activated : IsMember r.plan active
  pub primary : r.plan.primary ≡ node
  pub promised_is : promised ≡ r.plan.epoch
  pub joined_is : joined ≡ r.plan.epoch
  pub base : length r.plan.base ≤ r.floor
  pub floor : r.floor ≤ length log
  pub reported : (r.reported ≡ 0) ⊎ (r.floor < r.reported)
  pub within : r.reported ≤ length log
  -- what was reported committed in this epoch before is no more than this
  pub covers : (x e k : ℕ) (l : List Entry) → IsMember (TellsCommitted x e k l) told → e ≡ r.plan.epoch → (k ≤ r.floor) ⊎ (k ≤ r.reported)

-- of each primary
abbrev pub SoundRoles : (promised joined : ℕ → ℕ) → (log : ℕ → List Entry) → List Plan → (ℕ → Option Role) → List Report → Type 0
SoundRoles promised joined log active role told =
    (n : ℕ) (r : Role) → role n ≡ Some r → SoundRole active told n (promised n) (joined n) (log n) r
