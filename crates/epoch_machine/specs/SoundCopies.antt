-- What holds of entries on their way to another replica.
use Rattle.std.specs.Prelude.{◌≡◌, ℕ, ◌<◌, List, [], length, ◌⊎◌}
use Rattle.fabric_lemmas.specs.Members.{IsMember}
use Rattle.epoch_machine.specs.Logs.{Entry, IsAt, Prefix}
use Rattle.epoch_machine.specs.Plans.{Plan}
use Rattle.epoch_machine.specs.Messages.{Piece, Append}
use Rattle.epoch_machine.specs.World.{whole}

-- what a replica has collected begins the base of the epoch that it promised
pub record CollectedFrom (syncs : List Plan) (promised : ℕ) (collected : List Entry) : Type 0 where
  pub plan : Plan
  pub synced : IsMember plan syncs
  pub epoch_is : plan.epoch ≡ promised
  pub begins : Prefix collected plan.base

-- a Piece carries an entry of the base, or one of beyond it, which nobody takes
pub record SoundPiece (syncs : List Plan) (d : Piece) : Type 0 where
  pub plan : Plan
  pub synced : IsMember plan syncs
  pub epoch_is : plan.epoch ≡ d.epoch
  pub is : d.place < length plan.base → IsAt plan.base d.place d.entry

-- an Append carries an entry that the primary of its epoch has
pub record SoundAppend (syncs : List Plan) (written : ℕ → List Entry) (d : Append) : Type 0 where
  pub plan : Plan
  pub synced : IsMember plan syncs
  pub epoch_is : plan.epoch ≡ d.epoch
  pub is : IsAt (whole written plan) d.place d.entry

-- entries under way are those of a base, or what the primary has
pub record SoundCopies (promised : ℕ → ℕ) (collected : ℕ → List Entry) (written : ℕ → List Entry) (syncs : List Plan) (pieces : List Piece)
    (appends : List Append) : Type 0 where
  pub collection : (n : ℕ) → (collected n ≡ []) ⊎ CollectedFrom syncs (promised n) (collected n)
  pub piece : (d : Piece) → IsMember d pieces → SoundPiece syncs d
  pub append : (d : Append) → IsMember d appends → SoundAppend syncs written d
