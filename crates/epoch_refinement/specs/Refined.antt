-- What a row of a partition is on the partition's machine.
use Rattle.std.specs.Prelude.{◌≡◌, ℕ, List, [], ◌∷◌}
use Rattle.ring_points.specs.declared.who.Who.{Who}
use Rattle.epoch_machine.specs.Settings.{Settings}
use Rattle.epoch_machine.specs.World.{World}
use Rattle.epoch_machine.specs.Invariant.{Invariant}
use Rattle.unit_rules.specs.Deeds.{Deed, Keep, Send, Tell, Acted}
use Rattle.unit_rules.specs.ReplicaStates.{ReplicaState}
use Rattle.epoch_refinement.specs.Facts.{of_node, Later}
use Rattle.epoch_refinement.specs.Shown.{partition_of, Shown}
use Rattle.epoch_refinement.specs.ReplicaStates.{ShowsReplicaState}
use Rattle.epoch_refinement.specs.Told.{tells_all, IsOf}

-- each frame that is sent is of the partition and shows what the machine has, and each report is of the partition
abbrev pub AllShown : World → ℕ → Who → List Deed → Type 0
AllShown w p from [] = Unit {0}
AllShown w p from (Keep r ∷ ds) = AllShown w p from ds
AllShown w p from (Send to b ∷ ds) = (partition_of b ≡ p) × Shown w p from to b × AllShown w p from ds
AllShown w p from (Tell r ∷ ds) = IsOf p r × AllShown w p from ds

-- the machine has done what the row of the replica at this node did
pub record Refined (c : Settings) (w : World) (p : ℕ) (me : Who) (a : Acted ReplicaState) : Type 0 where
  pub after : World
  pub inv : Invariant c after
  pub later : Later (of_node me.actor) w after
  pub shows : ShowsReplicaState after p me.actor a.state
  pub sent : AllShown after p me a.deeds
  pub told : after.told ≡ tells_all me.actor a.state.replica.log a.deeds w.told
