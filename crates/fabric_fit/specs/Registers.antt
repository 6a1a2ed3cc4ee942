-- Registers whose epochs and configurations a frame can carry.
use Rattle.std.specs.Prelude.{ℕ, Bool, ◌&&◌, ◌==◌, All, IsTrue}
use Rattle.fabric_terms.specs.Fields.{is_config, is_done, is_epoch}
use Rattle.ring_points.specs.declared.unit.Config.{Config}
use Rattle.unit_rules.specs.Registers.{Register, Registers, prepared_epoch}

-- a vote that is kept of the partition
abbrev pub is_vote : ℕ → Config → Bool
is_vote partition vote = is_config vote && vote.partition == partition

-- the register of a partition
pub record RegisterInRange (e : ℕ × Register) : Type 0 where
  pub prepared : IsTrue (is_epoch (prepared_epoch e.1.prepared))
  pub votes : All (λ vote. IsTrue (is_vote e.0 vote)) e.1.votes
  pub done : IsTrue (is_done e.1.done)

abbrev pub RegistersInRange : Registers → Type 0
RegistersInRange rs = All RegisterInRange rs
