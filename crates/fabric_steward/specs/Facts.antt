-- What a node knows that the policy asks of it.
use Rattle.std.specs.Prelude.{ℕ, Bool, Option}
use Rattle.ring_points.specs.declared.unit.Config.{Config}
use Rattle.ring_points.specs.declared.who.Who.{Who}

pub record Facts : Type 0 where
  -- it routes
  pub routes : Bool
  -- it routes and holds point 0 at a reading
  pub manages : ℕ → Bool
  -- a node is up at a reading
  pub is_up : (node reading : ℕ) → Bool
  -- the instance of a node that was heard last, if it was heard since a reading
  pub heard : (node since : ℕ) → Option Who
  -- the configuration of a partition
  pub config_of : ℕ → Option Config
  -- a reconfiguration of a partition is under way here
  pub is_changing : ℕ → Bool
