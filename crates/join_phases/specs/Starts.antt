-- How a process begins.
use Rattle.std.specs.Prelude.{ℕ, Bool, ◌&&◌, ◌==◌}

-- whether its node is the configured first one, and the number of this start of the node
pub record Start : Type 0 where
  pub first : Bool
  pub instance : ℕ

-- the ring is founded once, by the first start of the first node
abbrev pub may_found : Start → Bool
may_found s = s.first && s.instance == 1
