-- What a task is made of.
use Rattle.std.specs.Prelude.{ℕ, ◌≤◌}
use Rattle.ring_points.specs.Limits.{most_arbiters, most_members}
use Rattle.unit_rules.specs.declared.reconfig.Kind.{Kind}
use Rattle.unit_rules.specs.declared.reconfig.Kind.TheVariants.{Create, Swap, Heal, Lose}
use Rattle.unit_rules.specs.declared.reconfig.Task.{Task}

-- how many replicas are to be placed
abbrev pub replicas_of : Kind → ℕ
replicas_of (Create count) = count
replicas_of (Swap node) = 0
replicas_of (Heal count) = count
replicas_of (Lose node) = 0

-- there are no more arbitrators than a configuration may name, and no more replicas are to be placed than one has
pub record IsTask (t : Task) : Type 0 where
  pub arbitrators : t.arbitrators ≤ most_arbiters
  pub replicas : replicas_of t.kind ≤ most_members
