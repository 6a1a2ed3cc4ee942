-- The roles of a replica.
use Rattle.std.specs.Prelude.{ℕ, Bool, true, false, ◌==◌, if◌then◌else◌}
use Rattle.std.specs.List.{list_any}
use Rattle.ring_points.specs.declared.unit.Config.{Config}
use Rattle.replica_core.specs.declared.role.Role.{Role}
use Rattle.replica_core.specs.declared.role.Role.TheVariants.{IdleSecondary, ActiveSecondary, Primary}

-- a primary takes no writes once a greater epoch is promised
abbrev pub demoted : Role → Role
demoted Primary = ActiveSecondary
demoted role = role

abbrev pub is_idle : Role → Bool
is_idle IdleSecondary = true
is_idle _ = false

abbrev pub is_member : ℕ → Config → Bool
is_member node config = list_any (λ member. member == node) config.members

-- the role of a member
abbrev pub role_of : ℕ → Config → Role
role_of node config = if config.primary == node then Primary else ActiveSecondary
