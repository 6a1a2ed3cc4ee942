-- What a node has before a step.
use Rattle.std.specs.Prelude.{◌≡◌, ℕ, Bool, true, false, List, [], filter, map, Option, Some, None}
use Rattle.frame_hold.specs.Losses.{Had}
use Rattle.parent_hold.specs.declared.seen.Seen.{Seen}
use Rattle.parent_hold.specs.declared.seen.Seen.TheVariants as was
use Rattle.replica_core.specs.Replicas.{Replica}
use Rattle.replica_core.specs.declared.role.Role.{Role}
use Rattle.replica_core.specs.declared.role.Role.TheVariants as role
use Rattle.turn_members.specs.declared.member.Member.{Member}
use Rattle.turn_members.specs.declared.member.Member.TheVariants as member
use Rattle.unit_replica.specs.Tables.{ReplicaStates, replica_at}

abbrev pub is_primary_role : Role → Bool
is_primary_role role.Primary = true
is_primary_role _ = false

abbrev pub is_primary : Option Replica → Bool
is_primary None = false
is_primary (Some r) = is_primary_role r.role

abbrev pub leads_at : ReplicaStates → ℕ → Bool
leads_at states partition = is_primary (replica_at partition states)

-- the partitions of which a node with these replicas is primary
abbrev pub led_by : ReplicaStates → List ℕ
led_by states = filter (leads_at states) (map (λ e. e.0) states)

abbrev pub had_nothing : Had
had_nothing = record { owned = []; led = [] }

-- the points that it owns, and the partitions that it leads; an arbitrator has neither
abbrev pub had_of : Member → Had
had_of (member.Node core) = record { owned = core.value.state.ring.token.ranges; led = led_by core.value.state.above.states }
had_of (member.Arbiter actor arbiter) = had_nothing

-- it was seen, or memory was short
abbrev pub IsSeen : Had → Seen → Type 0
IsSeen had (was.Had before) = before ≡ had
IsSeen had was.Short = Unit {0}
IsSeen had was.Nobody = ⊥
