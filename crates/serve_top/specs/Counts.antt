-- How many links and replicas are in each state, by the place of the state in the order of the page, and the numbers of
-- partitions.
use Rattle.std.specs.Prelude.{ℕ, List, [], ◌∷◌, ◌==◌, fold, replicate, if◌then◌else◌}
use Rattle.std.specs.List.{list_any}
use Rattle.replica_core.specs.declared.role.Role.{Role}
use Rattle.replica_core.specs.declared.role.Role.TheVariants as role
use Rattle.ring_rules.specs.declared.link.LinkState.{LinkState}
use Rattle.ring_rules.specs.declared.link.LinkState.TheVariants as link
use Rattle.status_page.specs.Counters.{counted_at}
use Rattle.status_page.specs.declared.counts.PartitionGauge.{PartitionGauge}
use Rattle.status_page.specs.declared.state.ChangeFact.{ChangeFact}
use Rattle.status_page.specs.declared.state.LinkFact.{LinkFact}
use Rattle.status_page.specs.declared.state.ReplicaFact.{ReplicaFact}

abbrev pub state_place : LinkState → ℕ
state_place link.Hello = 0
state_place link.Offered = 1
state_place link.Bound = 2
state_place link.Parting = 3
state_place link.Accused = 4
state_place link.Discharged = 5
state_place link.Heir = 6

abbrev pub role_place : Role → ℕ
role_place role.None = 0
role_place role.IdleSecondary = 1
role_place role.ActiveSecondary = 2
role_place role.Primary = 3

abbrev pub with_link : List ℕ → LinkFact → List ℕ
with_link counts l = counted_at counts (state_place l.state)

abbrev pub counts_of_links : List LinkFact → List ℕ
counts_of_links links = fold with_link (replicate 7 0) links

abbrev pub with_role : List ℕ → ReplicaFact → List ℕ
with_role counts r = counted_at counts (role_place r.role)

abbrev pub counts_of_roles : List ReplicaFact → List ℕ
counts_of_roles replicas = fold with_role (replicate 4 0) replicas

-- the time of a reconfiguration, as a number of its partition
abbrev pub change_gauge : ChangeFact → PartitionGauge
change_gauge fact = record { partition = fact.partition; number = fact.ticks }

-- the entries of a declared partition's own log
abbrev pub entry_gauge : List ℕ → ReplicaFact → List PartitionGauge
entry_gauge declared fact =
    if list_any (λ p. p == fact.partition) declared then record { partition = fact.partition; number = fact.last } ∷ []
    else []
