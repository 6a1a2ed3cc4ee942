-- What runs above the ring at a node, as its code has it, and which of its rows come before the ring's own.
use Rattle.std.specs.Prelude.{ℕ, ◌+◌, ◌*◌, Bool, true, false, List, map, length, is_some, if◌then◌else◌}
use Rattle.fabric_terms.specs.declared.config.FabricConfig.{FabricConfig}
use Rattle.fabric_terms.specs.declared.message.Body.{Body}
use Rattle.fabric_terms.specs.declared.message.Body.TheVariants as body
use Rattle.ring_points.specs.Limits.{most_arbiters}
use Rattle.ring_rules.specs.declared.input.Input.{Input}
use Rattle.ring_rules.specs.declared.input.Input.TheVariants as input
use Rattle.ring_rules.specs.Rings.{Ring, Settings}
use Rattle.reconfig_phases.specs.Answers.{answered_unit}
use Rattle.unit_replica.specs.Limits.{most_peers}
use Rattle.unit_rules.specs.Deeds.{Acted, still}
use Rattle.unit_rules.specs.Loads.{Site}
use Rattle.unit_rules.specs.Steps.{Failover, failover_step}

-- the fault domains of the configured nodes, the manager and the replicas
pub record Part : Type 0 where
  pub domains : List (ℕ × ℕ)
  pub state : Failover

abbrev pub domains_of : FabricConfig → List (ℕ × ℕ)
domains_of c = map (λ n. (n.node, n.domain)) c.nodes

-- what its rows read of a configuration
abbrev pub site_at : Settings → Part → Site
site_at c p = record { ring = c; domains = p.domains }

-- Answers to the manager and firings read what the ring's own row has noted, and need no memory. All other rows read
-- nothing that it changes, and may need some: so they come first, and want of memory leaves the ring as it was.
abbrev pub is_later : Input → Bool
is_later input.Fire = true
is_later (input.Frame m) = is_some (answered_unit m.body)
is_later (input.Do d) = false

-- the frames to a replica
abbrev pub is_to_replica : Body → Bool
is_to_replica (body.Promise partition epoch) = true
is_to_replica (body.Sync partition epoch origin last) = true
is_to_replica (body.Fetch partition epoch lsn) = true
is_to_replica (body.Piece partition epoch lsn entry_epoch text) = true
is_to_replica (body.Activate config) = true
is_to_replica (body.Append partition epoch lsn text) = true
is_to_replica (body.Appended partition epoch last) = true
is_to_replica _ = false

-- of the inputs that come first, those that may have a row above the ring
abbrev pub is_above : Input → Bool
is_above (input.Frame m) = is_to_replica m.body
is_above _ = true

abbrev pub first_row : Site → ℕ → Ring → Failover → Input → Acted Failover
first_row c now r s i = if is_later i then still s else failover_step c now r s i

abbrev pub later_row : Site → ℕ → Ring → Failover → Input → Acted Failover
later_row c now r s i = if is_later i then failover_step c now r s i else still s

-- the most frames that a firing sends: a reconfiguration asks each arbitrator, and a replica each other member
abbrev pub most_fired : Failover → ℕ
most_fired s = most_arbiters * length s.managed.reconfigs + most_peers * length s.states
