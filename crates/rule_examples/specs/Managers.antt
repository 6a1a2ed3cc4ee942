-- The manager: what it refuses, which epochs it uses, what it remembers, and whom it places.
use Rattle.std.specs.Prelude.{◌≡◌, ℕ, true, false, List, [], ◌∷◌, Some, None}
use Rattle.ring_points.specs.declared.unit.Epoch.{Epoch}
use Rattle.ring_points.specs.declared.who.Who.{Who}
use Rattle.ring_points.specs.Ranges.{whole_ring}
use Rattle.ring_points.specs.Whos.{node_instance}
use Rattle.fabric_terms.specs.declared.message.Body.TheVariants as body
use Rattle.fabric_terms.specs.declared.report.Report.TheVariants as report
use Rattle.fabric_terms.specs.declared.report.Reason.TheVariants as reason
use Rattle.fabric_terms.specs.declared.report.Verb.TheVariants as verb
use Rattle.failover_units.specs.declared.unit.KnownUnit.{KnownUnit}
use Rattle.join_phases.specs.Phases.{routing}
use Rattle.replica_core.specs.declared.role.Role.TheVariants.{None as NoRole}
use Rattle.ring_route.specs.declared.known.Known.{Known}
use Rattle.ring_rules.specs.Rings.{Ring, no_slots}
use Rattle.ring_rules.specs.Up.{is_up, long_ago}
use Rattle.token_core.specs.Tokens.{first_token}
use Rattle.fabric_terms.specs.declared.record.Record.TheVariants as kept
use Rattle.unit_rules.specs.declared.reconfig.Kind.TheVariants.{Create, Swap, Heal, Lose}
use Rattle.unit_rules.specs.Deeds.{Send, Tell, acted, refuse}
use Rattle.unit_rules.specs.Loads.{Site, loads}
use Rattle.unit_rules.specs.Manager.{Managed, task, reconfig_commanded, manager_answered}
use Rattle.unit_rules.specs.Polls.{poll_of}
use Rattle.unit_rules.specs.Reconfigs.{Reconfig, Phase4}
use Rattle.unit_rules.specs.Starts.{states_begun}
use Rattle.unit_rules.specs.Steps.{fired, failover_begun, manage}
use Rattle.unit_rules.specs.Transitions.{begun}
use Rattle.rule_examples.specs.Values.{epoch, e1, e2, state, peer, leading, config}

abbrev pub nothing_managed : Managed
nothing_managed = record { units = []; reconfigs = [] }

-- partition 1 has this configuration, which is active
abbrev pub known : KnownUnit
known = record { config = Some (config e1 1 (1 ∷ [])); highest = e1 }

-- partition 1 has no known configuration, and this is the highest epoch that was seen
abbrev pub seen : Epoch → KnownUnit
seen highest = record { config = None; highest = highest }

-- partition 1 is being created, with one arbitrator
abbrev pub creating : Reconfig
creating = begun (task 1 1 e1 (Create 1))

pub record Refusals : Type 0 where
  -- who does not hold ring point 0 is no manager, whatever else stands
  pub no_manager :
      reconfig_commanded false 1 1 (Create 1) (record { units = (1, known) ∷ []; reconfigs = (1, creating) ∷ [] })
      ≡ refuse verb.Create reason.NotManager (record { units = (1, known) ∷ []; reconfigs = (1, creating) ∷ [] })
  -- that a reconfiguration stands is said before that the partition exists
  pub busy :
      reconfig_commanded true 1 1 (Create 1) (record { units = (1, known) ∷ []; reconfigs = (1, creating) ∷ [] })
      ≡ refuse verb.Create reason.Busy (record { units = (1, known) ∷ []; reconfigs = (1, creating) ∷ [] })
  pub exists :
      reconfig_commanded true 1 1 (Create 1) (record { units = (1, known) ∷ []; reconfigs = [] })
      ≡ refuse verb.Create reason.Exists (record { units = (1, known) ∷ []; reconfigs = [] })
  -- numbers of epochs end
  pub past_end :
      reconfig_commanded true 1 1 (Heal 1) (record { units = (1, seen (epoch 0 4294967295)) ∷ []; reconfigs = [] })
      ≡ refuse verb.Heal reason.Counters (record { units = (1, seen (epoch 0 4294967295)) ∷ []; reconfigs = [] })

pub record Epochs : Type 0 where
  -- the next configuration has the next epoch
  pub next :
      (reconfig_commanded true 1 1 (Swap 2) (record { units = (1, seen (epoch 2 7)) ∷ []; reconfigs = [] })).deeds
      ≡ Send (node_instance 32769 0) (body.Prepare 1 (epoch 2 8)) ∷ []
  -- a loss of data has an epoch of its own
  pub after_loss :
      (reconfig_commanded true 1 1 (Lose 1) (record { units = (1, seen (epoch 2 7)) ∷ []; reconfigs = [] })).deeds
      ≡ Send (node_instance 32769 0) (body.Prepare 1 (epoch 3 1)) ∷ []

pub record Memory : Type 0 where
  -- a partition that is commanded is known from then on, with no epoch
  pub commanded : (reconfig_commanded true 1 1 (Swap 1) nothing_managed).state.units ≡ (1, seen (epoch 0 0)) ∷ []
  -- a higher epoch is seen
  pub superseded :
      manager_answered [] 32769 1 e1 (body.NoPrepare 1 e1 (epoch 0 5)) (reconfig_commanded true 1 1 (Create 1) nothing_managed).state
      ≡ acted (record { units = (1, seen (epoch 0 5)) ∷ []; reconfigs = [] }) (Tell (report.Superseded 1 (epoch 0 5)) ∷ [])
  -- a refused command uses up no epoch
  pub refused :
      manager_answered [] 32769 1 e1 (body.Prepared 1 e1 None) (reconfig_commanded true 1 1 (Swap 1) nothing_managed).state
      ≡ acted (record { units = (1, seen (epoch 0 0)) ∷ []; reconfigs = [] }) (Tell (report.Refused verb.Swap reason.NoUnit) ∷ [])
  -- what is active is noted
  pub configured :
      manager_answered [] 1 1 e1 (body.Activated 1 e1)
      (record { units = []; reconfigs = (1, Phase4 (record { task = task 1 1 e1 (Create 1); config = config e1 1 (1 ∷ []); poll = poll_of (1 ∷ []) })) ∷ [] })
      ≡ acted (record { units = (1, known) ∷ []; reconfigs = [] }) (Tell (report.Configured 1 e1) ∷ [])

-- a firing: the reconfigurations first, then the replicas
abbrev pub FiringInOrder : Type 0
FiringInOrder =
    fired (record {
      managed = record { units = []; reconfigs = (2, begun (task 1 2 e1 (Create 1))) ∷ [] };
      states = (1, leading (peer 2 0 2 ∷ []) 2) ∷ [];
    })
    ≡ Send (node_instance 32769 0) (body.Prepare 2 e1) ∷ Send (node_instance 2 0) (body.Append 1 e1 2 (2 ∷ [])) ∷ []

-- Who is up, and how loaded.

-- leases of 10, at node 1, which agrees to longer ones
abbrev pub site : Site
site =
    record {
      ring = record { lease = 10; longest = 25; answer = 1; bound = record { d = 0; grain = 0 }; near = 0; arbitrators = 1; rounds = 1 };
      domains = (1, 1) ∷ (2, 4) ∷ [];
    }

-- a node that has heard these, and has accused these
abbrev pub ring_of : List Known → List Who → Ring
ring_of known accused =
    record {
      me = node_instance 1 1;
      phase = routing;
      slots = no_slots;
      next_session = 1;
      accused = accused;
      token = first_token [];
      routes = record { me = node_instance 1 1; points = (1, 0) ∷ (2, 5) ∷ []; known = known };
      target = None;
    }

-- node 2 was last heard then
abbrev pub heard_at : ℕ → List Known
heard_at reading = record { who = node_instance 2 1; point = 5; heard = reading } ∷ []

pub record Ups : Type 0 where
  -- two leases ago is long enough, three are not
  pub two_leases : is_up (long_ago 30 10) (ring_of (heard_at 10) []) 2 ≡ true
  pub past : is_up (long_ago 30 10) (ring_of (heard_at 9) []) 2 ≡ false
  pub early : is_up (long_ago 5 10) (ring_of (heard_at 0) []) 2 ≡ true
  -- the node itself is up, and who was accused is not
  pub itself : is_up (long_ago 30 10) (ring_of [] []) 1 ≡ true
  pub accused : is_up (long_ago 30 10) (ring_of (heard_at 30) (node_instance 2 1 ∷ [])) 2 ≡ false
  -- the load is the number of known units with the node as a member
  pub loaded :
      loads site 30 (ring_of (heard_at 9) [])
      ((1, record known { config = Some (config e1 1 (1 ∷ 2 ∷ [])) }) ∷ (2, known) ∷ (3, seen e1) ∷ [])
      ≡ record { node = 1; domain = 1; up = true; load = 2 } ∷ record { node = 2; domain = 4; up = false; load = 1 } ∷ []
  pub heard :
      loads site 30 (ring_of (heard_at 10) []) []
      ≡ record { node = 1; domain = 1; up = true; load = 0 } ∷ record { node = 2; domain = 4; up = true; load = 0 } ∷ []
  pub none_accused :
      loads site 30 (ring_of (heard_at 30) (node_instance 2 1 ∷ [])) []
      ≡ record { node = 1; domain = 1; up = true; load = 0 } ∷ record { node = 2; domain = 4; up = false; load = 0 } ∷ []

-- the manager is the node that holds ring point 0
pub record Managers : Type 0 where
  pub holder :
      (manage site 0 (record (ring_of [] []) { token = first_token whole_ring }) 1 (Create 1) (failover_begun [])).deeds
      ≡ Send (node_instance 32769 0) (body.Prepare 1 e1) ∷ []
  pub no_other :
      (manage site 0 (ring_of [] []) 1 (Create 1) (failover_begun [])).deeds ≡ Tell (report.Refused verb.Create reason.NotManager) ∷ []

pub record Starts : Type 0 where
  -- a restarted replica has no role, and nothing that was only collected
  pub collecting :
      states_begun (
      kept.Boot 1 ∷ kept.PromisedAt 1 e1 ∷ kept.AdoptedAt 1 e1 0 false ∷ kept.Wrote 1 e1 1 (1 ∷ []) ∷ kept.Wrote 1 e1 2 (2 ∷ [])
      ∷ kept.PromisedAt 1 e2 ∷ kept.Incoming 1 e2 1 e1 (1 ∷ []) ∷ [])
      ≡ (1, state e2 e1 NoRole) ∷ []
  -- it has a log that was collected whole
  pub collected :
      states_begun (
      kept.Boot 1 ∷ kept.PromisedAt 1 e2 ∷ kept.Incoming 1 e2 1 e1 (1 ∷ []) ∷ kept.Incoming 1 e2 2 e1 (2 ∷ []) ∷ kept.AdoptedAt 1 e2 2 false ∷ [])
      ≡ (1, state e2 e2 NoRole) ∷ []
  -- and one of its own, with another epoch
  pub own :
      states_begun (
      kept.Boot 1 ∷ kept.PromisedAt 1 e1 ∷ kept.AdoptedAt 1 e1 0 false ∷ kept.Wrote 1 e1 1 (1 ∷ []) ∷ kept.Wrote 1 e1 2 (2 ∷ [])
      ∷ kept.Boot 2 ∷ kept.PromisedAt 1 e2 ∷ kept.AdoptedAt 1 e2 2 true ∷ [])
      ≡ (1, state e2 e2 NoRole) ∷ []
