-- What a step reports committed begins with all that was.
use Rattle.std.proofs.Common.{◌≡◌, ℕ, false, true, List, [], Some, refl, sym, ap, ◌∙◌, subst}
use Rattle.std.specs.Prelude.{length}
use Rattle.fabric_lemmas.specs.Maps.{at}
use Rattle.fabric_terms.specs.declared.config.FabricConfig.{FabricConfig}
use Rattle.fabric_terms.specs.declared.report.Report.TheVariants.{Committed}
use Rattle.join_phases.specs.Phases.{is_left}
use Rattle.ring_points.specs.declared.unit.Epoch.{Epoch}
use Rattle.ring_points.specs.declared.who.Who.{Who}
use Rattle.ring_rules.specs.declared.input.Input.{Input}
use Rattle.ring_rules.specs.Rings.{Work, settings_of}
use Rattle.ring_rules.specs.Steps.{ring_step}
use Rattle.replica_core.specs.Replicas.{Replica}
use Rattle.epoch_machine.specs.Epochs.{number_of}
use Rattle.epoch_machine.specs.Logs.{Entry}
use Rattle.unit_rules.specs.Deeds.{Acted, did, reports_of}
use Rattle.unit_rules.specs.Loads.{site_of}
use Rattle.unit_rules.specs.Starts.{replica_of, replicas_after_all}
use Rattle.unit_rules.specs.Steps.{Failover, failover_step}
use Rattle.unit_rules.specs.Units.{units}
use Rattle.world_rules.specs.Nodes.{NodeState, both_did, comes_above}
use Rattle.world_rules.specs.Uppers.{Did}
use Rattle.world_rules.specs.Worlds.{World, Running, Stepped, node_acted}
use Rattle.run_facts.proofs.Happens.{CameTo}
use Rattle.replica_records.specs.ReplicaStates.{state_at}
use Rattle.epoch_refinement.specs.Epochs.{settings_to}
use Rattle.epoch_refinement.specs.Nodes.{Machines, NodeRefined}
use Rattle.epoch_refinement.proofs.Losing.{settings_sound}
use Rattle.run_promises.specs.Reports.{IsAmong, log_in}
use Rattle.epoch_safety.proofs.ActFollows.{Numbered, actor, shows, refined, kept_now, busy_follows, commit_above}
use Rattle.epoch_safety.proofs.Committing.{LeadsAt}
use Rattle.epoch_safety.proofs.Covering.{Covers, progress_covers}
use Rattle.epoch_safety.proofs.Follows.{Follows}
use Rattle.epoch_safety.proofs.NodeFollows.{Named, kept_at}
use Rattle.epoch_safety.proofs.StepCommits.{asks_in, step_told, reports_told}
use Rattle.epoch_safety.proofs.Telling.{Tellings}

module _ (c : FabricConfig) (w : World units) (t : Tellings) (m : Machines) (n : Numbered w) (f : Follows (length c.arbiters) w t m) (node : ℕ)
    (i : Input) (s : Running units) (there : at node w.nodes ≡ Some s) where
  abbrev k : ℕ
  k = length c.arbiters

  abbrev new : Work
  new = ring_step (settings_of c s.node.ring.me.actor) s.reading i s.node.ring

  abbrev x : Who
  x = new.ring.me

  abbrev row : Acted Failover
  row = failover_step (site_of c x.actor) s.reading new.ring s.node.above i

  abbrev busy : Did (NodeState units)
  busy = both_did units c s.node.ring new (did row)

  abbrev stepped : Stepped units
  stepped = node_acted units w node s.reading s.pairs busy

  named : Named w
  named node s there = ap (λ (z : Who). z.actor) (n.name node s there)

  module _ (stay : is_left new.ring.phase ≡ false) (passed : comes_above (settings_of c s.node.ring.me.actor) s.node.ring i ≡ true) (came : CameTo w node i)
    where
      abbrev r : NodeRefined k m x row
      r = refined c w t m n f node i s there stay passed came

      -- the log that the records amount to now
      logs : (p : ℕ) → log_in stepped.world x.actor p ≡ (state_at p row.state).replica.log
      logs p =
          (λ j. (replica_of p (replicas_after_all []
          (kept_at s.reading s.pairs busy named f (busy_follows c w t m n f node i s there stay passed came) x.actor (sym (actor c w t m n f node i s there)) j))).log)
          ∙ ap (λ (z : Replica). z.log) (kept_now c w t m n f node i s there stay passed came p)

      pub act_covers : (y : Who) (p : ℕ) (e : Epoch) (last : ℕ) → IsAmong stepped.entry y (Committed p e last) →
          Covers (settings_to k) (r.after p) (number_of e) last (log_in stepped.world y.actor p)
      act_covers y p e last a =
          let above = commit_above c w t m n f node i s there (reports_of row.deeds) p e last a.1 in
          let states = (shows c w t m n f node i s there stay passed came).states in
          let leads : LeadsAt (state_at p row.state) e last
          = reports_told (asks_in i) s.node.above row.state row.deeds (Committed p e last)
          (step_told (asks_in i) s.node.above (site_of c x.actor) s.reading new.ring i refl) above (λ q. (states q).partition) in
          subst (λ (log : List Entry). Covers (settings_to k) (r.after p) (number_of e) last log)
          (sym (ap (λ (z : Who). log_in stepped.world z.actor p) (sym a.0) ∙ logs p))
          (progress_covers (r.between p).inv (settings_sound k) (r.shows.states p) e last leads)
