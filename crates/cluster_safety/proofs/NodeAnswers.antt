-- A node of a cluster answers about names by entries that cover what was committed, and at a question alone.
use Rattle.std.proofs.Common.{◌≡◌, ℕ, Bool, true, false, List, [], ◌∷◌, Option, Some, None, refl, ap, sym, subst, ◌∙◌}
use Rattle.std.specs.Prelude.{Contains, slice_get, if◌then◌else◌}
use Rattle.std.proofs.lemmas.Bool.{eq-eqb}
use Rattle.ring_safety.proofs.ClusterMirrors.{RunsAs}
use Rattle.epoch_safety.specs.Answers.{named_at}
use Rattle.epoch_safety.proofs.Asked.{answers_by_entries_lem}
use Rattle.epoch_safety.proofs.Resting.{own_partition}
use Rattle.epoch_safety.proofs.StepCommits.{asks_in}
use Rattle.epoch_safety.proofs.Unasked.{at_running}
use Rattle.unit_rules.specs.Fabric.{fabric}
use Rattle.fabric_lemmas.specs.Maps.{at}
use Rattle.fabric_terms.specs.declared.command.Command.{Command}
use Rattle.fabric_terms.specs.declared.command.Command.TheVariants as command
use Rattle.fabric_terms.specs.declared.config.FabricConfig.{FabricConfig}
use Rattle.fabric_terms.specs.declared.event.Event.TheVariants.{Do}
use Rattle.fabric_terms.specs.declared.report.Report.{Report}
use Rattle.fabric_terms.specs.Sound.{IsSound}
use Rattle.join_phases.specs.Phases.{is_left}
use Rattle.name_rules.specs.Names.{NameMap}
use Rattle.replica_records.specs.ReplicaStates.{state_at}
use Rattle.ring_points.specs.declared.interval.Interval.{Interval}
use Rattle.ring_rules.specs.declared.input.Input.{Input}
use Rattle.ring_rules.specs.declared.input.Input.TheVariants as input
use Rattle.run_promises.specs.Answers.{AnsweredBy, IsAnswerBy}
use Rattle.run_promises.specs.Questions.{asks_names, tells_names}
use Rattle.run_promises.specs.Reports.{IsAmong}
use Rattle.turn_rules.specs.Plans.{Setting}
use Rattle.turn_rules.specs.Process.{Process}
use Rattle.turn_rules.specs.Steps.{Node, present}
use Rattle.unit_rules.specs.Answers.{listing, resolution}
use Rattle.world_rules.specs.Events.{acts_at, world_step}
use Rattle.world_rules.specs.Nodes.{NodeState, node_step}
use Rattle.world_rules.specs.Runs.{world_after}
use Rattle.world_rules.specs.Worlds.{Running, World, empty_world}
use Rattle.cluster_safety.specs.Plans.{Rise}
use Rattle.cluster_safety.specs.Promises.{MemberAnswersCommand, MemberRestsOnCommitted}
use Rattle.cluster_safety.proofs.Acts.{JoinedBy}
use Rattle.cluster_safety.proofs.Kept.{follows, names_covered, runs_there, schedule}

-- A node at this time, and a world in which it runs alone.

abbrev pub running : ℕ → NodeState fabric → Running fabric
running now node = record { node = node; reading = now; pairs = [] }

abbrev pub alone : ℕ → NodeState fabric → World fabric
alone now node = record (empty_world fabric) { nodes = (node.ring.me.actor, running now node) ∷ [] }

at_alone : (now : ℕ) (node : NodeState fabric) → at node.ring.me.actor (alone now node).nodes ≡ Some (running now node)
at_alone now node = ap (λ (b : Bool). if b then Some (running now node) else None) (eq-eqb node.ring.me.actor node.ring.me.actor refl)

module _ (c : FabricConfig) (now : ℕ) (node : NodeState fabric) (r : Report) (names : tells_names r ≡ true) where
  abbrev me : ℕ
  me = node.ring.me.actor

  abbrev Told : Input → Type 0
  Told i = Contains (node_step fabric c now i node).told r

  -- who answers was asked
  pub was_asked : (i : Input) → Told i → asks_in i ≡ true
  was_asked i told = at_running c (alone now node) (node_step fabric c now i node).state.ring.me r names me i (running now node) (refl, told)

  abbrev pub Answered : ℕ → (ℕ → NameMap → Report) → Type 0
  Answered partition answer = AnsweredBy (alone now node) me partition (answer (named_at partition (at me (alone now node).nodes))) r

  -- the step is one of the world
  stepped : (asked : Command) → Told (input.Do asked) →
      IsAmong (world_step fabric c (alone now node) (Do me asked)).entry (node_step fabric c now (input.Do asked) node).state.ring.me r
  unfolding world_step
  stepped asked told =
      subst (λ (o : Option (Running fabric)). IsAmong (acts_at fabric c (alone now node) me (input.Do asked) o).entry (node_step fabric c now (input.Do asked) node).state.ring.me r)
      (sym (at_alone now node)) (refl, told)

  pub resolved : (partition : ℕ) (name : List ℕ) → Told (input.Do (command.Resolve partition name)) → Answered partition (λ p. resolution p name)
  resolved partition name told =
      (answers_by_entries_lem c (alone now node) me partition (node_step fabric c now (input.Do (command.Resolve partition name)) node).state.ring.me r names).0 name
      (stepped (command.Resolve partition name) told)

  pub listed : (partition : ℕ) (range : Interval) → Told (input.Do (command.Names partition range)) → Answered partition (λ p. listing p range)
  listed partition range told =
      (answers_by_entries_lem c (alone now node) me partition (node_step fabric c now (input.Do (command.Names partition range)) node).state.ring.me r names).1 range
      (stepped (command.Names partition range) told)

-- So at a node of a cluster.
module _ (s : Setting) (p : Process) (j : JoinedBy s p) (sound : IsSound s.plan.config) (rise : Rise 0 s.plan.actors) (r : Report) (names : tells_names r ≡ true)
    (place : ℕ) (node : NodeState fabric) (here : slice_get p.members place ≡ Some (Node node)) where
  rests : (partition : ℕ) (answer : ℕ → NameMap → Report) → Answered s.plan.config (present p.last) node r names partition answer →
      MemberRestsOnCommitted p node partition (answer partition) r
  rests partition answer k =
      let c = s.plan.config in
      let now : ℕ = present p.last in
      let alike : Some k.running ≡ Some (running now node) = sym k.there ∙ at_alone now node in
      let same : k.running ≡ running now node = cc in
      let stays : is_left node.ring.phase ≡ false = subst (λ (q : Running fabric). is_left q.node.ring.phase ≡ false) same k.is.stays in
      let t : RunsAs {a = fabric} (world_after fabric c (schedule s p.members p.last p.steps j)) node.ring.me.actor node = runs_there s p.members p.last p.steps j rise place node here in
      let own_there : (state_at partition t.state.node.above).replica.partition ≡ partition =
      own_partition (λ bytes. false) c sound (schedule s p.members p.last p.steps j) (follows s p.members p.last p.steps j).valid node.ring.me.actor partition t.state t.here
      (ap (λ (n : NodeState fabric). is_left n.ring.phase) t.same ∙ stays) in
      let own : (state_at partition node.above).replica.partition ≡ partition =
      subst (λ (n : NodeState fabric). (state_at partition n.above).replica.partition ≡ partition) t.same own_there in
      let named : named_at partition (at node.ring.me.actor (alone now node).nodes) ≡ partition = ap (named_at partition) (at_alone now node) ∙ own in
      let there : IsAnswerBy k.running.node partition (answer partition) r =
      subst (λ (n : ℕ). IsAnswerBy k.running.node partition (answer n) r) named k.is in
      let is : IsAnswerBy node partition (answer partition) r = subst (λ (q : Running fabric). IsAnswerBy q.node partition (answer partition) r) same there in
      record { is = is; covers = names_covered s p.members p.last p.steps j sound rise place partition is.count node here is.stays is.is_ready }

  pub answers : (asked : Command) → asks_names asked ≡ true → Contains (node_step fabric s.plan.config (present p.last) (input.Do asked) node).told r →
      MemberAnswersCommand p node r asked
  answers (command.Resolve partition name) asks told =
      rests partition (λ q. resolution q name) (resolved s.plan.config (present p.last) node r names partition name told)
  answers (command.Names partition range) asks told =
      rests partition (λ q. listing q range) (listed s.plan.config (present p.last) node r names partition range told)
  answers asked asks told = absurd (cc (asks))
