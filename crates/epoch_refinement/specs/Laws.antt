-- Each row of a partition is deeds of the partition's machine.
use Rattle.std.specs.Prelude.{◌≡◌, ℕ, ◌<◌, Bool, List, Some, []}
use Rattle.fabric_lemmas.specs.Maps.{at}
use Rattle.ring_points.specs.declared.unit.Epoch.{Epoch}
use Rattle.replica_place.specs.declared.load.NodeLoad.{NodeLoad}
use Rattle.unit_rules.specs.declared.reconfig.Kind.{Kind}
use Rattle.unit_rules.specs.Manager.{Managed, reconfig_commanded, manager_answered}
use Rattle.unit_rules.specs.Questions.{reconfig_fired}
use Rattle.unit_rules.specs.Reconfigs.{Reconfig}
use Rattle.epoch_refinement.specs.Epochs.{settings_to}
use Rattle.epoch_refinement.specs.Reconfigs.{ShowsManager, IsAnswerOf, ManagerWent}
use Rattle.ring_points.specs.declared.who.Who.{Who}
use Rattle.fabric_terms.specs.declared.message.Body.{Body}
use Rattle.fabric_terms.specs.declared.record.Record.{Record}
use Rattle.epoch_machine.specs.Settings.{Settings}
use Rattle.epoch_machine.specs.World.{World, empty_world}
use Rattle.epoch_machine.specs.Invariant.{Invariant}
use Rattle.unit_rules.specs.Deeds.{acted, still}
use Rattle.ring_rules.specs.declared.input.Input.{Input}
use Rattle.ring_rules.specs.Rings.{Ring}
use Rattle.unit_rules.specs.Loads.{Site}
use Rattle.unit_rules.specs.Starts.{replica_of, replicas_after_all}
use Rattle.unit_rules.specs.Steps.{Failover, failover_begun, failover_step}
use Rattle.unit_rules.specs.Registers.{Register, Reply, Registers, question_received, registers_after}
use Rattle.epoch_refinement.specs.Nodes.{Machines, ShowsNode, NodeRefined, Comes, ShowsArbiter, ArbiterRefined}
use Rattle.unit_rules.specs.ReplicaStates.{ReplicaState}
use Rattle.unit_rules.specs.Writes.{write_commanded, state_fired}
use Rattle.replica_records.specs.Kept.{AreKept, IsFit}
use Rattle.replica_records.specs.ReplicaStates.{state_at, begun_again}
use Rattle.epoch_refinement.specs.Refined.{AllShown, Refined}
use Rattle.epoch_refinement.specs.Registers.{ShowsRegister, RefinedReply}
use Rattle.epoch_refinement.specs.Rows.{state_received, register_answers}
use Rattle.epoch_refinement.specs.ReplicaStates.{ShowsReplicaState}
use Rattle.epoch_refinement.specs.Shown.{partition_of, Shown}

-- it holds of every replica of a partition that shows a world of the machine
abbrev pub OfReplicas : (Settings → World → ℕ → Who → ReplicaState → Type 0) → Type 0
OfReplicas Holds = (c : Settings) (w : World) (p : ℕ) (me : Who) (s : ReplicaState) → Invariant c w → ShowsReplicaState w p me.actor s → Holds c w p me s

-- whatever frame comes to its node that was sent
abbrev pub ReplicaFramesAreDeeds : Type 0
ReplicaFramesAreDeeds =
    OfReplicas (λ c w p me s. (from to : Who) (b : Body) → to.actor ≡ me.actor → Shown w p from to b → Refined c w p me (state_received me from b s))

abbrev pub WritesAreDeeds : Type 0
WritesAreDeeds = OfReplicas (λ c w p me s. (text : List ℕ) → Refined c w p me (write_commanded text s))

abbrev pub FiringsAreDeeds : Type 0
FiringsAreDeeds = OfReplicas (λ c w p me s. Refined c w p me (acted s (state_fired s)))

abbrev pub RestartsAreDeeds : Type 0
RestartsAreDeeds = OfReplicas (λ c w p me s. Refined c w p me (still (begun_again s)))

-- whatever an arbitrator that shows a world of the machine is asked by a frame that was sent
abbrev pub AnswersAreDeeds : Type 0
AnswersAreDeeds =
    (c : Settings) (w : World) (p : ℕ) (me from to : Who) (b : Body) (r : Register) (reply : Reply) → Invariant c w → ShowsRegister w p me.actor r →
    Shown w p from to b → partition_of b ≡ p → register_answers from b r ≡ Some reply → RefinedReply c w p me from r reply

-- it holds of every manager of a partition, by k arbitrators, that shows a world of the machine
abbrev pub OfManagers : ((k p : ℕ) → World → Who → Managed → Type 0) → Type 0
OfManagers Holds =
    (k p : ℕ) (w : World) (x : Who) (s : Managed) → Invariant (settings_to k) w → ShowsManager w k p x s → 0 < x.instance → Holds k p w x s

-- whatever answer comes to it that was sent, wherever nodes are placed then
abbrev pub ManagerAnswersAreDeeds : Type 0
ManagerAnswersAreDeeds =
    OfManagers (λ k p w x s. (nodes : List NodeLoad) (from : Who) (e : Epoch) (b : Body) → IsAnswerOf e b → Shown w p from x b →
    ManagerWent k p w x (manager_answered nodes from.actor p e b s))

abbrev pub CommandsAreDeeds : Type 0
CommandsAreDeeds = OfManagers (λ k p w x s. (is_manager : Bool) (kind : Kind) → ManagerWent k p w x (reconfig_commanded is_manager k p kind s))

-- what it asks again when it fires
abbrev pub QuestionsAreShown : Type 0
QuestionsAreShown = OfManagers (λ k p w x s. (r : Reconfig) → at p s.reconfigs ≡ Some r → AllShown w p x (reconfig_fired r))

-- Each step of a whole node, and of a whole arbitrator, is deeds of the machines of all partitions.

-- whatever comes to a node that shows the machines: a frame that was sent, a command, or a firing
abbrev pub StepsAreDeeds : Type 0
StepsAreDeeds =
    (c : Site) (now : ℕ) (r : Ring) (k : ℕ) (m : Machines) (s : Failover) (i : Input) → ((p : ℕ) → Invariant (settings_to k) (m p)) →
    c.ring.arbitrators ≡ k → 0 < r.me.instance → ShowsNode k m r.me s → Comes m r.me i → NodeRefined k m r.me (failover_step c now r s i)

-- whatever an arbitrator is asked by a frame that was sent
abbrev pub QuestionsAreDeeds : Type 0
QuestionsAreDeeds =
    (k : ℕ) (m : Machines) (me from to : Who) (b : Body) (rs : Registers) → ((p : ℕ) → Invariant (settings_to k) (m p)) → ShowsArbiter m me.actor rs →
    Shown (m (partition_of b)) (partition_of b) from to b → ArbiterRefined k m me (question_received b from rs)

-- in the world where nothing was done, a node and an arbitrator that have recorded nothing show the machines
abbrev pub BeginningsAreShown : Type 0
BeginningsAreShown =
    (k : ℕ) (x : Who) → ShowsNode k (λ p. empty_world) x (failover_begun []) × ShowsArbiter (λ p. empty_world) x.actor (registers_after [] [])

-- What a node recorded is what the machines of its replicas have.

-- a replica that shows a world of its partition's machine is one that records what it becomes
abbrev pub WhoShowsIsFit : Type 0
WhoShowsIsFit = (c : Settings) (w : World) (p node : ℕ) (s : ReplicaState) → Invariant c w → ShowsReplicaState w p node s → IsFit p s

-- so a start is deeds of the machine, which has the replica of the instance before
abbrev pub StartsAreDeeds : Type 0
StartsAreDeeds =
    (c : Settings) (w : World) (p : ℕ) (me : Who) (s : Failover) (records : List Record) → Invariant c w → ShowsReplicaState w p me.actor (state_at p s) →
    AreKept records s → Refined c w p me (still (state_at p (failover_begun records)))

-- and the machine's log is that of the records
abbrev pub LogsAreKept : Type 0
LogsAreKept =
    (w : World) (p node : ℕ) (s : Failover) (records : List Record) → ShowsReplicaState w p node (state_at p s) → AreKept records s →
    w.log node ≡ (replica_of p (replicas_after_all [] records)).log
