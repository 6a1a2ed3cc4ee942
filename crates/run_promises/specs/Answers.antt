-- That each answer about names rests on all that was committed.
use Rattle.std.specs.Prelude.{◌≡◌, ℕ, true, false, [], ◌∷◌, Some, Ok, take}
use Rattle.fabric_lemmas.specs.Maps.{at}
use Rattle.fabric_terms.specs.declared.command.Command.{Command}
use Rattle.fabric_terms.specs.declared.command.Command.TheVariants as command
use Rattle.fabric_terms.specs.declared.config.FabricConfig.{FabricConfig}
use Rattle.fabric_terms.specs.declared.event.Event.{Event}
use Rattle.fabric_terms.specs.declared.event.Event.TheVariants.{Do}
use Rattle.fabric_terms.specs.declared.report.Report.{Report}
use Rattle.join_phases.specs.Phases.{is_left}
use Rattle.name_rules.specs.Names.{NameMap, names_of}
use Rattle.replica_records.specs.ReplicaStates.{state_at}
use Rattle.ring_points.specs.declared.who.Who.{Who}
use Rattle.unit_rules.specs.Answers.{listing, ready, resolution}
use Rattle.unit_rules.specs.Progress.{progress_of}
use Rattle.unit_rules.specs.Units.{units}
use Rattle.world_rules.specs.Nodes.{NodeState}
use Rattle.world_rules.specs.Runs.{History, run_of, world_after}
use Rattle.world_rules.specs.Worlds.{World, Running}
use Rattle.run_promises.specs.Covered.{CoverCommitted}
use Rattle.run_promises.specs.Questions.{tells_names}
use Rattle.run_promises.specs.Reports.{HasReported}

-- a node in this state is ready to answer by so many entries of its log, and this is the answer by the names that they leave
pub record IsAnswerBy (node : NodeState units) (partition : ℕ) (answer : NameMap → Report) (r : Report) : Type 0 where
  pub stays : is_left node.ring.phase ≡ false
  pub count : ℕ
  pub is_ready : ready (progress_of (state_at partition node.above)) ≡ Ok count
  pub told : r ≡ answer (names_of (take count (state_at partition node.above).replica.log))

-- the node of this number was ready to answer so
pub record AnsweredBy (w : World units) (node partition : ℕ) (answer : NameMap → Report) (r : Report) : Type 0 where
  pub running : Running units
  pub there : at node w.nodes ≡ Some running
  pub is : IsAnswerBy running.node partition answer r

-- the node answered so behind the history, and the entries cover what was committed in it
pub record RestsOnCommitted (c : FabricConfig) (h : History) (node partition : ℕ) (answer : NameMap → Report) (r : Report) : Type 0 where
  pub by : AnsweredBy (world_after units c h) node partition answer r
  pub covers : CoverCommitted c h partition by.is.count (state_at partition by.running.node.above).replica

-- the report answers what the command asked, of the partition that it asked about
abbrev pub AnswersCommand : FabricConfig → History → (node : ℕ) → Report → Command → Type 0
AnswersCommand c h node r (command.Resolve partition name) = RestsOnCommitted c h node partition (resolution partition name) r
AnswersCommand c h node r (command.Names partition range) = RestsOnCommitted c h node partition (listing partition range) r
AnswersCommand c h node r _ = ⊥

-- the event asked the node of the instance x, and the report is the answer
abbrev pub AnswersEvent : FabricConfig → History → Who → Report → Event → Type 0
AnswersEvent c h x r (Do node asked) = (x.actor ≡ node) × AnswersCommand c h node r asked
AnswersEvent c h x r _ = ⊥

-- Each answer about names in the last moment answers the question that came then, by entries that begin with all that was
-- reported committed of its partition before, in epochs up to the replica's own of the same data loss number.
abbrev pub AnswersOfCommitted : FabricConfig → History → Type 0
AnswersOfCommitted c [] = Unit {0}
AnswersOfCommitted c (now ∷ earlier) =
    (x : Who) (r : Report) → HasReported (run_of units c (now ∷ earlier)) x r → tells_names r ≡ true → AnswersEvent c earlier x r now.1
