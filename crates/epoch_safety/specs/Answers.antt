-- When a node answers about names, and by which entries, whatever world it is in.
use Rattle.std.specs.Prelude.{◌≡◌, ℕ, true, List, Option, None, Some}
use Rattle.fabric_lemmas.specs.Maps.{at}
use Rattle.fabric_terms.specs.declared.command.Command.TheVariants as command
use Rattle.fabric_terms.specs.declared.config.FabricConfig.{FabricConfig}
use Rattle.fabric_terms.specs.declared.event.Event.{Event}
use Rattle.fabric_terms.specs.declared.event.Event.TheVariants.{Do}
use Rattle.fabric_terms.specs.declared.report.Report.{Report}
use Rattle.ring_points.specs.declared.interval.Interval.{Interval}
use Rattle.ring_points.specs.declared.who.Who.{Who}
use Rattle.replica_records.specs.ReplicaStates.{state_at}
use Rattle.run_promises.specs.Answers.{AnsweredBy}
use Rattle.run_promises.specs.Questions.{is_question, tells_names}
use Rattle.run_promises.specs.Reports.{IsAmong}
use Rattle.unit_rules.specs.Answers.{listing, resolution}
use Rattle.unit_rules.specs.Units.{units}
use Rattle.world_rules.specs.Events.{world_step}
use Rattle.world_rules.specs.Worlds.{World, Running}

-- the partition that a node's replica of it names, which in a valid run is that one
abbrev pub named_at : ℕ → Option (Running units) → ℕ
named_at partition None = partition
named_at partition (Some s) = (state_at partition s.node.above).replica.partition

-- Whatever node is asked in whatever world, each answer that is reported at the question is of the entries by which the node
-- was ready to answer.
abbrev pub AnswersAreByEntries : Type 0
AnswersAreByEntries =
    (c : FabricConfig) (w : World units) (node partition : ℕ) (x : Who) (r : Report) → tells_names r ≡ true →
    let named = named_at partition (at node w.nodes) in
    ((name : List ℕ) → IsAmong (world_step units c w (Do node (command.Resolve partition name))).entry x r →
    AnsweredBy w node partition (resolution named name) r)
    × ((range : Interval) → IsAmong (world_step units c w (Do node (command.Names partition range))).entry x r →
    AnsweredBy w node partition (listing named range) r)

-- Whatever comes in whatever world, an answer about names is reported at a question alone.
abbrev pub OnlyQuestionsAreAnswered : Type 0
OnlyQuestionsAreAnswered =
    (c : FabricConfig) (w : World units) (e : Event) (x : Who) (r : Report) → tells_names r ≡ true →
    IsAmong (world_step units c w e).entry x r → is_question e ≡ true
