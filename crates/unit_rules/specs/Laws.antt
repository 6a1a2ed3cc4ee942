-- What is recorded is what stands.
use Rattle.std.specs.Prelude.{◌≡◌, ℕ, List}
use Rattle.ring_points.specs.declared.interval.Interval.{Interval}
use Rattle.ring_points.specs.declared.who.Who.{Who}
use Rattle.fabric_terms.specs.declared.message.Body.{Body}
use Rattle.unit_rules.specs.Answers.{OnlyAnswers, resolve_commanded, names_commanded}
use Rattle.unit_rules.specs.Deeds.{records_of}
use Rattle.unit_rules.specs.Registers.{Registers, registers_after, question_received}
use Rattle.unit_rules.specs.ReplicaStates.{ReplicaState}

-- whatever an arbitrator is asked, its registers change by what it records, and by nothing else
abbrev pub RegisterIsRecorded : Type 0
RegisterIsRecorded =
    (b : Body) (asker : Who) (rs : Registers)
    → (question_received b asker rs).state ≡ registers_after rs (records_of (question_received b asker rs).deeds)

-- whoever asks about names is told one report, and nothing else is done
abbrev pub QuestionsOnlyTell : Type 0
QuestionsOnlyTell =
    (s : ReplicaState) → ((name : List ℕ) → OnlyAnswers s (resolve_commanded name s)) × ((range : Interval) → OnlyAnswers s (names_commanded range s))
