-- The open answers, in the order of asking, and what each call makes of them.
use Rattle.std.specs.Prelude.{◌≡◌, ℕ, ◌+◌, ◌-◌, ◌^◌, Bool, false, List, [], ◌∷◌, ◌++◌, Option, Some, None, ◌==◌, filter, is_none, length, min, nat_le, if◌then◌else◌}
use Rattle.std.specs.List.{list_any}
use Rattle.fabric_terms.specs.declared.command.Command.{Command}
use Rattle.fabric_terms.specs.declared.report.Report.{Report}
use Rattle.open_answers.specs.declared.question.Question.{Question}
use Rattle.open_answers.specs.declared.question.Question.TheVariants.{Finds, Changes, Writes}
use Rattle.open_answers.specs.declared.question.Ending.{Ending}
use Rattle.open_answers.specs.declared.question.Ending.TheVariants.{Told, Unknown, Late}
use Rattle.open_answers.specs.declared.open_answers.Asker.{Asker}
use Rattle.open_answers.specs.declared.open_answers.OpenAnswer.{OpenAnswer}
use Rattle.open_answers.specs.declared.ended.EndedAnswer.{EndedAnswer}
use Rattle.open_answers.specs.declared.cause.Cause.{Cause}
use Rattle.open_answers.specs.declared.cause.Cause.TheVariants.{Step, Time, End}
use Rattle.open_answers.specs.declared.answer.Answer.{Answer}
use Rattle.open_answers.specs.declared.answer.Answer.TheVariants as answer
use Rattle.open_answers.specs.Endings.{ends, question_of}

-- answers that may be open
abbrev pub most_open_answers : ℕ
most_open_answers = 256

-- ticks for the answer to a command of a partition
abbrev pub most_answer_ticks : ℕ
most_answer_ticks = 60000

-- the answers that are open, the oldest first, and the configured lease, which a search has for its answer
pub record Answers : Type 0 where
  pub waiting : List OpenAnswer
  pub lease : ℕ

abbrev pub ticks_of : ℕ → Question → ℕ
ticks_of lease (Finds key) = lease
ticks_of lease (Changes partition verb) = most_answer_ticks
ticks_of lease (Writes partition epoch lsn) = most_answer_ticks

-- the reading at which its time is over
abbrev pub until_of : ℕ → ℕ → Question → ℕ
until_of lease now question = min (now + ticks_of lease question) (2 ^ 64 - 1)

abbrev pub opened : ℕ → Asker → ℕ → Question → OpenAnswer
opened lease asker now question = record { asker = asker; question = question; until = until_of lease now question }

-- what an ending in its own step makes of the answer
abbrev pub answered : Option Ending → Answer
answered None = answer.Open
answered (Some Unknown) = answer.Unknown
answered (Some _) = answer.Done

-- what becomes of the answer to a command in its own step
abbrev pub answer_of : Option Question → List Report → Answer
answer_of None told = answer.Done
answer_of (Some question) told = answered (ends question None told)

-- the answer that stays open, if it does
abbrev pub stays : ℕ → Asker → ℕ → Option Question → List Report → List OpenAnswer
stays lease asker now None told = []
stays lease asker now (Some question) told =
    elim (ends question None told) [ None ↦ opened lease asker now question ∷ [] | Some ending ↦ [] ]

-- how an open answer ends, if it does
abbrev pub Ends : Type 0
Ends = OpenAnswer → Option Ending

abbrev pub ended_one : Asker → Option Ending → List EndedAnswer
ended_one asker None = []
ended_one asker (Some ending) = record { asker = asker; ending = ending } ∷ []

-- those that end, in the order of asking, each once
abbrev pub ended_by : Ends → List OpenAnswer → List EndedAnswer
ended_by ends [] = []
ended_by ends (o ∷ os) = ended_one o.asker (ends o) ++ ended_by ends os

-- those that stay
abbrev pub open_after : Ends → List OpenAnswer → List OpenAnswer
open_after ends os = filter (λ o. is_none (ends o)) os

-- by the reports of a step, in which a Prepared of this partition was taken, or none
abbrev pub by_step : Option ℕ → List Report → Ends
by_step prepared told o = ends o.question prepared told

-- by the time
abbrev pub by_time : ℕ → Ends
by_time now o = if nat_le o.until now then Some Late else None

-- by the end of the instance
abbrev pub by_end : Ends
by_end o = Some Unknown

abbrev pub by_cause : Cause → Ends
by_cause (Step prepared told) = by_step prepared told.now
by_cause (Time now) = by_time now
by_cause End = by_end

abbrev pub sooner : Option ℕ → ℕ → ℕ
sooner None until = until
sooner (Some due) until = min until due

-- the least reading at which a time is over
abbrev pub due_of : List OpenAnswer → Option ℕ
due_of [] = None
due_of (o ∷ os) = Some (sooner (due_of os) o.until)

abbrev pub is_of : ℕ → OpenAnswer → Bool
is_of client o = o.asker.client == client

abbrev pub is_full : Answers → Bool
is_full a = nat_le most_open_answers (length a.waiting)

-- a question asks which node holds a point
abbrev pub finds : ℕ → Question → Bool
finds point (Finds key) = key.0 == point
finds point _ = false

-- an open answer asks so
abbrev pub seeks : ℕ → List OpenAnswer → Bool
seeks point os = list_any (λ o. finds point o.question) os

-- each open answer ends by a cause or stays open, and none does both
abbrev pub EndsOrStays : Type 0
EndsOrStays = (ends : Ends) (os : List OpenAnswer) → length (ended_by ends os) + length (open_after ends os) ≡ length os
