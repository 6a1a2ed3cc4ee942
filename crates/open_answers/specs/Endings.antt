-- Which report ends which answer.
use Rattle.std.specs.Prelude.{ℕ, ◌+◌, Bool, true, false, ◌&&◌, ◌==◌, List, [], ◌∷◌, Option, Some, None, nat_le, if◌then◌else◌}
use Rattle.std.specs.List.{list_any}
use Rattle.ring_points.specs.Epochs.{is_older, same_epoch}
use Rattle.fabric_terms.specs.declared.command.Command.{Command}
use Rattle.fabric_terms.specs.declared.command.Command.TheVariants as command
use Rattle.fabric_terms.specs.declared.message.Body.{Body}
use Rattle.fabric_terms.specs.declared.message.Body.TheVariants.{Prepared}
use Rattle.fabric_terms.specs.declared.report.Report.{Report}
use Rattle.fabric_terms.specs.declared.report.Report.TheVariants.{Found, Nowhere, Configured, Superseded, Committed, Promised, Accepted, Refused}
use Rattle.fabric_terms.specs.declared.report.Verb.{Verb}
use Rattle.fabric_terms.specs.declared.report.Verb.TheVariants as verb
use Rattle.ring_rules.specs.declared.input.Input.{Input}
use Rattle.ring_rules.specs.declared.input.Input.TheVariants.{Fire, Frame, Do}
use Rattle.open_answers.specs.declared.question.Question.{Question}
use Rattle.open_answers.specs.declared.question.Question.TheVariants.{Finds, Changes, Writes}
use Rattle.open_answers.specs.declared.question.Ending.{Ending}
use Rattle.open_answers.specs.declared.question.Ending.TheVariants.{Told, Unknown}

-- the partition of which the step takes a Prepared: a refusal of a reconfiguration does not name its partition
abbrev pub prepared_of : Body → Option ℕ
prepared_of (Prepared partition epoch config) = Some partition
prepared_of _ = None

abbrev pub prepared_in : Input → Option ℕ
prepared_in Fire = None
prepared_in (Frame message) = prepared_of message.body
prepared_in (Do command) = None

abbrev pub is_prepared : ℕ → Option ℕ → Bool
is_prepared partition None = false
is_prepared partition (Some other) = other == partition

-- the commands that begin a reconfiguration
abbrev pub same_verb : Verb → Verb → Bool
same_verb verb.Create verb.Create = true
same_verb verb.Swap verb.Swap = true
same_verb verb.Heal verb.Heal = true
same_verb verb.Lose verb.Lose = true
same_verb _ _ = false

-- a report ends what is asked, in a step that takes a Prepared of this partition or of none
abbrev pub is_end : Question → Option ℕ → Report → Bool
is_end (Finds key) prepared (Found point who) = point.0 == key.0
is_end (Finds key) prepared (Nowhere point) = point.0 == key.0
is_end (Changes partition verb) prepared (Configured other epoch) = other == partition
is_end (Changes partition verb) prepared (Superseded other epoch) = other == partition
is_end (Changes partition verb) prepared (Refused other reason) = same_verb verb other && is_prepared partition prepared
is_end (Writes partition epoch lsn) prepared (Committed other in_epoch last) = other == partition && same_epoch in_epoch epoch && nat_le lsn last
is_end (Writes partition epoch lsn) prepared (Promised other above) = other == partition && is_older epoch above
is_end _ prepared _ = false

-- the report at this place of its step is the answer's last; but a promise does not say what becomes of a write
abbrev pub ending_of : ℕ → Report → Ending
ending_of index (Promised partition epoch) = Unknown
ending_of index _ = Told index

-- the first value that is given by an item; each item has its place
abbrev pub first_given : {A B : Type 0} → (ℕ → A → Option B) → ℕ → List A → Option B
first_given give index [] = None
first_given give index (x ∷ xs) = elim (give index x) [ Some y ↦ Some y | None ↦ first_given give (index + 1) xs ]

abbrev pub end_at : Question → Option ℕ → ℕ → Report → Option Ending
end_at question prepared index report = if is_end question prepared report then Some (ending_of index report) else None

-- how the reports of a step end what is asked: by the first one that does
abbrev pub ends : Question → Option ℕ → List Report → Option Ending
ends question prepared told = first_given (end_at question prepared) 0 told

-- What a command asks beyond its own step

abbrev pub is_refusal : Report → Bool
is_refusal (Refused verb reason) = true
is_refusal _ = false

abbrev pub is_refused : List Report → Bool
is_refused told = list_any is_refusal told

abbrev pub accepted_of : ℕ → Report → Option Question
accepted_of partition (Accepted other epoch lsn) = if other == partition then Some (Writes partition epoch lsn) else None
accepted_of partition _ = None

-- the epoch and the number of the first entry that this partition accepted
abbrev pub accepted_in : ℕ → List Report → Option Question
accepted_in partition told = first_given (λ index. accepted_of partition) 0 told

abbrev pub change_of : ℕ → Verb → List Report → Option Question
change_of partition verb told = if is_refused told then None else Some (Changes partition verb)

-- what is asked by a command whose own step made these reports; the other commands end with their step
abbrev pub question_of : Command → List Report → Option Question
question_of (command.Find key) told = Some (Finds key)
question_of (command.Create partition count) told = change_of partition verb.Create told
question_of (command.Swap partition node) told = change_of partition verb.Swap told
question_of (command.Heal partition count) told = change_of partition verb.Heal told
question_of (command.Lose partition node) told = change_of partition verb.Lose told
question_of (command.Write partition text) told = if is_refused told then None else accepted_in partition told
question_of _ told = None
