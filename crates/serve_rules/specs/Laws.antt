-- What holds of every life.
use Rattle.std.specs.Prelude.{◌≡◌, ℕ, Bool, true, false, List, [], ◌∷◌, Option, None, if◌then◌else◌, length}
use Rattle.client_sessions.specs.Answers.{refusal}
use Rattle.client_sessions.specs.Sessions.{Kept}
use Rattle.door_lines.specs.declared.fault.Fault.{Fault}
use Rattle.fabric_terms.specs.declared.command.Command.{Command}
use Rattle.fabric_terms.specs.declared.record.Record.{Record}
use Rattle.fabric_terms.specs.declared.report.Report.{Report}
use Rattle.open_answers.specs.Answers.{answer_of, stays}
use Rattle.open_answers.specs.Endings.{question_of}
use Rattle.open_answers.specs.declared.answer.Answer.{Answer}
use Rattle.open_answers.specs.declared.answer.Answer.TheVariants as answer
use Rattle.open_answers.specs.declared.open_answers.Asker.{Asker}
use Rattle.serve_rules.specs.Events.{Asked, Event}
use Rattle.serve_rules.specs.Lines.{LetsGo, Refused, line_of}
use Rattle.serve_rules.specs.Lives.{happenings, served}
use Rattle.serve_rules.specs.Served.{Served, after_event, comes_of, of_event}
use Rattle.serve_rules.specs.Services.{life_of}
use Rattle.turn_rules.specs.Plans.{Plan}
use Rattle.turn_rules.specs.Process.{after}

-- the process is what its actor is after what has come to it
abbrev pub ProcessIsAfter : Type 0
ProcessIsAfter = (plan : Plan) (kept : List Record) (v : Kept) (es : List Event) →
    (served plan kept v es).process ≡ after (life_of plan kept) (happenings plan kept v es)

-- it comes to no actor, and changes nothing
pub record IsSilent (plan : Plan) (kept : List Record) (v : Served) (e : Event) : Type 0 where
  pub comes : comes_of plan v.sessions e.coming ≡ None
  pub stays : after_event plan kept v e ≡ v

-- A refused line is answered by its fault, comes to no actor, and changes nothing.
abbrev pub RefusedLinesAreSilent : Type 0
RefusedLinesAreSilent = (plan : Plan) (kept : List Record) (v : Served) (turn client : ℕ) (line : Option (List ℕ)) (tag : Option ℕ) (fault : Fault) →
    line_of plan v.sessions client line ≡ Refused tag fault →
    IsSilent plan kept v (record { turn = turn; coming = Asked client line })
    × (of_event plan kept v (record { turn = turn; coming = Asked client line }) ≡ refusal client tag fault ∷ [])

-- A line by which the parent lets go is not answered, comes to no actor, and changes nothing of the process.
abbrev pub LettingGoIsSilent : Type 0
LettingGoIsSilent = (plan : Plan) (kept : List Record) (v : Served) (turn client : ℕ) (line : Option (List ℕ)) (number : ℕ) →
    line_of plan v.sessions client line ≡ LetsGo number →
    IsSilent plan kept v (record { turn = turn; coming = Asked client line })
    × (of_event plan kept v (record { turn = turn; coming = Asked client line }) ≡ [])

-- The answer to a command ends with its own step, or stays open, once; it never does both.

abbrev pub is_open : Answer → Bool
is_open answer.Open = true
is_open _ = false

abbrev pub EndsOrIsKept : Type 0
EndsOrIsKept = (lease now : ℕ) (asker : Asker) (c : Command) (told : List Report) →
    length (stays lease asker now (question_of c told) told) ≡ (if is_open (answer_of (question_of c told) told) then 1 else 0)
