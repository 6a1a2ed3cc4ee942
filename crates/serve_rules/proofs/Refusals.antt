-- A line that is refused, and the answer to a command.
use Rattle.std.proofs.Common.{◌≡◌, ℕ, List, [], ◌∷◌, Option, Some, None, refl, ap}
use Rattle.std.specs.Prelude.{if◌then◌else◌, length}
use Rattle.client_sessions.specs.Answers.{refusal}
use Rattle.door_lines.specs.declared.fault.Fault.{Fault}
use Rattle.fabric_terms.specs.declared.record.Record.{Record}
use Rattle.fabric_terms.specs.declared.report.Report.{Report}
use Rattle.open_answers.specs.Answers.{answered, answer_of, opened, stays}
use Rattle.open_answers.specs.Endings.{ends, question_of}
use Rattle.open_answers.specs.declared.open_answers.Asker.{Asker}
use Rattle.open_answers.specs.declared.open_answers.OpenAnswer.{OpenAnswer}
use Rattle.open_answers.specs.declared.question.Ending.{Ending}
use Rattle.open_answers.specs.declared.question.Ending.TheVariants as ending
use Rattle.open_answers.specs.declared.question.Question.{Question}
use Rattle.serve_rules.specs.Events.{Asked, Event}
use Rattle.serve_rules.specs.Laws.{EndsOrIsKept, RefusedLinesAreSilent, is_open}
use Rattle.serve_rules.specs.Lines.{Line, Refused, line_of}
use Rattle.serve_rules.specs.Served.{Served, after_event, bids, command_in, new_step, of_event, of_line, process_after, with_line}
use Rattle.turn_rules.specs.Plans.{Plan}

abbrev line_event : ℕ → ℕ → Option (List ℕ) → Event
line_event turn client line = record { turn = turn; coming = Asked client line }

pub refused_stays : (plan : Plan) (kept : List Record) (v : Served) (turn client : ℕ) (line : Option (List ℕ)) (tag : Option ℕ) (fault : Fault) → line_of plan v.sessions client line ≡ Refused tag fault
    → after_event plan kept v (line_event turn client line) ≡ v
unfolding after_event
refused_stays plan kept v turn client line tag fault refused =
    let p = process_after plan kept v (line_event turn client line) in
    ap (λ (l : Line). with_line plan v client l p (new_step v p)) refused

pub refused_says : (plan : Plan) (kept : List Record) (v : Served) (turn client : ℕ) (line : Option (List ℕ)) (tag : Option ℕ) (fault : Fault) → line_of plan v.sessions client line ≡ Refused tag fault
    → of_event plan kept v (line_event turn client line) ≡ refusal client tag fault ∷ []
unfolding of_event
refused_says plan kept v turn client line tag fault refused =
    let p = process_after plan kept v (line_event turn client line) in
    ap (λ (l : Line). of_line plan v client l (new_step v p)) refused

pub refused_silent : RefusedLinesAreSilent
refused_silent plan kept v turn client line tag fault refused =
    (record { comes = ap (λ (l : Line). bids (command_in l)) refused; stays = refused_stays plan kept v turn client line tag fault refused }, refused_says plan kept v turn client line tag fault refused)

ends_or_kept : (lease now : ℕ) (asker : Asker) (question : Question) (end : Option Ending)
    → length {A = OpenAnswer} (elim end [ None ↦ opened lease asker now question ∷ [] | Some ending ↦ [] ]) ≡ (if is_open (answered end) then 1 else 0)
ends_or_kept lease now asker question None = refl
ends_or_kept lease now asker question (Some ending.Unknown) = refl
ends_or_kept lease now asker question (Some (ending.Told index)) = refl
ends_or_kept lease now asker question (Some ending.Late) = refl

of_question : (lease now : ℕ) (asker : Asker) (question : Option Question) (told : List Report)
    → length (stays lease asker now question told) ≡ (if is_open (answer_of question told) then 1 else 0)
of_question lease now asker None told = refl
of_question lease now asker (Some question) told = ends_or_kept lease now asker question (ends question None told)

pub ends_or_is_kept : EndsOrIsKept
ends_or_is_kept lease now asker c told = of_question lease now asker (question_of c told) told
