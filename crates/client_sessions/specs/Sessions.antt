-- What a process keeps for its clients, and what it says of a step of its actor.
use Rattle.std.specs.Prelude.{ℕ, ◌==◌, Bool, true, false, ◌||◌, List, [], ◌∷◌, ◌++◌, Option, Some, None, flat_map, map, option_map, slice_get}
use Rattle.ring_points.specs.declared.point.Point.{Point}
use Rattle.fabric_terms.specs.declared.report.Head.{Head}
use Rattle.fabric_terms.specs.declared.report.Report.{Report}
use Rattle.ring_rules.specs.declared.input.Input.{Input}
use Rattle.line_format.specs.Reports.{report_line}
use Rattle.door_lines.specs.Replies.{Done, Says, reply_text}
use Rattle.door_lines.specs.Words.{Late, Reports, Unknown, words_text}
use Rattle.log_lines.specs.Reports.{Choice, is_told, own_or}
use Rattle.open_answers.specs.Answers.{Answers, by_step, ended_by, open_after, seeks}
use Rattle.open_answers.specs.Endings.{prepared_in}
use Rattle.open_answers.specs.declared.ended.EndedAnswer.{EndedAnswer}
use Rattle.open_answers.specs.declared.open_answers.OpenAnswer.{OpenAnswer}
use Rattle.open_answers.specs.declared.question.Ending.{Ending}
use Rattle.open_answers.specs.declared.question.Ending.TheVariants as ending
use Rattle.client_sessions.specs.declared.telling.StepTold.{StepTold}
use Rattle.client_sessions.specs.declared.watchers.Watcher.{Watcher}
use Rattle.client_sessions.specs.Utterances.{Line, Reply, Utterance}

-- the open answers; the clients that watch, in the order in which they began; what is known to choose the lines of the log;
-- and the client that is the parent of the process, if it has one, which stands from life to life
pub record Kept : Type 0 where
  pub answers : Answers
  pub watchers : List Watcher
  pub choice : Choice
  pub parent : Option ℕ

abbrev pub fresh_kept : ℕ → Bool → Option ℕ → Kept
fresh_kept lease all_lines parent = record {
  answers = record { waiting = []; lease = lease };
  watchers = [];
  choice = record { all = all_lines; own = None };
  parent = parent;
}

-- A step of the actor, as its clients and the log hear of it: the head of its lines, the partition of which it takes a
-- Prepared, its reports, and the point that its command asks about.
pub record Step : Type 0 where
  pub head : Head
  pub prepared : Option ℕ
  pub reports : List Report
  pub sought : Option Point

-- a step without an input takes no Prepared
abbrev pub prepared_by : Option Input → Option ℕ
prepared_by None = None
prepared_by (Some input) = prepared_in input

-- Which points clients ask about.

abbrev pub is_sought : ℕ → Option Point → Bool
is_sought point None = false
is_sought point (Some sought) = sought.0 == point

-- by an open answer, or by the command of this step
abbrev pub is_asked : List OpenAnswer → Option Point → ℕ → Bool
is_asked waiting sought point = is_sought point sought || seeks point waiting

-- What is said of one report.

abbrev pub is_logged : Choice → (ℕ → Bool) → Report → Bool
is_logged choice asked r = choice.all || is_told r choice.own asked

abbrev pub line_if : Bool → List ℕ → List Utterance
line_if true line = Line line ∷ []
line_if false line = []

abbrev pub reply_if : Bool → ℕ → List ℕ → List Utterance
reply_if true client text = Reply client text ∷ []
reply_if false client text = []

-- a client that watches hears what the log has, or all
abbrev pub watch_reply : Bool → List ℕ → Watcher → List Utterance
watch_reply logged line w = reply_if (w.all || logged) w.client line

abbrev pub watch_replies : Bool → List ℕ → List Watcher → List Utterance
watch_replies logged line watchers = flat_map (watch_reply logged line) watchers

abbrev pub of_report : Bool → List ℕ → List Watcher → List Utterance
of_report logged line watchers = line_if logged line ++ watch_replies logged line watchers

abbrev pub choice_next : Choice → Report → Choice
choice_next choice r = record choice { own = own_or r choice.own }

-- What is said of the reports of a step, in their order.
abbrev pub of_reports : Choice → List Watcher → (ℕ → Bool) → Head → List Report → List Utterance
of_reports choice watchers asked head [] = []
of_reports choice watchers asked head (r ∷ rs) =
    of_report (is_logged choice asked r) (report_line head r) watchers ++ of_reports (choice_next choice r) watchers asked head rs

abbrev pub choice_after : Choice → List Report → Choice
choice_after choice [] = choice
choice_after choice (r ∷ rs) = choice_after (choice_next choice r) rs

-- Answers that end.

abbrev pub report_reply : ℕ → Head → Report → List ℕ
report_reply tag head r = reply_text (Says (Some tag) (words_text (Reports head r)))

abbrev pub done_text : Option ℕ → List ℕ
done_text tag = reply_text (Done tag)

-- the report at a place of its step
abbrev pub told_reply : ℕ → Head → Option Report → List ℕ
told_reply tag head None = []
told_reply tag head (Some r) = report_reply tag head r

-- the last words of an answer, by a report of this step, or without one
abbrev pub last_words : Head → List Report → ℕ → Ending → List ℕ
last_words head told tag (ending.Told index) = told_reply tag head (slice_get told index)
last_words head told tag ending.Unknown = reply_text (Says (Some tag) (words_text Unknown))
last_words head told tag ending.Late = reply_text (Says (Some tag) (words_text Late))

-- and then `done`
abbrev pub ended_reply : Head → List Report → EndedAnswer → Utterance
ended_reply head told e = Reply e.asker.client (last_words head told e.asker.tag e.ending ++ done_text (Some e.asker.tag))

abbrev pub ended_replies : Head → List Report → List EndedAnswer → List Utterance
ended_replies head told ended = map (ended_reply head told) ended

-- What is said of a step: of its reports, and then to those whose answers they end.
abbrev pub of_step : Kept → Step → List Utterance
of_step s t =
    of_reports s.choice s.watchers (is_asked s.answers.waiting t.sought) t.head t.reports
    ++ ended_replies t.head t.reports (ended_by (by_step t.prepared t.reports) s.answers.waiting)

abbrev pub after_step : Kept → Step → Kept
after_step s t = record {
  answers = record s.answers { waiting = open_after (by_step t.prepared t.reports) s.answers.waiting };
  watchers = s.watchers;
  choice = choice_after s.choice t.reports;
  parent = s.parent;
}

-- a step as it is handed in
abbrev pub step_of : StepTold → Step
step_of t = record { head = t.head.now; prepared = prepared_by (option_map (λ input. input.now) t.input); reports = t.reports.now; sought = t.sought }
