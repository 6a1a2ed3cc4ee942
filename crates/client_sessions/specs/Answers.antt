-- The answer to a line of a client, and the answers that end without a step.
use Rattle.std.specs.Prelude.{ℕ, not, List, [], ◌++◌, Option, Some, None, filter, flat_map, map}
use Rattle.fabric_terms.specs.declared.command.Command.{Command}
use Rattle.fabric_terms.specs.declared.report.Head.{Head}
use Rattle.fabric_terms.specs.declared.report.Report.{Report}
use Rattle.fabric_terms.specs.declared.report.Report.TheVariants as report
use Rattle.door_lines.specs.Replies.{Says, reply_text}
use Rattle.door_lines.specs.Words.{Faults, Late, Unknown, words_text}
use Rattle.door_lines.specs.declared.fault.Fault.{Fault}
use Rattle.open_answers.specs.Answers.{answer_of, by_end, by_time, ended_by, is_of, open_after, stays}
use Rattle.open_answers.specs.Endings.{question_of}
use Rattle.open_answers.specs.declared.answer.Answer.{Answer}
use Rattle.open_answers.specs.declared.answer.Answer.TheVariants as answer
use Rattle.open_answers.specs.declared.ended.EndedAnswer.{EndedAnswer}
use Rattle.open_answers.specs.declared.open_answers.Asker.{Asker}
use Rattle.client_sessions.specs.Sessions.{Kept, Step, done_text, report_reply}
use Rattle.client_sessions.specs.Utterances.{Reply, Utterance}
use Rattle.client_sessions.specs.Watching.{by_others}

-- The answer to a command, behind what is said of its step: the reports of the step but `own`, and what ends it.

-- an `own` is no part of an answer
abbrev pub own_line : ℕ → Head → Report → List ℕ
own_line tag head (report.Own ranges fence) = []
own_line tag head r = report_reply tag head r

abbrev pub own_lines : ℕ → Head → List Report → List ℕ
own_lines tag head told = flat_map (own_line tag head) told

abbrev pub closing : ℕ → Answer → List ℕ
closing tag answer.Done = done_text (Some tag)
closing tag answer.Unknown = reply_text (Says (Some tag) (words_text Unknown)) ++ done_text (Some tag)
closing tag answer.Open = []

abbrev pub own_text : ℕ → Head → List Report → Answer → List ℕ
own_text tag head told becomes = own_lines tag head told ++ closing tag becomes

abbrev pub own_answer : Asker → Command → Step → Utterance
own_answer asker command t =
    Reply asker.client (own_text asker.tag t.head t.reports (answer_of (question_of command t.reports) t.reports))

-- it stays open where the step does not end it
abbrev pub with_answer : Kept → Asker → Command → Step → ℕ → Kept
with_answer s asker command t now = record s {
  answers = record s.answers { waiting = s.answers.waiting ++ stays s.answers.lease asker now (question_of command t.reports) t.reports };
}

-- a line that is refused
abbrev pub refusal_text : Option ℕ → Fault → List ℕ
refusal_text tag fault = reply_text (Says tag (words_text (Faults fault))) ++ done_text tag

abbrev pub refusal : ℕ → Option ℕ → Fault → Utterance
refusal client tag fault = Reply client (refusal_text tag fault)

-- a line that is answered at once, by these lines
abbrev pub answered_by : Asker → List ℕ → Utterance
answered_by asker lines = Reply asker.client (lines ++ done_text (Some asker.tag))

-- an answer that ends with these words, and with no report
abbrev pub words_reply : List ℕ → EndedAnswer → Utterance
words_reply words e = Reply e.asker.client (reply_text (Says (Some e.asker.tag) words) ++ done_text (Some e.asker.tag))

abbrev pub words_replies : List ℕ → List EndedAnswer → List Utterance
words_replies words ended = map (words_reply words) ended

-- answers whose time is over at this reading

abbrev pub late_replies : Kept → ℕ → List Utterance
late_replies s now = words_replies (words_text Late) (ended_by (by_time now) s.answers.waiting)

abbrev pub after_time : Kept → ℕ → Kept
after_time s now = record s { answers = record s.answers { waiting = open_after (by_time now) s.answers.waiting } }

-- the instance has ended: of each open answer nothing is said but that

abbrev pub unknown_replies : Kept → List Utterance
unknown_replies s = words_replies (words_text Unknown) (ended_by by_end s.answers.waiting)

abbrev pub none_open : Kept → Kept
none_open s = record s { answers = record s.answers { waiting = [] }; choice = record s.choice { own = None } }

-- a client has gone: nothing is kept for it
abbrev pub without_client : Kept → ℕ → Kept
without_client s client = record s {
  answers = record s.answers { waiting = filter (λ o. not (is_of client o)) s.answers.waiting };
  watchers = by_others client s.watchers;
}
