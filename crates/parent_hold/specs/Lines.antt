-- What a parent is told of a step, and which numbers it owes then.
use Rattle.std.specs.Prelude.{ℕ, ◌+◌, Bool, false, ◌||◌, List, [], ◌∷◌, ◌++◌, Option, Some, None, if◌then◌else◌}
use Rattle.fabric_terms.specs.declared.report.Head.{Head}
use Rattle.fabric_terms.specs.declared.report.Report.{Report}
use Rattle.frame_hold.specs.Losses.{Had, gives_up}
use Rattle.frame_hold.specs.declared.holding.Owed.{Owed}
use Rattle.frame_hold.specs.declared.losses.GivesUp.{GivesUp}
use Rattle.line_format.specs.Reports.{report_line}
use Rattle.door_lines.specs.Replies.{GivesUp as GivesUpLine, reply_text}
use Rattle.log_lines.specs.Reports.{Choice, choice_after, is_told, own_or}

-- the number of the next line that gives something up, and what is known to choose the other lines
pub record Telling : Type 0 where
  pub next : ℕ
  pub choice : Choice

abbrev pub fresh_telling : Bool → Telling
fresh_telling all = record { next = 1; choice = choice_after all [] }

-- a new instance begins
abbrev pub begun_again : Telling → Telling
begun_again t = record t { choice = choice_after t.choice.all [] }

abbrev pub nobody_asks : ℕ → Bool
nobody_asks point = false

-- a report that gives nothing up is told where the log's choice has it, or where all are wanted
abbrev pub hears : Choice → Report → Bool
hears choice r = choice.all || is_told r choice.own nobody_asks

abbrev pub choice_next : Choice → Report → Choice
choice_next choice r = record choice { own = own_or r choice.own }

-- One report, with what it gives up, if anything.

abbrev pub report_text : Option GivesUp → Telling → Head → Report → List ℕ
report_text (Some what) t head r = reply_text (GivesUpLine t.next head r)
report_text None t head r = if hears t.choice r then report_line head r else []

abbrev pub owed_at : Option GivesUp → ℕ → ℕ → List Owed
owed_at (Some what) number now = record { number = number; what = what; since = now } ∷ []
owed_at None number now = []

abbrev pub after_report : Option GivesUp → Telling → Report → Telling
after_report (Some what) t r = record { next = t.next + 1; choice = choice_next t.choice r }
after_report None t r = record t { choice = choice_next t.choice r }

-- The reports of a step, with what the node had before it and all that the step reports.

abbrev pub step_text : Had → List Report → Head → Telling → List Report → List ℕ
step_text had told head t [] = []
step_text had told head t (r ∷ rs) =
    report_text (gives_up had told r) t head r ++ step_text had told head (after_report (gives_up had told r) t r) rs

abbrev pub step_owed : Had → List Report → ℕ → Telling → List Report → List Owed
step_owed had told now t [] = []
step_owed had told now t (r ∷ rs) =
    owed_at (gives_up had told r) t.next now ++ step_owed had told now (after_report (gives_up had told r) t r) rs

abbrev pub after_step : Had → List Report → Telling → List Report → Telling
after_step had told t [] = t
after_step had told t (r ∷ rs) = after_step had told (after_report (gives_up had told r) t r) rs
