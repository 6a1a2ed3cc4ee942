-- A run as its transcript has it, and which runs have a transcript.
use Rattle.std.specs.Prelude.{◌≡◌, ℕ, ◌≤◌, ◌<◌, Bool, true, false, List, [], ◌∷◌, ◌++◌, length, map, Option, Some, None, All, nat_lt}
use Rattle.fabric_terms.specs.declared.report.Report.{Report}
use Rattle.fabric_terms.specs.Ranges.{FitsReading, IsInstance, IsLong, IsWho, IsWord}
use Rattle.fabric_terms.specs.Runs.{Clocks, Entry, Moment, Run}
use Rattle.frames_fit.specs.Formats.{ReportInRange}
use Rattle.ring_points.specs.declared.who.Who.{Who}
use Rattle.schedule_rules.specs.Traces.{group, transcript}
use Rattle.transcript_audit.specs.Groups.{Group}
use Rattle.run_audit.specs.Clocks.{comes_after}

-- the text of a run: the heading, and the group of each moment, the oldest first
abbrev pub trace_of : Run → List ℕ
trace_of [] = transcript
trace_of (m ∷ ms) = trace_of ms ++ group m

-- who tells something, if anything is told or sent
abbrev pub teller_of : Who → List Report → Bool → Option Who
teller_of w [] false = None
teller_of w [] true = Some w
teller_of w (r ∷ rs) sends = Some w

abbrev pub who_in : Option Entry → Option Who
who_in None = None
who_in (Some e) = teller_of e.who e.reports (nat_lt 0 e.sent.0)

abbrev pub reports_in : Option Entry → List Report
reports_in None = []
reports_in (Some e) = e.reports

-- the group of a moment: its line, its clocks, who tells something, and the reports
abbrev pub group_of_moment : Moment → Group
group_of_moment m = record { line = m.line; clocks = m.clocks; who = who_in m.entry; reports = reports_in m.entry }

-- the groups of a run, the newest first
abbrev pub groups_of_run : Run → List Group
groups_of_run run = map group_of_moment run

-- Which runs have a transcript: every number, name and list has a line.

abbrev pub most_clocks : ℕ
most_clocks = 64

-- the instances rise, each with a reading
abbrev pub ClocksRise : Option Who → Clocks → Type 0
ClocksRise above [] = Unit {0}
ClocksRise above (c ∷ cs) = (comes_after above c.0 ≡ true) × IsInstance c.0 × IsLong c.1 × ClocksRise (Some c.0) cs

-- frames are counted from 1, and there are none where the first number is 0
abbrev pub SentFits : ℕ × ℕ → Type 0
SentFits sent = (sent.0 ≤ sent.1) × IsWord sent.1

pub record EntryHasLines (e : Entry) : Type 0 where
  pub who : IsWho e.who
  pub reading : FitsReading e.who e.reading
  pub reports : All ReportInRange e.reports
  pub sent : SentFits e.sent

abbrev pub HasLines : Option Entry → Type 0
HasLines None = Unit {0}
HasLines (Some e) = EntryHasLines e

pub record IsRecordable (m : Moment) : Type 0 where
  pub line : IsLong m.line
  pub time : IsLong m.time
  pub clocks : ClocksRise None m.clocks
  pub few : length m.clocks ≤ most_clocks
  pub entry : HasLines m.entry

-- each moment comes at a later line than those before
abbrev pub LinesRise : Run → Type 0
LinesRise [] = Unit {0}
LinesRise (m ∷ ms) = All (λ n. n.line < m.line) ms × LinesRise ms

pub record IsRecording (run : Run) : Type 0 where
  pub each : All IsRecordable run
  pub rise : LinesRise run
