-- What is read of a transcript, line after line, and how it is refused.
use Rattle.std.specs.Prelude.{ℕ, ◌+◌, Bool, true, false, ◌&&◌, ◌||◌, not, nat_eq, nat_lt, min, List, [], ◌∷◌, length, Option, Some, None, is_some, Result, Ok, Err, if◌then◌else◌}
use Rattle.ring_points.specs.declared.who.Who.{Who}
use Rattle.fabric_terms.specs.declared.report.Report.{Report}
use Rattle.fabric_status.specs.declared.status.Refusal.{Refusal}
use Rattle.fabric_status.specs.declared.status.Refusal.TheVariants.{BadLine, TooLarge}
use Rattle.line_format.specs.Lines.{lines_of}
use Rattle.source_lines.specs.Lines.{is_ignored, most_lines}
use Rattle.transcript_audit.specs.Groups.{Group, group_from, grown, may_tell, group_at, onto}
use Rattle.transcript_audit.specs.Said.{Said, Opens, Shows, Tells, said_of}

-- whether a section was opened, its last group, which may go on, and the groups before
pub record Reading : Type 0 where
  pub opened : Bool
  pub now : Option Group
  pub before : List Group

abbrev pub nothing_read : Reading
nothing_read = record { opened = false; now = None; before = [] }

-- the groups so far, the last first
abbrev pub groups_of : Reading → List Group
groups_of r = onto r.now r.before

-- a section's LINEs rise
abbrev pub rises_over : Option Group → ℕ → Bool
rises_over None line = true
rises_over (Some g) line = nat_lt g.line line

-- a group may begin here: a section was opened, its LINEs rise, and no group has this LINE
abbrev pub may_begin : ℕ → Reading → Bool
may_begin line r = r.opened && (rises_over r.now line && not (is_some (group_at line (groups_of r))))

abbrev pub tells_in : ℕ → Who → Option Report → Reading → Option Group → Option Reading
tells_in line w report r None = None
tells_in line w report r (Some g) = if nat_eq g.line line && may_tell w g.who then Some (record r { now = Some (grown w report g) }) else None

-- what is read with one line more, where the line is in its place
abbrev pub placed : Said → Reading → Option Reading
placed Opens r = Some (record { opened = true; now = None; before = groups_of r })
placed (Shows line clocks) r = if may_begin line r then Some (record { opened = true; now = Some (group_from line clocks); before = groups_of r }) else None
placed (Tells line w report) r = tells_in line w report r r.now

abbrev pub placed_if : Option Said → Reading → Option Reading
placed_if None r = None
placed_if (Some said) r = placed said r

-- the bytes that a line may have, and the bytes that a transcript may have
abbrev pub most_line : ℕ
most_line = 65536

abbrev pub most_bytes : ℕ
most_bytes = 1073741824

-- line n, which ends with this byte, passes a limit
abbrev pub is_large : ℕ → ℕ → List ℕ → Bool
is_large n end line = nat_lt most_line (length line) || (nat_lt most_lines n || nat_lt most_bytes end)

-- the end of a line of so many bytes that begins here: its line feed counts, where it has one
abbrev pub end_of : ℕ → ℕ → List ℕ → ℕ
end_of total at line = min (at + length line + 1) total

abbrev pub unless_bad : ℕ → Option Reading → Result Reading Refusal
unless_bad n None = Err (BadLine n)
unless_bad n (Some r) = Ok r

abbrev pub read_unless : Bool → Bool → ℕ → Option Reading → Reading → Result Reading Refusal
read_unless true ignored n o r = Err (TooLarge n)
read_unless false true n o r = Ok r
read_unless false false n o r = unless_bad n o

-- what is read with line n, which passes no limit
abbrev pub short_read : ℕ → List ℕ → Reading → Result Reading Refusal
short_read n line r = read_unless false (is_ignored line) n (placed_if (said_of line) r) r

-- what is read with line n, which ends with this byte: its length is tested first
abbrev pub line_read : ℕ → ℕ → List ℕ → Reading → Result Reading Refusal
line_read n end line r = read_unless (is_large n end line) (is_ignored line) n (placed_if (said_of line) r) r

abbrev pub read_on : Result Reading Refusal → (Reading → Result Reading Refusal) → Result Reading Refusal
read_on (Ok r) rest = rest r
read_on (Err refusal) rest = Err refusal

-- what is read with the lines from number n on, which begin at this byte of so many
abbrev pub read_from : ℕ → ℕ → ℕ → Reading → List (List ℕ) → Result Reading Refusal
read_from total n at r [] = Ok r
read_from total n at r (l ∷ ls) = read_on (line_read n (end_of total at l) l r) (λ s. read_from total (n + 1) (end_of total at l) s ls)

abbrev pub groups_if : Result Reading Refusal → Result (List Group) Refusal
groups_if (Ok r) = Ok (groups_of r)
groups_if (Err refusal) = Err refusal

-- the groups of a transcript, or how it is refused
unfoldable pub transcript_of : List ℕ → Result (List Group) Refusal
transcript_of bytes = groups_if (read_from (length bytes) 1 0 nothing_read (lines_of bytes))
