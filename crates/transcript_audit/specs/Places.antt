-- Where the groups of a transcript stand in its bytes.
use Rattle.std.specs.Prelude.{◌≡◌, ℕ, ◌+◌, Bool, true, false, ◌≤◌, ◌&&◌, not, nat_eq, nat_lt, List, [], ◌∷◌, ◌++◌, length, drop, Option, Some, None, Result, Ok, Err, is_some, option_map, if◌then◌else◌}
use Rattle.std.specs.Global.{Vec}
use Rattle.std.specs.Map.{lookup}
use Rattle.indexmap.specs.IndexMap.{keys}
use Rattle.ring_points.specs.declared.who.Who.{Who}
use Rattle.fabric_terms.specs.declared.report.Report.{Report}
use Rattle.fabric_status.specs.declared.status.Refusal.{Refusal}
use Rattle.run_audit.specs.declared.moment.Moment.{Moment}
use Rattle.run_audit.specs.Auditing.{seen, entry_of as audited_entry}
use Rattle.line_format.specs.Lines.{lines_of}
use Rattle.source_lines.specs.Lines.{is_ignored}
use Rattle.source_lines.specs.Reading.{Reading as Lines}
use Rattle.transcript_audit.specs.declared.group.Told.{Told}
use Rattle.transcript_audit.specs.declared.group_index.GroupIndex.{GroupIndex}
use Rattle.transcript_audit.specs.declared.transcript.Transcript.{Transcript}
use Rattle.transcript_audit.specs.declared.transcript.Transcript.TheVariants.{Good, Refused}
use Rattle.transcript_audit.specs.declared.said.Said.{Said as Summary}
use Rattle.transcript_audit.specs.declared.said.Said.TheVariants as summary
use Rattle.transcript_audit.specs.Groups.{Group, group_from, grown, may_tell, group_at, entry_of, moment_of, onto}
use Rattle.transcript_audit.specs.Said.{Said, Opens, Shows, Tells, said_of}
use Rattle.transcript_audit.specs.Transcript.{Reading, is_large}

-- what a line says, without its clocks and its report
abbrev pub summary_of : Said → Summary
summary_of Opens = summary.Opens
summary_of (Shows line clocks) = summary.Shows line
summary_of (Tells line w report) = summary.Tells line w

-- what a line adds to a group: nothing where it is ignored, or what it tells; any other ends the group
abbrev pub goes_if : Bool → Option Said → Option (Option (Who × Option Report))
goes_if true said = Some None
goes_if false (Some (Tells n w report)) = Some (Some (w, report))
goes_if false (Some (Shows line clocks)) = None
goes_if false (Some Opens) = None
goes_if false None = None

abbrev pub goes_on : List ℕ → Option (Option (Who × Option Report))
goes_on line = goes_if (is_ignored line) (said_of line)

abbrev pub grown_by : Option (Who × Option Report) → Group → Group
grown_by None g = g
grown_by (Some t) g = grown t.0 t.1 g

abbrev pub grows_by : Option (Option (Who × Option Report)) → (Group → Group) → Group → Group
grows_by None rest g = g
grows_by (Some t) rest g = rest (grown_by t g)

-- the group with what the lines tell, up to the first that ends it
abbrev pub grows : List (List ℕ) → Group → Group
grows [] g = g
grows (l ∷ ls) g = grows_by (goes_on l) (grows ls) g

abbrev pub begun_with : Option Said → List (List ℕ) → Option Group
begun_with (Some (Shows line clocks)) ls = Some (grows ls (group_from line clocks))
begun_with (Some (Tells n w report)) ls = None
begun_with (Some Opens) ls = None
begun_with None ls = None

-- the group that begins with the first of these lines
abbrev pub group_in : List (List ℕ) → Option Group
group_in [] = None
group_in (l ∷ ls) = begun_with (said_of l) ls

abbrev pub group_behind : List ℕ → ℕ → Option Group
group_behind bytes at = group_in (lines_of (drop at bytes))

-- the groups, the last with what these lines tell
abbrev pub groups_with : List (List ℕ) → Reading → List Group
groups_with ls r = onto (option_map (grows ls) r.now) r.before

abbrev pub place_of : ℕ → GroupIndex → Option ℕ
place_of line t = lookup (nat_eq line) t.table.entries

-- the table has of each group its LINE, and the byte with which it begins; these lines are still to be read
pub record Keeps (bytes : List ℕ) (ls : List (List ℕ)) (t : GroupIndex) (r : Reading) : Type 0 where
  pub opened : t.opened ≡ r.opened
  pub now : t.last ≡ option_map (λ g. (g.line, g.who)) r.now
  pub places : (line : ℕ) → option_map (group_behind bytes) (place_of line t) ≡ option_map Some (group_at line (groups_with ls r))

-- whether the LINE is above that of the section's last group, as the table has it
abbrev pub is_over : Option (ℕ × Option Who) → ℕ → Bool
is_over None line = true
is_over (Some now) line = nat_lt now.0 line

abbrev pub may_begin_in : ℕ → GroupIndex → Bool
may_begin_in line t = t.opened && (is_over t.last line && not (is_some (place_of line t)))

-- with a group that begins with this byte
pub record HasBegun (line at : ℕ) (old new : GroupIndex) : Type 0 where
  pub opened : new.opened ≡ true
  pub now : new.last ≡ Some (line, None)
  pub places : (n : ℕ) → place_of n new ≡ (if nat_eq line n then Some at else place_of n old)

abbrev pub Begins : ℕ → ℕ → GroupIndex → GroupIndex → Bool → Type 0
Begins line at old new ok = (ok ≡ may_begin_in line old) × (ok ≡ true → HasBegun line at old new) × (ok ≡ false → new ≡ old)

abbrev pub may_tell_in : ℕ → Who → Option (ℕ × Option Who) → Bool
may_tell_in line w None = false
may_tell_in line w (Some now) = nat_eq now.0 line && may_tell w now.1

-- with an instance that tells something in the last group
pub record HasTold (line : ℕ) (w : Who) (old new : GroupIndex) : Type 0 where
  pub opened : new.opened ≡ old.opened
  pub now : new.last ≡ Some (line, Some w)
  pub table : new.table ≡ old.table

abbrev pub TellsIn : ℕ → Who → GroupIndex → GroupIndex → Bool → Type 0
TellsIn line w old new ok = (ok ≡ may_tell_in line w old.last) × (ok ≡ true → HasTold line w old new)

-- what was said is in its place exactly where this is so, and then the table keeps what is read with it
abbrev pub IsPlaced : List ℕ → List (List ℕ) → GroupIndex → Bool → Option Reading → Type 0
IsPlaced bytes ls t true (Some r) = Keeps bytes ls t r
IsPlaced bytes ls t false None = Unit {0}
IsPlaced bytes ls t true None = ⊥
IsPlaced bytes ls t false (Some r) = ⊥

-- a line is refused so, or the table keeps what is read with it
abbrev pub IsRead : List ℕ → List (List ℕ) → GroupIndex → Option Refusal → Result Reading Refusal → Type 0
IsRead bytes ls t None (Ok r) = Keeps bytes ls t r
IsRead bytes ls t (Some refusal) (Err e) = refusal ≡ e
IsRead bytes ls t None (Err e) = ⊥
IsRead bytes ls t (Some refusal) (Ok r) = ⊥

-- the table has of each group its LINE, and the byte with which it begins
abbrev pub Finds : List ℕ → GroupIndex → List Group → Type 0
Finds bytes t groups = (line : ℕ) → option_map (group_behind bytes) (place_of line t) ≡ option_map Some (group_at line groups)

-- the text and where its groups stand, or how the bytes are refused
abbrev pub IsTranscript : List ℕ → Transcript → Result (List Group) Refusal → Type 0
IsTranscript bytes (Good text t) (Ok groups) = (text.items ≡ bytes) × Finds bytes t groups
IsTranscript bytes (Refused refusal) (Err e) = refusal ≡ e
IsTranscript bytes (Good text t) (Err e) = ⊥
IsTranscript bytes (Refused refusal) (Ok groups) = ⊥

-- a transcript that is not refused was read to the end of the source
abbrev pub LeavesNone : Transcript → Option (List ℕ) → Type 0
LeavesNone (Good text t) left = left ≡ Some []
LeavesNone (Refused refusal) left = Unit {0}

-- the LINEs of the table, in its order
abbrev pub lines_in : GroupIndex → List ℕ
lines_in t = keys t.table

-- the moment is the group's
pub record IsSeen (g : Group) (m : Moment) : Type 0 where
  pub is : seen m ≡ moment_of g

-- what was told so far is the group's
pub record TellsAs (t : Told) (g : Group) : Type 0 where
  pub who : t.who ≡ g.who
  pub reports : t.reports.items ≡ g.reports

-- the line goes on with the group exactly where this is so, and then what was told is the group's with it
abbrev pub GoesOn : Option (Option (Who × Option Report)) → Told → Bool → Group → Type 0
GoesOn (Some t) new true g = TellsAs new (grown_by t g)
GoesOn None new false g = TellsAs new g
GoesOn (Some t) new false g = ⊥
GoesOn None new true g = ⊥

-- what is told in the group, as a moment has it
pub record IsEntry (g : Group) (told : Option (Who × Vec Report)) : Type 0 where
  pub is : audited_entry told ≡ entry_of g.who g.reports

-- each group of the table begins within so many bytes
abbrev pub Within : ℕ → GroupIndex → Type 0
Within n t = (line at : ℕ) → place_of line t ≡ Some at → at ≤ n

-- each group of the table begins within the bytes
abbrev pub Stand : List ℕ → GroupIndex → Type 0
Stand bytes t = Within (length bytes) t

-- the groups of a transcript begin within its text
abbrev pub Stands : Transcript → Type 0
Stands (Good text t) = Stand text.items t
Stands (Refused refusal) = Unit {0}

-- A line that is not refused passes no limit, and stands behind the text.
abbrev pub IsTaken : Option Refusal → ℕ → Lines → List ℕ → List ℕ → Type 0
IsTaken None n reader old new = (is_large n (length old + length reader.whole) reader.line ≡ false) × (new ≡ old ++ reader.whole)
IsTaken (Some refusal) n reader old new = Unit {0}
