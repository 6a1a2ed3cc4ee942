-- What each word replies.
use Rattle.std.specs.Prelude.{◌≡◌, ◌⊎◌, ℕ, List, Option, is_some, option_map, if◌then◌else◌}
use Rattle.fabric_status.specs.Codes.{code_of}
use Rattle.fabric_status.specs.declared.status.Status.{Status}
use Rattle.line_format.specs.Lines.{event_of}
use Rattle.line_format.specs.Names.{name_at}
use Rattle.line_format.specs.Readers.{line_of}
use Rattle.name_rules.specs.Names.{point_of}
use Rattle.text_fields.specs.Fields.{last}
use Rattle.text_fields.specs.Points.{point_text}
use Rattle.transcript_audit.specs.Audits.{IsAnswer}
use Rattle.fabric_c.specs.Codes.{ok, out_of_memory, not_read}
use Rattle.fabric_c.specs.Lines.{frame_line, record_line}
use Rattle.fabric_c.specs.Replies.{IsShort, ReadsBack, Replies}

-- the line that `fabric audit` writes of these bytes, and the status with which it ends
abbrev pub Audits : List ℕ → List ℕ → ℕ → Type 0
Audits bytes text code = ((ended : Status) × IsAnswer bytes ended text × (code ≡ code_of ended)) ⊎ IsShort text code

abbrev pub name_point : List ℕ → List ℕ
name_point name = point_text (point_of name)

-- the point of a name, in 16 digits
abbrev pub Points : List ℕ → List ℕ → ℕ → Type 0
Points bytes text code = Replies (option_map name_point (last name_at bytes)) text code

abbrev pub read_code : {A : Type 0} → Option A → ℕ
read_code read = if is_some read then ok else not_read

-- whether the bytes are a line of a schedule
abbrev pub event_code : List ℕ → ℕ
event_code line = read_code (event_of line)

-- whether the bytes are a line of a report, or memory was short
abbrev pub IsReportCode : List ℕ → ℕ → Type 0
IsReportCode line code = (code ≡ read_code (line_of line)) ⊎ (code ≡ out_of_memory)

abbrev pub WritesFrame : List ℕ → List ℕ → ℕ → Type 0
WritesFrame bytes text code = Replies (frame_line bytes) text code

abbrev pub ReadsFrame : List ℕ → List ℕ → ℕ → Type 0
ReadsFrame line text code = ReadsBack frame_line line text code

abbrev pub WritesRecord : List ℕ → List ℕ → ℕ → Type 0
WritesRecord bytes text code = Replies (record_line bytes) text code

abbrev pub ReadsRecord : List ℕ → List ℕ → ℕ → Type 0
ReadsRecord line text code = ReadsBack record_line line text code
