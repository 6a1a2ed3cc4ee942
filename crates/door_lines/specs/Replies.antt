-- The lines of an answer, and that no two answers have one line.
use Rattle.std.specs.Prelude.{◌≡◌, ℕ, List, [], ◌∷◌, ◌++◌, Option, codes, decimal}
use Rattle.fabric_terms.specs.declared.report.Head.{Head}
use Rattle.fabric_terms.specs.declared.report.Report.{Report}
use Rattle.fabric_terms.specs.Ranges.{IsLong, IsOptional, FitsHead, FitsReport}
use Rattle.text_fields.specs.Numbers.{optional_text}
use Rattle.text_fields.specs.Texts.{spaced}
use Rattle.line_format.specs.Reports.{report_words}

-- one line of an answer, the end of an answer, or what is given up
pub data Reply : Type 0 where
  -- the tag is missing where none could be read
  Says : (tag : Option ℕ) (words : List ℕ) → Reply
  Done : (tag : Option ℕ) → Reply
  GivesUp : (number : ℕ) (head : Head) (report : Report) → Reply

-- how a reply is spelled
abbrev pub reply_text : Reply → List ℕ
reply_text (Says tag words) = codes "@" ++ spaced (optional_text tag ∷ words ∷ []) ++ codes "\n"
reply_text (Done tag) = spaced (codes "done" ∷ optional_text tag ∷ []) ++ codes "\n"
reply_text (GivesUp number head report) = codes "#" ++ spaced (decimal number ∷ report_words head report ∷ []) ++ codes "\n"

-- the numbers and reports of a reply are in their ranges
abbrev pub FitsReply : Reply → Type 0
FitsReply (Says tag words) = IsOptional tag
FitsReply (Done tag) = IsOptional tag
FitsReply (GivesUp number head report) = IsLong number × FitsHead head × FitsReport report

-- two equal lines are of equal replies
abbrev pub RepliesHaveOneLine : Type 0
RepliesHaveOneLine = (a b : Reply) → FitsReply a → FitsReply b → reply_text a ≡ reply_text b → a ≡ b
