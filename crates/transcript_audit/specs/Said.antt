-- What a line of a transcript says.
use Rattle.std.specs.Prelude.{ℕ, zero, suc, ◌++◌, List, [], ◌∷◌, Option, Some, None, codes, if◌then◌else◌}
use Rattle.ring_points.specs.Limits.{most_counter, most_nodes}
use Rattle.ring_points.specs.declared.who.Who.{Who}
use Rattle.fabric_terms.specs.declared.report.Report.{Report}
use Rattle.fabric_terms.specs.Runs.{Clocks}
use Rattle.run_audit.specs.Breaches.{first_of}
use Rattle.run_audit.specs.Clocks.{comes_after}
use Rattle.line_format.specs.Heads.{head_at}
use Rattle.line_format.specs.Readers.{line_of}
use Rattle.text_fields.specs.Fields.{◌>>=◌, Field, after_word, last, word_of, made, pair_at}
use Rattle.text_fields.specs.Instances.{instance_at}
use Rattle.text_fields.specs.Numbers.{number_in, long_at}

-- A section opens; a group begins, with its LINE and its clocks; or an instance tells a report, or the numbers of frames
-- that it sent.
pub data Said : Type 0 where
  Opens : Said
  Shows : ℕ → Clocks → Said
  Tells : ℕ → Who → Option Report → Said

-- the greatest number of a section
abbrev pub most_section : ℕ
most_section = 999

-- `transcript N`
abbrev pub section_at : List ℕ → Option ℕ
section_at bytes = after_word (codes "transcript ") bytes >>= last (number_in 0 most_section)

-- ` N.K:READING`
unfoldable pub clock_at : List ℕ → Field (Who × ℕ)
clock_at bytes = after_word (codes " ") bytes >>= pair_at instance_at (codes ":") long_at

-- up to k clocks more, above the last, to the end of the line, behind those so far
unfoldable pub clocks_on : ℕ → Option Who → Clocks → List ℕ → Option Clocks
clocks_on k above clocks [] = Some clocks
clocks_on zero above clocks (b ∷ bs) = None
clocks_on (suc k) above clocks (b ∷ bs) =
    clock_at (b ∷ bs) >>= λ c. if comes_after above c.0.0 then clocks_on k (Some c.0.0) (clocks ++ c.0 ∷ []) c.1 else None

-- `LINE clocks N.K:READING ..`, with clocks that rise, at most one of each node of a configuration
unfoldable pub shown_of : List ℕ → Option (ℕ × Clocks)
shown_of bytes =
    word_of long_at bytes >>= λ line. after_word (codes "clocks") line.1 >>= λ rest. clocks_on most_nodes None [] rest >>= λ clocks. Some (line.0, clocks)

-- `FIRST-LAST`, from 1 and not falling
abbrev pub span_of : List ℕ → Option ℕ
span_of bytes = number_in 1 most_counter bytes >>= λ first. after_word (codes "-") first.1 >>= last (number_in first.0 most_counter)

-- a head and `sent FIRST-LAST`: the LINE and who
unfoldable pub sent_of : List ℕ → Option (ℕ × Who)
sent_of bytes = head_at bytes >>= λ head. after_word (codes "sent ") head.1 >>= λ rest. span_of rest >>= λ n. Some (head.0.line, head.0.who)

abbrev pub told_of : List ℕ → Option Said
told_of bytes = line_of bytes >>= λ x. Some (Tells x.0.line x.0.who (Some x.1))

-- what an instance tells on a line
abbrev pub telling_of : List ℕ → Option Said
telling_of bytes = first_of (told_of bytes) (made (λ x. Tells x.0 x.1 None) sent_of bytes)

-- what a line says, if it is one of a transcript
unfoldable pub said_of : List ℕ → Option Said
said_of bytes =
    first_of (told_of bytes) (
    first_of (made (λ x. Tells x.0 x.1 None) sent_of bytes) (
    first_of (made (λ x. Shows x.0 x.1) shown_of bytes) (made (λ n. Opens) section_at bytes)
    )
    )
