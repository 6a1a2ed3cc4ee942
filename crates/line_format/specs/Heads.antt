-- Where a report comes from: the line of the event, the true time, the instance and its reading.
use Rattle.std.specs.Prelude.{ℕ, Bool, not, List, [], ◌∷◌, Option, Some, None, decimal, nat_lt, if◌then◌else◌}
use Rattle.fabric_terms.specs.declared.report.Head.{Head}
use Rattle.ring_points.specs.declared.who.Who.{Who}
use Rattle.ring_points.specs.Whos.{arbiter_actor}
use Rattle.text_fields.specs.Fields.{◌>>=◌, Field, word_of}
use Rattle.text_fields.specs.Instances.{who_at, who_text}
use Rattle.text_fields.specs.Numbers.{long_at, optional_at, optional_text}
use Rattle.text_fields.specs.Texts.{spaced}

abbrev pub is_arbiter : Who → Bool
is_arbiter who = nat_lt (arbiter_actor 0) who.actor

-- an arbitrator has no reading, and a node has one
abbrev pub has_its_reading : Who → Option ℕ → Bool
has_its_reading who None = is_arbiter who
has_its_reading who (Some reading) = not (is_arbiter who)

abbrev pub head_made : ℕ → Option ℕ → Who → Option ℕ → Head
head_made line time who reading = record { line = line; time = time; who = who; reading = reading }

-- a head, and the blank behind it
unfoldable pub head_at : List ℕ → Field Head
head_at bytes =
    word_of long_at bytes >>= λ line. word_of optional_at line.1 >>= λ time. word_of who_at time.1 >>= λ who.
    word_of optional_at who.1 >>= λ reading.
    if has_its_reading who.0 reading.0 then Some (head_made line.0 time.0 who.0 reading.0, reading.1) else None

abbrev pub head_text : Head → List ℕ
head_text head = spaced (decimal head.line ∷ optional_text head.time ∷ who_text head.who ∷ optional_text head.reading ∷ [])
