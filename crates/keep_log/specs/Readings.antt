-- What is read as a record.
use Rattle.std.specs.Prelude.{ℕ, List, Option, None, ◌==◌, if◌then◌else◌}
use Rattle.fabric_terms.specs.declared.record.Record.{Record}
use Rattle.fabric_terms.specs.declared.record.Record.TheVariants.{Boot, AccusedBy, PreparedBy, VotedFor, DoneFor, PromisedAt, Wrote, Incoming, AdoptedAt, ClaimedBy}
use Rattle.wire_fields.specs.Readers.{◌>>=◌, such, pair, whole, byte_at, config_at, counted_at, epoch_at, flag_at, last_at, numbered_at, payload_at, unit_at, who_at}
use Rattle.keep_log.specs.Spellings.{is_later_round}

unfoldable pub later_round_at : List ℕ → Option (ℕ × List ℕ)
later_round_at = such is_later_round byte_at

unfoldable pub boot_of : List ℕ → Option Record
boot_of = whole (λ x. Boot x) counted_at

unfoldable pub accused_by_of : List ℕ → Option Record
accused_by_of = whole (λ x. AccusedBy x.0 x.1) (pair who_at who_at)

unfoldable pub prepared_by_of : List ℕ → Option Record
prepared_by_of = whole (λ x. PreparedBy x.0.0 x.0.1 x.1) (pair unit_at who_at)

unfoldable pub voted_for_of : List ℕ → Option Record
voted_for_of = whole (λ x. VotedFor x) config_at

unfoldable pub done_for_of : List ℕ → Option Record
done_for_of = whole (λ x. DoneFor x) config_at

unfoldable pub promised_at_of : List ℕ → Option Record
promised_at_of = whole (λ x. PromisedAt x.0 x.1) unit_at

unfoldable pub wrote_of : List ℕ → Option Record
wrote_of = whole (λ x. Wrote x.0.0.0 x.0.0.1 x.0.1 x.1) (pair (pair unit_at last_at) payload_at)

unfoldable pub incoming_of : List ℕ → Option Record
incoming_of = whole (λ x. Incoming x.0.0.0.0 x.0.0.0.1 x.0.0.1 x.0.1 x.1) (pair (pair (pair unit_at last_at) epoch_at) payload_at)

unfoldable pub adopted_at_of : List ℕ → Option Record
adopted_at_of = whole (λ x. AdoptedAt x.0.0.0 x.0.0.1 x.0.1 x.1) (pair numbered_at flag_at)

unfoldable pub claimed_by_of : List ℕ → Option Record
claimed_by_of = whole (λ x. ClaimedBy x.0.0 x.0.1 x.1) (pair (pair who_at later_round_at) who_at)

-- the fields, by the kind
unfoldable pub fields_read : ℕ → List ℕ → Option Record
fields_read kind bytes =
    if kind == 1 then boot_of bytes else (
    if kind == 2 then accused_by_of bytes else (
    if kind == 3 then prepared_by_of bytes else (
    if kind == 4 then voted_for_of bytes else (
    if kind == 5 then done_for_of bytes else (
    if kind == 6 then promised_at_of bytes else (
    if kind == 7 then wrote_of bytes else (
    if kind == 8 then incoming_of bytes else (
    if kind == 9 then adopted_at_of bytes else (
    if kind == 10 then claimed_by_of bytes else (
    None
    ))))))))))

-- a record
unfoldable pub record_of : List ℕ → Option Record
record_of bytes = byte_at bytes >>= λ x. fields_read x.0 x.1
