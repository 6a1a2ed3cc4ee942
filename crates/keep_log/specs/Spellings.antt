-- How a record is spelled.
use Rattle.std.specs.Prelude.{ℕ, Bool, ◌&&◌, nat_lt, List, ◌∷◌, ◌++◌}
use Rattle.fabric_terms.specs.declared.record.Record.{Record}
use Rattle.fabric_terms.specs.declared.record.Record.TheVariants.{Boot, AccusedBy, PreparedBy, VotedFor, DoneFor, PromisedAt, Wrote, Incoming, AdoptedAt, ClaimedBy}
use Rattle.fabric_terms.specs.Fields.{is_config, is_counted, is_epoch, is_last, is_payload, is_round, is_unit, is_who, is_word}
use Rattle.wire_fields.specs.Texts.{claim_bytes, config_bytes, epoch_bytes, flag_bytes, number_bytes, numbered_bytes, payload_bytes, unit_bytes, who_bytes}

-- a round after the first
abbrev pub is_later_round : ℕ → Bool
is_later_round round = nat_lt 1 round && is_round round

-- what the record names is in its range
abbrev pub is_sound : Record → Bool
is_sound (Boot instance) = is_counted instance
is_sound (AccusedBy victim first) = is_who victim && is_who first
is_sound (PreparedBy partition epoch preparer) = is_unit partition epoch && is_who preparer
is_sound (VotedFor config) = is_config config
is_sound (DoneFor config) = is_config config
is_sound (PromisedAt partition epoch) = is_unit partition epoch
is_sound (Wrote partition epoch lsn text) = (is_unit partition epoch && is_last lsn) && is_payload text
is_sound (Incoming partition epoch lsn entry_epoch text) =
    ((is_unit partition epoch && is_last lsn) && is_epoch entry_epoch) && is_payload text
is_sound (AdoptedAt partition epoch last is_own) = is_unit partition epoch && is_word last
is_sound (ClaimedBy victim round claimer) = (is_who victim && is_later_round round) && is_who claimer

-- a byte for the kind
abbrev pub kind_of : Record → ℕ
kind_of (Boot instance) = 1
kind_of (AccusedBy victim first) = 2
kind_of (PreparedBy partition epoch preparer) = 3
kind_of (VotedFor config) = 4
kind_of (DoneFor config) = 5
kind_of (PromisedAt partition epoch) = 6
kind_of (Wrote partition epoch lsn text) = 7
kind_of (Incoming partition epoch lsn entry_epoch text) = 8
kind_of (AdoptedAt partition epoch last is_own) = 9
kind_of (ClaimedBy victim round claimer) = 10

-- the fields one after the other
abbrev pub fields_of : Record → List ℕ
fields_of (Boot instance) = number_bytes 4 instance
fields_of (AccusedBy victim first) = who_bytes victim ++ who_bytes first
fields_of (PreparedBy partition epoch preparer) = unit_bytes partition epoch ++ who_bytes preparer
fields_of (VotedFor config) = config_bytes config
fields_of (DoneFor config) = config_bytes config
fields_of (PromisedAt partition epoch) = unit_bytes partition epoch
fields_of (Wrote partition epoch lsn text) = numbered_bytes partition epoch lsn ++ payload_bytes text
fields_of (Incoming partition epoch lsn entry_epoch text) =
    (numbered_bytes partition epoch lsn ++ epoch_bytes entry_epoch) ++ payload_bytes text
fields_of (AdoptedAt partition epoch last is_own) = numbered_bytes partition epoch last ++ flag_bytes is_own
fields_of (ClaimedBy victim round claimer) = claim_bytes victim round claimer

abbrev pub spelling : Record → List ℕ
spelling r = kind_of r ∷ fields_of r
