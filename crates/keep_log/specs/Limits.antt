-- The limits of records.
use Rattle.std.specs.Prelude.{ℕ, ◌+◌}
use Rattle.wire_fields.specs.Sizes.{most_payload_size}

-- bytes of a record
abbrev pub most_record : ℕ
most_record = 600

-- bytes of a record's fields: the longest are those of an incoming entry, a partition, an epoch, a number, the entry's
-- epoch and its bytes
abbrev pub most_fields_size : ℕ
most_fields_size = 22 + most_payload_size
