-- Records of units whose numbers, texts and configurations fit.
use Rattle.std.specs.Prelude.{◌&&◌, IsTrue}
use Rattle.fabric_terms.specs.declared.record.Record.{Record}
use Rattle.fabric_terms.specs.declared.record.Record.TheVariants.{PreparedBy, VotedFor, DoneFor, PromisedAt, Wrote, Incoming, AdoptedAt}
use Rattle.fabric_terms.specs.Fields.{is_config, is_epoch, is_last, is_payload, is_unit, is_word}
use Rattle.frames_fit.specs.Tables.{RecordInRange}

-- a register is made of the first three, and a replica of the others
abbrev pub UnitRecord : Record → Type 0
UnitRecord (PreparedBy partition epoch preparer) = IsTrue (is_unit partition epoch)
UnitRecord (VotedFor config) = IsTrue (is_config config)
UnitRecord (DoneFor config) = IsTrue (is_config config)
UnitRecord (PromisedAt partition epoch) = IsTrue (is_unit partition epoch)
UnitRecord (Wrote partition epoch lsn text) = IsTrue ((is_unit partition epoch && is_last lsn) && is_payload text)
UnitRecord (Incoming partition epoch lsn entry_epoch text) =
    IsTrue (((is_unit partition epoch && is_last lsn) && is_epoch entry_epoch) && is_payload text)
UnitRecord (AdoptedAt partition epoch last is_own) = IsTrue (is_unit partition epoch && is_word last)
UnitRecord _ = Unit {0}

abbrev pub KeptRecord : Record → Type 0
KeptRecord = RecordInRange UnitRecord
