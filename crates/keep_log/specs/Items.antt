-- The record that an item is.
use Rattle.fabric_terms.specs.declared.record.Record.{Record}
use Rattle.fabric_terms.specs.declared.record.Record.TheVariants as kept
use Rattle.keep_log.specs.declared.item.Item.{Item}
use Rattle.keep_log.specs.declared.item.Item.TheVariants.{Boot, AccusedBy, PreparedBy, VotedFor, DoneFor, PromisedAt, Wrote, Incoming, AdoptedAt, ClaimedBy}

abbrev pub recorded : Item → Record
recorded (Boot instance) = kept.Boot instance
recorded (AccusedBy victim first) = kept.AccusedBy victim first
recorded (PreparedBy partition epoch preparer) = kept.PreparedBy partition epoch preparer
recorded (VotedFor config) = kept.VotedFor config
recorded (DoneFor config) = kept.DoneFor config
recorded (PromisedAt partition epoch) = kept.PromisedAt partition epoch
recorded (Wrote partition epoch lsn text) = kept.Wrote partition epoch lsn text.now
recorded (Incoming partition epoch lsn entry_epoch text) = kept.Incoming partition epoch lsn entry_epoch text.now
recorded (AdoptedAt partition epoch last is_own) = kept.AdoptedAt partition epoch last is_own
recorded (ClaimedBy victim round claimer) = kept.ClaimedBy victim round claimer
