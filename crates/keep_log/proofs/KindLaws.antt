-- The law of each kind of record: what is read of its fields is spelled so, and what is spelled so is read.
use Rattle.std.proofs.Common.{◌≡◌, ℕ, Bool, true, List, Some, refl}
use Rattle.std.specs.Prelude.{IsTrue, ◌&&◌}
use Rattle.std.proofs.lemmas.Bool.{and_parts, and_from}
use Rattle.ring_points.specs.declared.who.Who.{Who}
use Rattle.ring_points.specs.declared.unit.Epoch.{Epoch}
use Rattle.ring_points.specs.declared.unit.Config.{Config}
use Rattle.fabric_terms.specs.declared.record.Record.{Record}
use Rattle.fabric_terms.specs.declared.record.Record.TheVariants.{Boot, AccusedBy, PreparedBy, VotedFor, DoneFor, PromisedAt, Wrote, Incoming, AdoptedAt, ClaimedBy}
use Rattle.fabric_terms.specs.Fields.{is_unit, is_word}
use Rattle.wire_fields.proofs.Forms.{IsField, pair_is, such_is, byte_is, whole_again}
use Rattle.wire_fields.specs.Texts.{one_byte}
use Rattle.wire_fields.proofs.ConfigLaws.{config_is, payload_is}
use Rattle.wire_fields.proofs.FieldLaws.{counted_is, epoch_is, flag_is, last_is, unit_is, who_is, word_is}
use Rattle.keep_log.specs.Spellings.{is_later_round, is_sound, kind_of, fields_of}
use Rattle.keep_log.specs.Readings.{later_round_at, boot_of, accused_by_of, prepared_by_of, voted_for_of, done_for_of, promised_at_of, wrote_of, incoming_of, adopted_at_of, claimed_by_of, fields_read}
use Rattle.keep_log.proofs.RecordForms.{Finds, kind_found, case_found, none_finds}

later_round_is : IsField later_round_at is_later_round one_byte
unfolding later_round_at
later_round_is = such_is byte_is is_later_round is_later_round (λ n a b. b) (λ n h. (refl, h))

boot_found : Finds 1 boot_of
unfolding boot_of
boot_found = kind_found {make = (λ x. Boot x)} counted_is (record { kind_is = λ x. refl; sound = λ x h. h; spelled = λ x. refl })

boot_again : (instance : ℕ) → IsTrue (is_sound (Boot instance)) → boot_of (fields_of (Boot instance)) ≡ Some (Boot instance)
unfolding boot_of
boot_again instance h = whole_again counted_is (λ x. Boot x) instance h

accused_by_found : Finds 2 accused_by_of
unfolding accused_by_of
accused_by_found = kind_found {make = (λ x. AccusedBy x.0 x.1)} (pair_is who_is who_is) (record { kind_is = λ x. refl; sound = λ x h. h; spelled = λ x. refl })

accused_by_again : (victim : Who) (first : Who) → IsTrue (is_sound (AccusedBy victim first)) → accused_by_of (fields_of (AccusedBy victim first)) ≡ Some (AccusedBy victim first)
unfolding accused_by_of
accused_by_again victim first h = whole_again (pair_is who_is who_is) (λ x. AccusedBy x.0 x.1) (victim, first) h

prepared_by_found : Finds 3 prepared_by_of
unfolding prepared_by_of
prepared_by_found = kind_found {make = (λ x. PreparedBy x.0.0 x.0.1 x.1)} (pair_is unit_is who_is) (record { kind_is = λ x. refl; sound = λ x h. h; spelled = λ x. refl })

prepared_by_again : (partition : ℕ) (epoch : Epoch) (preparer : Who) → IsTrue (is_sound (PreparedBy partition epoch preparer)) → prepared_by_of (fields_of (PreparedBy partition epoch preparer)) ≡ Some (PreparedBy partition epoch preparer)
unfolding prepared_by_of
prepared_by_again partition epoch preparer h = whole_again (pair_is unit_is who_is) (λ x. PreparedBy x.0.0 x.0.1 x.1) ((partition, epoch), preparer) h

voted_for_found : Finds 4 voted_for_of
unfolding voted_for_of
voted_for_found = kind_found {make = (λ x. VotedFor x)} config_is (record { kind_is = λ x. refl; sound = λ x h. h; spelled = λ x. refl })

voted_for_again : (config : Config) → IsTrue (is_sound (VotedFor config)) → voted_for_of (fields_of (VotedFor config)) ≡ Some (VotedFor config)
unfolding voted_for_of
voted_for_again config h = whole_again config_is (λ x. VotedFor x) config h

done_for_found : Finds 5 done_for_of
unfolding done_for_of
done_for_found = kind_found {make = (λ x. DoneFor x)} config_is (record { kind_is = λ x. refl; sound = λ x h. h; spelled = λ x. refl })

done_for_again : (config : Config) → IsTrue (is_sound (DoneFor config)) → done_for_of (fields_of (DoneFor config)) ≡ Some (DoneFor config)
unfolding done_for_of
done_for_again config h = whole_again config_is (λ x. DoneFor x) config h

promised_at_found : Finds 6 promised_at_of
unfolding promised_at_of
promised_at_found = kind_found {make = (λ x. PromisedAt x.0 x.1)} unit_is (record { kind_is = λ x. refl; sound = λ x h. h; spelled = λ x. refl })

promised_at_again : (partition : ℕ) (epoch : Epoch) → IsTrue (is_sound (PromisedAt partition epoch)) → promised_at_of (fields_of (PromisedAt partition epoch)) ≡ Some (PromisedAt partition epoch)
unfolding promised_at_of
promised_at_again partition epoch h = whole_again unit_is (λ x. PromisedAt x.0 x.1) (partition, epoch) h

wrote_found : Finds 7 wrote_of
unfolding wrote_of
wrote_found = kind_found {make = (λ x. Wrote x.0.0.0 x.0.0.1 x.0.1 x.1)} (pair_is (pair_is unit_is last_is) payload_is) (record { kind_is = λ x. refl; sound = λ x h. h; spelled = λ x. refl })

wrote_again : (partition : ℕ) (epoch : Epoch) (lsn : ℕ) (text : List ℕ) → IsTrue (is_sound (Wrote partition epoch lsn text)) → wrote_of (fields_of (Wrote partition epoch lsn text)) ≡ Some (Wrote partition epoch lsn text)
unfolding wrote_of
wrote_again partition epoch lsn text h = whole_again (pair_is (pair_is unit_is last_is) payload_is) (λ x. Wrote x.0.0.0 x.0.0.1 x.0.1 x.1) (((partition, epoch), lsn), text) h

incoming_found : Finds 8 incoming_of
unfolding incoming_of
incoming_found = kind_found {make = (λ x. Incoming x.0.0.0.0 x.0.0.0.1 x.0.0.1 x.0.1 x.1)} (pair_is (pair_is (pair_is unit_is last_is) epoch_is) payload_is) (record { kind_is = λ x. refl; sound = λ x h. h; spelled = λ x. refl })

incoming_again : (partition : ℕ) (epoch : Epoch) (lsn : ℕ) (entry_epoch : Epoch) (text : List ℕ) → IsTrue (is_sound (Incoming partition epoch lsn entry_epoch text)) → incoming_of (fields_of (Incoming partition epoch lsn entry_epoch text)) ≡ Some (Incoming partition epoch lsn entry_epoch text)
unfolding incoming_of
incoming_again partition epoch lsn entry_epoch text h = whole_again (pair_is (pair_is (pair_is unit_is last_is) epoch_is) payload_is) (λ x. Incoming x.0.0.0.0 x.0.0.0.1 x.0.0.1 x.0.1 x.1) ((((partition, epoch), lsn), entry_epoch), text) h

adopted_at_found : Finds 9 adopted_at_of
unfolding adopted_at_of
adopted_at_found = kind_found {make = (λ x. AdoptedAt x.0.0.0 x.0.0.1 x.0.1 x.1)} (pair_is (pair_is unit_is word_is) flag_is) (record { kind_is = λ x. refl; sound = λ x h. (and_parts (is_unit x.0.0.0 x.0.0.1 && is_word x.0.1) true h).0; spelled = λ x. refl })

adopted_at_again : (partition : ℕ) (epoch : Epoch) (last : ℕ) (is_own : Bool) → IsTrue (is_sound (AdoptedAt partition epoch last is_own)) → adopted_at_of (fields_of (AdoptedAt partition epoch last is_own)) ≡ Some (AdoptedAt partition epoch last is_own)
unfolding adopted_at_of
adopted_at_again partition epoch last is_own h = whole_again (pair_is (pair_is unit_is word_is) flag_is) (λ x. AdoptedAt x.0.0.0 x.0.0.1 x.0.1 x.1) (((partition, epoch), last), is_own) (and_from (is_unit partition epoch && is_word last) true h refl)

claimed_by_found : Finds 10 claimed_by_of
unfolding claimed_by_of
claimed_by_found = kind_found {make = (λ x. ClaimedBy x.0.0 x.0.1 x.1)} (pair_is (pair_is who_is later_round_is) who_is) (record { kind_is = λ x. refl; sound = λ x h. h; spelled = λ x. refl })

claimed_by_again : (victim : Who) (round : ℕ) (claimer : Who) → IsTrue (is_sound (ClaimedBy victim round claimer)) → claimed_by_of (fields_of (ClaimedBy victim round claimer)) ≡ Some (ClaimedBy victim round claimer)
unfolding claimed_by_of
claimed_by_again victim round claimer h = whole_again (pair_is (pair_is who_is later_round_is) who_is) (λ x. ClaimedBy x.0.0 x.0.1 x.1) ((victim, round), claimer) h

pub fields_found : (kind : ℕ) → Finds kind (fields_read kind)
unfolding fields_read
fields_found kind =
    case_found kind 1 boot_found
    (case_found kind 2 accused_by_found
    (case_found kind 3 prepared_by_found
    (case_found kind 4 voted_for_found
    (case_found kind 5 done_for_found
    (case_found kind 6 promised_at_found
    (case_found kind 7 wrote_found
    (case_found kind 8 incoming_found
    (case_found kind 9 adopted_at_found
    (case_found kind 10 claimed_by_found
    (none_finds kind))))))))))

pub fields_again : (r : Record) → IsTrue (is_sound r) → fields_read (kind_of r) (fields_of r) ≡ Some r
unfolding fields_read
fields_again (Boot instance) h = boot_again instance h
fields_again (AccusedBy victim first) h = accused_by_again victim first h
fields_again (PreparedBy partition epoch preparer) h = prepared_by_again partition epoch preparer h
fields_again (VotedFor config) h = voted_for_again config h
fields_again (DoneFor config) h = done_for_again config h
fields_again (PromisedAt partition epoch) h = promised_at_again partition epoch h
fields_again (Wrote partition epoch lsn text) h = wrote_again partition epoch lsn text h
fields_again (Incoming partition epoch lsn entry_epoch text) h = incoming_again partition epoch lsn entry_epoch text h
fields_again (AdoptedAt partition epoch last is_own) h = adopted_at_again partition epoch last is_own h
fields_again (ClaimedBy victim round claimer) h = claimed_by_again victim round claimer h
