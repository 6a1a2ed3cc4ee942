-- The law of each kind: replicas.
use Rattle.std.proofs.Common.{◌≡◌, ℕ, List, Some, refl}
use Rattle.std.specs.Prelude.{IsTrue}
use Rattle.fabric_terms.specs.declared.message.Body.TheVariants.{Promise, Promised, Sync, Fetch, Piece, Adopted, Activate, Activated, Append, Appended, Older}
use Rattle.ring_points.specs.declared.unit.Epoch.{Epoch}
use Rattle.ring_points.specs.declared.unit.Config.{Config}
use Rattle.fabric_terms.specs.Messages.{is_sound_body}
use Rattle.frame_format.specs.Frames.{body_bytes}
use Rattle.frame_format.specs.Replicas.{promise_of, promised_of, sync_of, fetch_of, piece_of, adopted_of, activate_of, activated_of, append_of, appended_of, older_of, replicas_of}
use Rattle.wire_fields.proofs.Forms.{pair_is}
use Rattle.wire_fields.proofs.ConfigLaws.{config_is, payload_is}
use Rattle.wire_fields.proofs.FieldLaws.{epoch_is, last_is, node_is, unit_is, word_is}
use Rattle.frame_format.proofs.BodyForms.{Finds, kind_found, kind_again, case_found, none_finds}

promise_found : Finds 1 48 promise_of
unfolding promise_of
promise_found = kind_found {make = (λ x. Promise x.0 x.1)} unit_is (record { version_is = λ x. refl; kind_is = λ x. refl; sound = λ x h. h; spelled = λ x. refl })

pub promise_again : (partition : ℕ) (epoch : Epoch) → IsTrue (is_sound_body (Promise partition epoch)) → promise_of (body_bytes (Promise partition epoch)) ≡ Some (Promise partition epoch)
unfolding promise_of
promise_again partition epoch h = kind_again unit_is (λ x. Promise x.0 x.1) (partition, epoch) h

promised_found : Finds 1 49 promised_of
unfolding promised_of
promised_found = kind_found {make = (λ x. Promised x.0.0.0 x.0.0.1 x.0.1 x.1)} (pair_is (pair_is unit_is epoch_is) last_is) (record { version_is = λ x. refl; kind_is = λ x. refl; sound = λ x h. h; spelled = λ x. refl })

pub promised_again : (partition : ℕ) (epoch : Epoch) (at : Epoch) (last : ℕ) → IsTrue (is_sound_body (Promised partition epoch at last)) → promised_of (body_bytes (Promised partition epoch at last)) ≡ Some (Promised partition epoch at last)
unfolding promised_of
promised_again partition epoch at last h = kind_again (pair_is (pair_is unit_is epoch_is) last_is) (λ x. Promised x.0.0.0 x.0.0.1 x.0.1 x.1) (((partition, epoch), at), last) h

sync_found : Finds 1 50 sync_of
unfolding sync_of
sync_found = kind_found {make = (λ x. Sync x.0.0.0 x.0.0.1 x.0.1 x.1)} (pair_is (pair_is unit_is node_is) last_is) (record { version_is = λ x. refl; kind_is = λ x. refl; sound = λ x h. h; spelled = λ x. refl })

pub sync_again : (partition : ℕ) (epoch : Epoch) (origin : ℕ) (last : ℕ) → IsTrue (is_sound_body (Sync partition epoch origin last)) → sync_of (body_bytes (Sync partition epoch origin last)) ≡ Some (Sync partition epoch origin last)
unfolding sync_of
sync_again partition epoch origin last h = kind_again (pair_is (pair_is unit_is node_is) last_is) (λ x. Sync x.0.0.0 x.0.0.1 x.0.1 x.1) (((partition, epoch), origin), last) h

fetch_found : Finds 1 51 fetch_of
unfolding fetch_of
fetch_found = kind_found {make = (λ x. Fetch x.0.0 x.0.1 x.1)} (pair_is unit_is word_is) (record { version_is = λ x. refl; kind_is = λ x. refl; sound = λ x h. h; spelled = λ x. refl })

pub fetch_again : (partition : ℕ) (epoch : Epoch) (lsn : ℕ) → IsTrue (is_sound_body (Fetch partition epoch lsn)) → fetch_of (body_bytes (Fetch partition epoch lsn)) ≡ Some (Fetch partition epoch lsn)
unfolding fetch_of
fetch_again partition epoch lsn h = kind_again (pair_is unit_is word_is) (λ x. Fetch x.0.0 x.0.1 x.1) ((partition, epoch), lsn) h

piece_found : Finds 1 52 piece_of
unfolding piece_of
piece_found = kind_found {make = (λ x. Piece x.0.0.0.0 x.0.0.0.1 x.0.0.1 x.0.1 x.1)} (pair_is (pair_is (pair_is unit_is word_is) epoch_is) payload_is) (record { version_is = λ x. refl; kind_is = λ x. refl; sound = λ x h. h; spelled = λ x. refl })

pub piece_again : (partition : ℕ) (epoch : Epoch) (lsn : ℕ) (entry_epoch : Epoch) (text : List ℕ) → IsTrue (is_sound_body (Piece partition epoch lsn entry_epoch text)) → piece_of (body_bytes (Piece partition epoch lsn entry_epoch text)) ≡ Some (Piece partition epoch lsn entry_epoch text)
unfolding piece_of
piece_again partition epoch lsn entry_epoch text h = kind_again (pair_is (pair_is (pair_is unit_is word_is) epoch_is) payload_is) (λ x. Piece x.0.0.0.0 x.0.0.0.1 x.0.0.1 x.0.1 x.1) ((((partition, epoch), lsn), entry_epoch), text) h

adopted_found : Finds 1 53 adopted_of
unfolding adopted_of
adopted_found = kind_found {make = (λ x. Adopted x.0.0 x.0.1 x.1)} (pair_is unit_is word_is) (record { version_is = λ x. refl; kind_is = λ x. refl; sound = λ x h. h; spelled = λ x. refl })

pub adopted_again : (partition : ℕ) (epoch : Epoch) (last : ℕ) → IsTrue (is_sound_body (Adopted partition epoch last)) → adopted_of (body_bytes (Adopted partition epoch last)) ≡ Some (Adopted partition epoch last)
unfolding adopted_of
adopted_again partition epoch last h = kind_again (pair_is unit_is word_is) (λ x. Adopted x.0.0 x.0.1 x.1) ((partition, epoch), last) h

activate_found : Finds 1 54 activate_of
unfolding activate_of
activate_found = kind_found {make = (λ x. Activate x)} config_is (record { version_is = λ x. refl; kind_is = λ x. refl; sound = λ x h. h; spelled = λ x. refl })

pub activate_again : (config : Config) → IsTrue (is_sound_body (Activate config)) → activate_of (body_bytes (Activate config)) ≡ Some (Activate config)
unfolding activate_of
activate_again config h = kind_again config_is (λ x. Activate x) config h

activated_found : Finds 1 55 activated_of
unfolding activated_of
activated_found = kind_found {make = (λ x. Activated x.0 x.1)} unit_is (record { version_is = λ x. refl; kind_is = λ x. refl; sound = λ x h. h; spelled = λ x. refl })

pub activated_again : (partition : ℕ) (epoch : Epoch) → IsTrue (is_sound_body (Activated partition epoch)) → activated_of (body_bytes (Activated partition epoch)) ≡ Some (Activated partition epoch)
unfolding activated_of
activated_again partition epoch h = kind_again unit_is (λ x. Activated x.0 x.1) (partition, epoch) h

append_found : Finds 1 56 append_of
unfolding append_of
append_found = kind_found {make = (λ x. Append x.0.0.0 x.0.0.1 x.0.1 x.1)} (pair_is (pair_is unit_is word_is) payload_is) (record { version_is = λ x. refl; kind_is = λ x. refl; sound = λ x h. h; spelled = λ x. refl })

pub append_again : (partition : ℕ) (epoch : Epoch) (lsn : ℕ) (text : List ℕ) → IsTrue (is_sound_body (Append partition epoch lsn text)) → append_of (body_bytes (Append partition epoch lsn text)) ≡ Some (Append partition epoch lsn text)
unfolding append_of
append_again partition epoch lsn text h = kind_again (pair_is (pair_is unit_is word_is) payload_is) (λ x. Append x.0.0.0 x.0.0.1 x.0.1 x.1) (((partition, epoch), lsn), text) h

appended_found : Finds 1 57 appended_of
unfolding appended_of
appended_found = kind_found {make = (λ x. Appended x.0.0 x.0.1 x.1)} (pair_is unit_is word_is) (record { version_is = λ x. refl; kind_is = λ x. refl; sound = λ x h. h; spelled = λ x. refl })

pub appended_again : (partition : ℕ) (epoch : Epoch) (last : ℕ) → IsTrue (is_sound_body (Appended partition epoch last)) → appended_of (body_bytes (Appended partition epoch last)) ≡ Some (Appended partition epoch last)
unfolding appended_of
appended_again partition epoch last h = kind_again (pair_is unit_is word_is) (λ x. Appended x.0.0 x.0.1 x.1) ((partition, epoch), last) h

older_found : Finds 1 58 older_of
unfolding older_of
older_found = kind_found {make = (λ x. Older x.0.0 x.0.1 x.1)} (pair_is unit_is epoch_is) (record { version_is = λ x. refl; kind_is = λ x. refl; sound = λ x h. h; spelled = λ x. refl })

pub older_again : (partition : ℕ) (epoch : Epoch) (kept : Epoch) → IsTrue (is_sound_body (Older partition epoch kept)) → older_of (body_bytes (Older partition epoch kept)) ≡ Some (Older partition epoch kept)
unfolding older_of
older_again partition epoch kept h = kind_again (pair_is unit_is epoch_is) (λ x. Older x.0.0 x.0.1 x.1) ((partition, epoch), kept) h

pub replicas_found : (kind : ℕ) → Finds 1 kind (replicas_of kind)
unfolding replicas_of
replicas_found kind = case_found 1 kind 48 promise_found (case_found 1 kind 49 promised_found (case_found 1 kind 50 sync_found (case_found 1 kind 51 fetch_found (case_found 1 kind 52 piece_found (case_found 1 kind 53 adopted_found (case_found 1 kind 54 activate_found (case_found 1 kind 55 activated_found (case_found 1 kind 56 append_found (case_found 1 kind 57 appended_found (case_found 1 kind 58 older_found (none_finds 1 kind)))))))))))
