-- No frame has more bytes than it may.
use Rattle.std.proofs.Common.{◌≤◌, ◌&&◌, length, arith, length-append}
use Rattle.std.specs.Prelude.{IsTrue}
use Rattle.std.proofs.lemmas.Bool.{and_parts}
use Rattle.fabric_terms.specs.declared.message.Message.{Message}
use Rattle.fabric_terms.specs.declared.message.Body.{Body}
use Rattle.fabric_terms.specs.declared.message.Body.TheVariants.{Hello, HelloFor, Offer, OfferFor, Take, Renew, RenewAck, Transfer, Gone, Seek, Found, Accuse, Ruled, Claim, Kept, Prepare, Prepared, NoPrepare, Vote, Voted, NoVote, DoneAsk, DoneKept, NoDone, Promise, Promised, Sync, Fetch, Piece, Adopted, Activate, Activated, Append, Appended, Older}
use Rattle.ring_points.specs.Limits.{most_frame}
use Rattle.ring_points.specs.Ranges.{is_proper}
use Rattle.fabric_terms.specs.Fields.{is_session, is_unit, is_word, is_counted, is_stamp, is_epoch, is_part, is_some, is_config, is_done, is_payload, is_sender, is_addressee, same_unit}
use Rattle.fabric_terms.specs.Messages.{is_sound_body, is_sound}
use Rattle.frame_format.specs.Sizes.{most_body_size}
use Rattle.frame_format.specs.Frames.{body_bytes, spelling}
use Rattle.wire_fields.proofs.Puts.{number_length}
use Rattle.wire_fields.proofs.Standing.{who_length, epoch_length}
use Rattle.wire_fields.proofs.FieldLengths.{byte_length, session_length, unit_length, flag_length, ruling_length, ranges_length, config_length, payload_length, done_length}

ruleset sizes = (byte_length, session_length, unit_length, number_length, who_length, epoch_length, flag_length, ruling_length, length-append)

pub body_short : (b : Body) → IsTrue (is_sound_body b) → length (body_bytes b) ≤ most_body_size
body_short (Hello mine) h = simp sizes (omega arith)
body_short (HelloFor mine ticks) h = simp sizes (omega arith)
body_short (Offer mine yours) h = simp sizes (omega arith)
body_short (OfferFor mine yours ticks) h = simp sizes (omega arith)
body_short (Take mine yours) h = simp sizes (omega arith)
body_short (Renew mine yours stamp version got want ranges) h = let r = ranges_length ranges (and_parts (is_session mine yours && is_stamp stamp && is_word version && is_word got) (is_proper ranges) h).1 in simp sizes (omega arith)
body_short (RenewAck mine yours stamp version) h = simp sizes (omega arith)
body_short (Transfer mine yours flight ranges) h = let r = ranges_length ranges (and_parts (is_proper ranges) (is_some ranges) (and_parts (is_session mine yours && is_counted flight) (is_part ranges) h).1).0 in simp sizes (omega arith)
body_short (Gone mine yours got bound) h = simp sizes (omega arith)
body_short (Seek origin key hops) h = simp sizes (omega arith)
body_short (Found key holder) h = simp sizes (omega arith)
body_short (Accuse victim) h = simp sizes (omega arith)
body_short (Ruled victim ruling) h = simp sizes (omega arith)
body_short (Claim victim round) h = simp sizes (omega arith)
body_short (Kept victim round claimer) h = simp sizes (omega arith)
body_short (Prepare partition epoch) h = simp sizes (omega arith)
body_short (Prepared partition epoch config) h = let r = done_length config (and_parts (is_unit partition epoch) (is_done config) h).1 in simp sizes (omega arith)
body_short (NoPrepare partition epoch kept) h = simp sizes (omega arith)
body_short (Vote config) h = let r = config_length config h in omega arith
body_short (Voted partition epoch kept) h = let r = config_length kept (and_parts (is_unit partition epoch) (is_config kept) (and_parts (is_unit partition epoch && is_config kept) (same_unit partition epoch kept) h).0).1 in simp sizes (omega arith)
body_short (NoVote partition epoch kept) h = simp sizes (omega arith)
body_short (DoneAsk config) h = let r = config_length config h in omega arith
body_short (DoneKept partition epoch) h = simp sizes (omega arith)
body_short (NoDone partition epoch kept) h = simp sizes (omega arith)
body_short (Promise partition epoch) h = simp sizes (omega arith)
body_short (Promised partition epoch at last) h = simp sizes (omega arith)
body_short (Sync partition epoch origin last) h = simp sizes (omega arith)
body_short (Fetch partition epoch lsn) h = simp sizes (omega arith)
body_short (Piece partition epoch lsn entry_epoch text) h = let r = payload_length text (and_parts (is_unit partition epoch && is_word lsn && is_epoch entry_epoch) (is_payload text) h).1 in simp sizes (omega arith)
body_short (Adopted partition epoch last) h = simp sizes (omega arith)
body_short (Activate config) h = let r = config_length config h in omega arith
body_short (Activated partition epoch) h = simp sizes (omega arith)
body_short (Append partition epoch lsn text) h = let r = payload_length text (and_parts (is_unit partition epoch && is_word lsn) (is_payload text) h).1 in simp sizes (omega arith)
body_short (Appended partition epoch last) h = simp sizes (omega arith)
body_short (Older partition epoch kept) h = simp sizes (omega arith)

pub spelling_short : (m : Message) → IsTrue (is_sound m) → length (spelling m) ≤ most_frame
spelling_short m h =
    let b = body_short m.body (and_parts (is_sender m.from && is_addressee m.to) (is_sound_body m.body) h).1 in
    simp sizes (omega arith)
