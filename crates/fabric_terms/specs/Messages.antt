-- Which messages are in the grammar of frames: each number, list and text in its range.
use Rattle.std.specs.Prelude.{Bool, ◌&&◌}
use Rattle.ring_points.specs.Ranges.{is_proper}
use Rattle.fabric_terms.specs.declared.message.Message.{Message}
use Rattle.fabric_terms.specs.declared.message.Body.{Body}
use Rattle.fabric_terms.specs.declared.message.Body.TheVariants.{Hello, HelloFor, Offer, OfferFor, Take, Renew, RenewAck, Transfer, Gone, Seek, Found, Accuse, Ruled, Claim, Kept, Prepare, Prepared, NoPrepare, Vote, Voted, NoVote, DoneAsk, DoneKept, NoDone, Promise, Promised, Sync, Fetch, Piece, Adopted, Activate, Activated, Append, Appended, Older}
use Rattle.fabric_terms.specs.Fields.{is_session, is_unit, is_done, is_part, is_word, is_long, is_counted, is_stamp, is_lease, is_last, is_hops, is_round, is_node, is_who, is_sender, is_addressee, is_epoch, same_unit, is_config, is_payload}

-- the numbers, lists and texts of a body are in their ranges
abbrev pub is_sound_body : Body → Bool
is_sound_body (Hello mine) = is_counted mine
is_sound_body (HelloFor mine length) = is_counted mine && is_lease length
is_sound_body (Offer mine yours) = is_session mine yours
is_sound_body (OfferFor mine yours length) = is_session mine yours && is_lease length
is_sound_body (Take mine yours) = is_session mine yours
is_sound_body (Renew mine yours stamp version got want ranges) = is_session mine yours && is_stamp stamp && is_word version && is_word got && is_proper ranges
is_sound_body (RenewAck mine yours stamp version) = is_session mine yours && is_stamp stamp && is_word version
is_sound_body (Transfer mine yours flight ranges) = is_session mine yours && is_counted flight && is_part ranges
is_sound_body (Gone mine yours got bound) = is_session mine yours && is_word got
is_sound_body (Seek origin key hops) = is_who origin && is_long key.0 && is_hops hops
is_sound_body (Found key holder) = is_long key.0 && is_who holder
is_sound_body (Accuse victim) = is_who victim
is_sound_body (Ruled victim ruling) = is_who victim
is_sound_body (Claim victim round) = is_who victim && is_round round
is_sound_body (Kept victim round claimer) = is_who victim && is_round round && is_who claimer
is_sound_body (Prepare partition epoch) = is_unit partition epoch
is_sound_body (Prepared partition epoch config) = is_unit partition epoch && is_done config
is_sound_body (NoPrepare partition epoch kept) = is_unit partition epoch && is_epoch kept
is_sound_body (Vote config) = is_config config
is_sound_body (Voted partition epoch kept) = is_unit partition epoch && is_config kept && same_unit partition epoch kept
is_sound_body (NoVote partition epoch kept) = is_unit partition epoch && is_epoch kept
is_sound_body (DoneAsk config) = is_config config
is_sound_body (DoneKept partition epoch) = is_unit partition epoch
is_sound_body (NoDone partition epoch kept) = is_unit partition epoch && is_epoch kept
is_sound_body (Promise partition epoch) = is_unit partition epoch
is_sound_body (Promised partition epoch at last) = is_unit partition epoch && is_epoch at && is_last last
is_sound_body (Sync partition epoch origin last) = is_unit partition epoch && is_node origin && is_last last
is_sound_body (Fetch partition epoch lsn) = is_unit partition epoch && is_word lsn
is_sound_body (Piece partition epoch lsn entry_epoch text) = is_unit partition epoch && is_word lsn && is_epoch entry_epoch && is_payload text
is_sound_body (Adopted partition epoch last) = is_unit partition epoch && is_word last
is_sound_body (Activate config) = is_config config
is_sound_body (Activated partition epoch) = is_unit partition epoch
is_sound_body (Append partition epoch lsn text) = is_unit partition epoch && is_word lsn && is_payload text
is_sound_body (Appended partition epoch last) = is_unit partition epoch && is_word last
is_sound_body (Older partition epoch kept) = is_unit partition epoch && is_epoch kept

-- the message goes from an actor to an actor, and says something in the grammar
abbrev pub is_sound : Message → Bool
is_sound m = is_sender m.from && is_addressee m.to && is_sound_body m.body
