-- How each message is spelled as a frame.
use Rattle.std.specs.Prelude.{ℕ, List, [], ◌∷◌, ◌++◌}
use Rattle.fabric_terms.specs.declared.message.Message.{Message}
use Rattle.fabric_terms.specs.declared.message.Body.{Body}
use Rattle.fabric_terms.specs.declared.message.Body.TheVariants.{Hello, HelloFor, Offer, OfferFor, Take, Renew, RenewAck, Transfer, Gone, Seek, Found, Accuse, Ruled, Claim, Kept, Prepare, Prepared, NoPrepare, Vote, Voted, NoVote, DoneAsk, DoneKept, NoDone, Promise, Promised, Sync, Fetch, Piece, Adopted, Activate, Activated, Append, Appended, Older}
use Rattle.wire_fields.specs.Texts.{number_bytes, one_byte, who_bytes, claim_bytes, numbered_bytes, epoch_bytes, ranges_bytes, unit_bytes, config_bytes, payload_bytes, flag_bytes, ruling_bytes, done_bytes, session_bytes}

-- leases of their own length have the version 2
abbrev pub version_of : Body → ℕ
version_of (HelloFor mine length) = 2
version_of (OfferFor mine yours length) = 2
version_of _ = 1

abbrev pub kind_of : Body → ℕ
kind_of (Hello mine) = 1
kind_of (HelloFor mine length) = 1
kind_of (Offer mine yours) = 2
kind_of (OfferFor mine yours length) = 2
kind_of (Take mine yours) = 3
kind_of (Renew mine yours stamp version got want ranges) = 4
kind_of (RenewAck mine yours stamp version) = 5
kind_of (Transfer mine yours flight ranges) = 6
kind_of (Gone mine yours got bound) = 7
kind_of (Seek origin key hops) = 8
kind_of (Found key holder) = 9
kind_of (Accuse victim) = 16
kind_of (Ruled victim ruling) = 17
kind_of (Claim victim round) = 18
kind_of (Kept victim round claimer) = 19
kind_of (Prepare partition epoch) = 32
kind_of (Prepared partition epoch config) = 33
kind_of (NoPrepare partition epoch kept) = 34
kind_of (Vote config) = 35
kind_of (Voted partition epoch kept) = 36
kind_of (NoVote partition epoch kept) = 37
kind_of (DoneAsk config) = 38
kind_of (DoneKept partition epoch) = 39
kind_of (NoDone partition epoch kept) = 40
kind_of (Promise partition epoch) = 48
kind_of (Promised partition epoch at last) = 49
kind_of (Sync partition epoch origin last) = 50
kind_of (Fetch partition epoch lsn) = 51
kind_of (Piece partition epoch lsn entry_epoch text) = 52
kind_of (Adopted partition epoch last) = 53
kind_of (Activate config) = 54
kind_of (Activated partition epoch) = 55
kind_of (Append partition epoch lsn text) = 56
kind_of (Appended partition epoch last) = 57
kind_of (Older partition epoch kept) = 58

-- the fields of a body, one after the other
abbrev pub body_bytes : Body → List ℕ
body_bytes (Hello mine) = number_bytes 4 mine
body_bytes (HelloFor mine length) = number_bytes 4 mine ++ number_bytes 8 length
body_bytes (Offer mine yours) = session_bytes mine yours
body_bytes (OfferFor mine yours length) = session_bytes mine yours ++ number_bytes 8 length
body_bytes (Take mine yours) = session_bytes mine yours
body_bytes (Renew mine yours stamp version got want ranges) = session_bytes mine yours ++ number_bytes 8 stamp ++ number_bytes 4 version ++ number_bytes 4 got ++ flag_bytes want ++ ranges_bytes ranges
body_bytes (RenewAck mine yours stamp version) = session_bytes mine yours ++ number_bytes 8 stamp ++ number_bytes 4 version
body_bytes (Transfer mine yours flight ranges) = session_bytes mine yours ++ number_bytes 4 flight ++ ranges_bytes ranges
body_bytes (Gone mine yours got bound) = session_bytes mine yours ++ number_bytes 4 got ++ flag_bytes bound
body_bytes (Seek origin key hops) = who_bytes origin ++ number_bytes 8 key.0 ++ one_byte hops
body_bytes (Found key holder) = number_bytes 8 key.0 ++ who_bytes holder
body_bytes (Accuse victim) = who_bytes victim
body_bytes (Ruled victim ruling) = who_bytes victim ++ ruling_bytes ruling
body_bytes (Claim victim round) = who_bytes victim ++ one_byte round
body_bytes (Kept victim round claimer) = claim_bytes victim round claimer
body_bytes (Prepare partition epoch) = unit_bytes partition epoch
body_bytes (Prepared partition epoch config) = unit_bytes partition epoch ++ done_bytes config
body_bytes (NoPrepare partition epoch kept) = unit_bytes partition epoch ++ epoch_bytes kept
body_bytes (Vote config) = config_bytes config
body_bytes (Voted partition epoch kept) = unit_bytes partition epoch ++ config_bytes kept
body_bytes (NoVote partition epoch kept) = unit_bytes partition epoch ++ epoch_bytes kept
body_bytes (DoneAsk config) = config_bytes config
body_bytes (DoneKept partition epoch) = unit_bytes partition epoch
body_bytes (NoDone partition epoch kept) = unit_bytes partition epoch ++ epoch_bytes kept
body_bytes (Promise partition epoch) = unit_bytes partition epoch
body_bytes (Promised partition epoch at last) = unit_bytes partition epoch ++ epoch_bytes at ++ number_bytes 4 last
body_bytes (Sync partition epoch origin last) = unit_bytes partition epoch ++ number_bytes 2 origin ++ number_bytes 4 last
body_bytes (Fetch partition epoch lsn) = numbered_bytes partition epoch lsn
body_bytes (Piece partition epoch lsn entry_epoch text) = numbered_bytes partition epoch lsn ++ epoch_bytes entry_epoch ++ payload_bytes text
body_bytes (Adopted partition epoch last) = numbered_bytes partition epoch last
body_bytes (Activate config) = config_bytes config
body_bytes (Activated partition epoch) = unit_bytes partition epoch
body_bytes (Append partition epoch lsn text) = numbered_bytes partition epoch lsn ++ payload_bytes text
body_bytes (Appended partition epoch last) = numbered_bytes partition epoch last
body_bytes (Older partition epoch kept) = unit_bytes partition epoch ++ epoch_bytes kept

-- a message as a frame: 53 in hexadecimal, the version, the kind, from whom, to whom, and the fields of the body
abbrev pub spelling : Message → List ℕ
spelling m =
    (83 ∷ version_of m.body ∷ kind_of m.body ∷ []) ++ who_bytes m.from ++ who_bytes m.to ++ body_bytes m.body
