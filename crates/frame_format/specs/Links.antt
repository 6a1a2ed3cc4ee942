-- Sessions: what is read as the fields of each kind.
use Rattle.std.specs.Prelude.{ℕ, List, Option, None, ◌==◌, if◌then◌else◌}
use Rattle.fabric_terms.specs.declared.message.Body.{Body}
use Rattle.fabric_terms.specs.declared.message.Body.TheVariants.{Hello, HelloFor, Offer, OfferFor, Take, Renew, RenewAck, Transfer, Gone}
use Rattle.wire_fields.specs.Readers.{whole, pair, counted_at, flag_at, lease_at, part_at, ranges_at, session_at, stamp_at, word_at}
use Rattle.frame_format.specs.Searches.{searches_of}

unfoldable pub hello_of : List ℕ → Option Body
hello_of = whole (λ x. Hello x) counted_at

unfoldable pub hello_for_of : List ℕ → Option Body
hello_for_of = whole (λ x. HelloFor x.0 x.1) (pair counted_at lease_at)

unfoldable pub offer_of : List ℕ → Option Body
offer_of = whole (λ x. Offer x.0 x.1) session_at

unfoldable pub offer_for_of : List ℕ → Option Body
offer_for_of = whole (λ x. OfferFor x.0.0 x.0.1 x.1) (pair session_at lease_at)

unfoldable pub take_of : List ℕ → Option Body
take_of = whole (λ x. Take x.0 x.1) session_at

unfoldable pub renew_of : List ℕ → Option Body
renew_of = whole (λ x. Renew x.0.0.0.0.0.0 x.0.0.0.0.0.1 x.0.0.0.0.1 x.0.0.0.1 x.0.0.1 x.0.1 x.1) (pair (pair (pair (pair (pair session_at stamp_at) word_at) word_at) flag_at) ranges_at)

unfoldable pub renew_ack_of : List ℕ → Option Body
renew_ack_of = whole (λ x. RenewAck x.0.0.0 x.0.0.1 x.0.1 x.1) (pair (pair session_at stamp_at) word_at)

unfoldable pub transfer_of : List ℕ → Option Body
transfer_of = whole (λ x. Transfer x.0.0.0 x.0.0.1 x.0.1 x.1) (pair (pair session_at counted_at) part_at)

unfoldable pub gone_of : List ℕ → Option Body
gone_of = whole (λ x. Gone x.0.0.0 x.0.0.1 x.0.1 x.1) (pair (pair session_at word_at) flag_at)

-- a body of version 1, by its kind
unfoldable pub links_of : ℕ → List ℕ → Option Body
links_of kind bytes =
    if kind == 1 then hello_of bytes else (
    if kind == 2 then offer_of bytes else (
    if kind == 3 then take_of bytes else (
    if kind == 4 then renew_of bytes else (
    if kind == 5 then renew_ack_of bytes else (
    if kind == 6 then transfer_of bytes else (
    if kind == 7 then gone_of bytes else (
    searches_of kind bytes
    )))))))

-- a body of version 2, by its kind
unfoldable pub leases_of : ℕ → List ℕ → Option Body
leases_of kind bytes =
    if kind == 1 then hello_for_of bytes else (
    if kind == 2 then offer_for_of bytes else (
    None
    ))
