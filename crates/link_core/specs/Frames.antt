-- The row of a frame on the links of a node.
use Rattle.std.specs.Prelude.{ℕ, Bool, true, false, ◌&&◌, min, nat_le, nat_lt}
use Rattle.ring_points.specs.declared.who.Who.{Who}
use Rattle.ring_points.specs.Whos.{arbiter_actor}
use Rattle.fabric_terms.specs.declared.message.Body.{Body}
use Rattle.fabric_terms.specs.declared.message.Body.TheVariants as body
use Rattle.link_core.specs.declared.announce.Announce.{Announce}
use Rattle.link_core.specs.Links.{Links, Did, same}
use Rattle.link_core.specs.Handshakes.{hello_received, offer_received, take_received}
use Rattle.link_core.specs.Renewals.{renew_received, ack_received}
use Rattle.link_core.specs.Flights.{transfer_received, gone_received}
use Rattle.link_core.specs.Rulings.{ruling_received}
use Rattle.link_core.specs.Rounds.{kept_received}
use Rattle.ring_points.specs.Limits.{most_reading}

-- what is said of a frame that a node takes: its stamp is a reading, and a ruling and an answer to a claim are of a
-- configured arbitrator
abbrev pub may_come : ℕ → Who → Body → Bool
may_come arbitrators from (body.RenewAck mine yours stamp version) = nat_le stamp most_reading
may_come arbitrators from (body.Ruled victim ruling) =
    nat_lt (arbiter_actor 0) from.actor && nat_le from.actor (arbiter_actor arbitrators)
may_come arbitrators from (body.Kept victim round claimer) =
    nat_lt (arbiter_actor 0) from.actor && nat_le from.actor (arbiter_actor arbitrators)
may_come arbitrators from _ = true

-- an acknowledgement of a renewal
abbrev pub is_ack : Body → Bool
is_ack (body.RenewAck mine yours stamp version) = true
is_ack _ = false

-- The row of a frame; a frame of another kind changes nothing.
abbrev pub frame_row : ℕ → Announce → Who → Body → Links → Did
frame_row now a from (body.Hello mine) k = hello_received now from mine 1 k.lease k
frame_row now a from (body.HelloFor mine length) k = hello_received now from mine 2 (min length k.longest) k
frame_row now a from (body.Offer mine yours) k = offer_received now from mine yours k.lease k
frame_row now a from (body.OfferFor mine yours length) k = offer_received now from mine yours length k
frame_row now a from (body.Take mine yours) k = take_received now a from mine yours k
frame_row now a from (body.Renew mine yours stamp version got want ranges) k =
    renew_received from mine yours stamp version got want ranges k
frame_row now a from (body.RenewAck mine yours stamp version) k = ack_received from mine yours stamp version k
frame_row now a from (body.Transfer mine yours flight ranges) k = transfer_received from mine yours flight k
frame_row now a from (body.Gone mine yours got bound) k = gone_received from mine yours got bound k
frame_row now a from (body.Ruled victim ruling) k = ruling_received now from victim ruling k
frame_row now a from (body.Kept victim round claimer) k = kept_received now from victim round claimer k
frame_row now a from _ k = same k

-- The row of a frame of one family; a frame of another family changes nothing.

abbrev pub renewal_row : Who → Body → Links → Did
renewal_row from (body.Renew mine yours stamp version got want ranges) k =
    renew_received from mine yours stamp version got want ranges k
renewal_row from (body.RenewAck mine yours stamp version) k = ack_received from mine yours stamp version k
renewal_row from _ k = same k

abbrev pub flight_row : Who → Body → Links → Did
flight_row from (body.Transfer mine yours flight ranges) k = transfer_received from mine yours flight k
flight_row from (body.Gone mine yours got bound) k = gone_received from mine yours got bound k
flight_row from _ k = same k

abbrev pub ruling_row : ℕ → Who → Body → Links → Did
ruling_row now from (body.Ruled victim ruling) k = ruling_received now from victim ruling k
ruling_row now from (body.Kept victim round claimer) k = kept_received now from victim round claimer k
ruling_row now from _ k = same k
