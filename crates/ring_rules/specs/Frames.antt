-- Which frames a node takes, and the row of each.
use Rattle.std.specs.Prelude.{ℕ, Bool, true, false, not, ◌&&◌, ◌||◌, ◌==◌, min, nat_le, nat_lt}
use Rattle.std.specs.List.{list_any}
use Rattle.ring_points.specs.declared.who.Who.{Who}
use Rattle.ring_points.specs.Whos.{arbiter_actor}
use Rattle.fabric_terms.specs.declared.message.Body.{Body}
use Rattle.fabric_terms.specs.declared.message.Body.TheVariants as body
use Rattle.fabric_terms.specs.declared.message.Message.{Message}
use Rattle.ring_route.specs.Routes.{heard, is_among}
use Rattle.ring_rules.specs.Rings.{Settings, Ring, Work}
use Rattle.ring_rules.specs.Deeds.{on_ring, counted}
use Rattle.ring_rules.specs.Handshakes.{hello_received, offer_received, take_received}
use Rattle.ring_rules.specs.Renewals.{renew_received, ack_received}
use Rattle.ring_rules.specs.Flights.{transfer_received, gone_received}
use Rattle.ring_rules.specs.Rulings.{ruling_received}
use Rattle.ring_rules.specs.Claims.{kept_received}
use Rattle.ring_rules.specs.Seeks.{seek_received, found_received}

-- it is for this instance, or for whichever runs
abbrev pub is_for : Who → Who → Bool
is_for me to = to.actor == me.actor && (to.instance == 0 || to.instance == me.instance)

-- it goes from one node to another
abbrev pub is_between_nodes : Body → Bool
is_between_nodes (body.Hello mine) = true
is_between_nodes (body.HelloFor mine length) = true
is_between_nodes (body.Offer mine yours) = true
is_between_nodes (body.OfferFor mine yours length) = true
is_between_nodes (body.Take mine yours) = true
is_between_nodes (body.Renew mine yours stamp version got want ranges) = true
is_between_nodes (body.RenewAck mine yours stamp version) = true
is_between_nodes (body.Transfer mine yours flight ranges) = true
is_between_nodes (body.Gone mine yours got bound) = true
is_between_nodes (body.Seek origin key hops) = true
is_between_nodes (body.Found key holder) = true
is_between_nodes _ = false

-- it is an arbitrator's answer
abbrev pub is_arbiters_answer : Body → Bool
is_arbiters_answer (body.Ruled victim ruling) = true
is_arbiters_answer (body.Kept victim round claimer) = true
is_arbiters_answer (body.Prepared partition epoch config) = true
is_arbiters_answer (body.NoPrepare partition epoch kept) = true
is_arbiters_answer (body.Voted partition epoch kept) = true
is_arbiters_answer (body.NoVote partition epoch kept) = true
is_arbiters_answer (body.DoneKept partition epoch) = true
is_arbiters_answer (body.NoDone partition epoch kept) = true
is_arbiters_answer _ = false

-- the actor is a configured node, or a configured arbitrator
abbrev pub is_node : Ring → ℕ → Bool
is_node r actor = list_any (λ p. p.0 == actor) r.routes.points

abbrev pub is_arbiter : Settings → ℕ → Bool
is_arbiter c actor = nat_lt (arbiter_actor 0) actor && nat_le actor (arbiter_actor c.arbitrators)

abbrev pub may_send : Settings → Ring → ℕ → Bool → Bool → Bool
may_send c r actor between true = is_arbiter c actor
may_send c r actor between false = is_node r actor && not (between && actor == r.me.actor)

-- the frame is for this instance, from nobody whom it accused, and from one who may send it
abbrev pub passes : Settings → Ring → Message → Bool
passes c r m = is_for r.me m.to && not (is_among m.from r.accused) && may_send c r m.from.actor (is_between_nodes m.body) (is_arbiters_answer m.body)

-- another node is noted as heard
abbrev pub heard_if : ℕ → Who → Work → Bool → Work
heard_if now from w true = on_ring (λ r. record r { routes = heard r.routes from now }) w
heard_if now from w false = w

abbrev pub sender_heard : ℕ → Who → Work → Work
sender_heard now from w = heard_if now from w (is_node w.ring from.actor && not (from.actor == w.ring.me.actor))

-- The row of a frame; a frame of another kind is not the ring's.
abbrev pub frame_row : Settings → ℕ → Who → Body → Work → Work
frame_row c now from (body.Hello mine) w = hello_received c now from mine 1 c.lease w
frame_row c now from (body.HelloFor mine length) w = hello_received c now from mine 2 (min length c.longest) w
frame_row c now from (body.Offer mine yours) w = offer_received now from mine yours c.lease w
frame_row c now from (body.OfferFor mine yours length) w = offer_received now from mine yours length w
frame_row c now from (body.Take mine yours) w = take_received now from mine yours w
frame_row c now from (body.Renew mine yours stamp version got want ranges) w = renew_received from mine yours stamp version got want ranges w
frame_row c now from (body.RenewAck mine yours stamp version) w = ack_received from mine yours stamp version w
frame_row c now from (body.Transfer mine yours flight ranges) w = transfer_received from mine yours flight ranges w
frame_row c now from (body.Gone mine yours got bound) w = gone_received from mine yours got bound w
frame_row c now from (body.Seek origin key hops) w = seek_received origin key hops w
frame_row c now from (body.Found key holder) w = found_received c now key holder w
frame_row c now from (body.Ruled victim ruling) w = ruling_received c now from victim ruling w
frame_row c now from (body.Kept victim round claimer) w = kept_received c now from victim round claimer w
frame_row c now from _ w = w

unfoldable pub frame_received : Settings → ℕ → Who → Body → Work → Work
frame_received c now from b w = counted w (frame_row c now from b w)
