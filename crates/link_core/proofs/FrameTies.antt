-- A frame's row of links is that of the rules.
use Rattle.std.proofs.Common.{◌≡◌, ℕ, false, IsTrue, ap, min}
use Rattle.ring_points.specs.declared.who.Who.{Who}
use Rattle.fabric_terms.specs.declared.message.Body.{Body}
use Rattle.fabric_terms.specs.declared.message.Body.TheVariants as body
use Rattle.ring_rules.specs.Deeds.{counted, has_numbers}
use Rattle.ring_rules.specs.Frames as rules
use Rattle.ring_rules.specs.Rings.{Settings, Work}
use Rattle.link_core.specs.Frames.{frame_row}
use Rattle.link_core.specs.Ties.{quiet, links_of, announce_of, finished, cause_of, is_search}
use Rattle.link_core.proofs.SessionTies.{same_tie}
use Rattle.link_core.proofs.HandshakeTies.{take_tie, offer_tie}
use Rattle.link_core.proofs.GreetTies.{hello_tie}
use Rattle.link_core.proofs.RenewalTies.{renew_tie, ack_tie}
use Rattle.link_core.proofs.FlightTies.{transfer_tie, gone_tie}
use Rattle.link_core.proofs.RulingTies.{ruling_tie}
use Rattle.link_core.proofs.RoundTies.{kept_tie}

pub frame_tie : (c : Settings) (now : ℕ) (from : Who) (b : Body) (w : Work) → IsTrue (has_numbers w.ring) → is_search b ≡ false → counted w (rules.frame_row c now from b w) ≡ counted w (finished (cause_of b) (frame_row now (announce_of w.ring) from b (links_of c w.ring)) w)
frame_tie c now from (body.Hello mine) w h e = hello_tie c now from mine 1 c.lease w h
frame_tie c now from (body.HelloFor mine length) w h e = hello_tie c now from mine 2 (min length c.longest) w h
frame_tie c now from (body.Offer mine yours) w h e = ap (counted w) (offer_tie c now from mine yours c.lease w)
frame_tie c now from (body.OfferFor mine yours length) w h e = ap (counted w) (offer_tie c now from mine yours length w)
frame_tie c now from (body.Take mine yours) w h e = ap (counted w) (take_tie c now from mine yours w)
frame_tie c now from (body.Renew mine yours stamp version got want ranges) w h e = ap (counted w) (renew_tie c from mine yours stamp version got want ranges w)
frame_tie c now from (body.RenewAck mine yours stamp version) w h e = ap (counted w) (ack_tie c from mine yours stamp version w)
frame_tie c now from (body.Transfer mine yours flight ranges) w h e = ap (counted w) (transfer_tie c from mine yours flight ranges w)
frame_tie c now from (body.Gone mine yours got bound) w h e = ap (counted w) (gone_tie c from mine yours got bound w)
frame_tie c now from (body.Ruled victim ruling) w h e = ap (counted w) (ruling_tie c now from victim ruling w)
frame_tie c now from (body.Kept victim round claimer) w h e = ap (counted w) (kept_tie c now from victim round claimer w)
frame_tie c now from (body.Seek origin key hops) w h e = cc
frame_tie c now from (body.Found key holder) w h e = cc
frame_tie c now from _ w h e = ap (counted w) (same_tie c quiet w)
