-- A frame is answered by few frames, and changes slots and sessions alone.
use Rattle.std.proofs.Common.{ℕ, ◌≤◌, Bool, true, false, List, length, Option, Some, None, refl, arith, nat_lt, min, ◌==◌, ◌-◌, not, ◌||◌, slice_set}
use Rattle.ring_points.specs.declared.interval.Interval.{Interval}
use Rattle.ring_points.specs.declared.who.Ruling.{Ruling}
use Rattle.ring_points.specs.declared.who.Who.{Who}
use Rattle.ring_points.specs.Whos.{arbiter_actor}
use Rattle.fabric_terms.specs.declared.message.Body.{Body}
use Rattle.fabric_terms.specs.declared.message.Body.TheVariants as body
use Rattle.arbiter_quorum.specs.declared.verdict.Verdict.{Verdict}
use Rattle.arbiter_quorum.specs.declared.verdict.Verdict.TheVariants as verdict
use Rattle.arbiter_quorum.specs.Tallies.{noted, verdict_of}
use Rattle.drift_clock.specs.declared.bound.Bound as clocks
use Rattle.ring_rules.specs.declared.link.Link.{Link}
use Rattle.ring_rules.specs.declared.link.LinkState.{LinkState}
use Rattle.ring_rules.specs.declared.link.LinkState.TheVariants.{Offered, Bound, Parting, Accused}
use Rattle.ring_rules.specs.Links.{is_bare}
use Rattle.ring_rules.specs.Rings.{Slots}
use Rattle.ring_rules.specs.Slots.{slot_at, slot_where, is_free, is_hello, of_instance, of_node, of_session, greets_by, greets_node_by}
use Rattle.link_core.specs.declared.announce.Announce.{Announce}
use Rattle.link_core.specs.declared.notes.LinkNote.{LinkNote}
use Rattle.link_core.specs.Links.{Links, Did, SlotRow, is_spent, new_link, same, unknown, in_found}
use Rattle.link_core.specs.Kept.{IsHeard}
use Rattle.link_core.specs.Handshakes.{accept_counted, accept_free, accept, hello_crossed, hello_of_node, offer_same, offer_repeated_to, hello_repeated, hello_of_instance, offer_taken, take_again, offer_repeated, offer_seen, take_in, take_seen}
use Rattle.link_core.specs.Renewals.{wanted_if, renew_in, renew_seen, ack_in, ack_seen}
use Rattle.link_core.specs.Flights.{arrived_if, transfer_in, transfer_seen, answers, is_lost, gone_heard, stands, gone_if, gone_seen, gone_greeting, gone_elsewhere}
use Rattle.link_core.specs.Rulings.{ripe_at, made_heir, discharge_told, may_succeed, kept_discharged, judged, awaits, ruling_if, ruling_seen}
use Rattle.heir_rounds.specs.Rounds.{round_noted, round_verdict}
use Rattle.heir_rounds.specs.declared.verdict.RoundVerdict.{RoundVerdict}
use Rattle.heir_rounds.specs.declared.verdict.RoundVerdict.TheVariants as rounds_of
use Rattle.link_core.specs.Rounds.{claims, claims_if, round_judged, is_discharged, kept_if, kept_seen, kept_where}
use Rattle.link_core.proofs.FiredFew.{Few, both_first_few}
use Rattle.link_core.specs.Frames.{frame_row}
use Rattle.ring_points.specs.Limits.{most_arbiters}
use Rattle.link_core.specs.Limits.{most_row_messages, most_row_notes}

found_few : (row : ℕ → SlotRow) (none : Did) (k : Links) (place : Option ℕ) → ((i : ℕ) (slot : Option Link) → Few (row i slot)) → IsHeard k none → IsHeard k (in_found row none k place)
found_few row none k None h n = n
found_few row none k (Some i) h n = let f = h i (slot_at i k.slots) in record { kept = refl; sessions = omega arith; sent = f.sent; notes = f.notes }

same_few : (k : Links) → IsHeard k (same k)
same_few k = record { kept = refl; sessions = omega arith; sent = omega arith; notes = omega arith }

unknown_few : (from : Who) (theirs own : ℕ) (k : Links) → IsHeard k (unknown from theirs own k)
unknown_few from theirs own k = record { kept = refl; sessions = omega arith; sent = omega arith; notes = omega arith }

-- Hello

accept_counted_few : (k : Links) (s : Slots) (l : Link) (i : ℕ) (spent : Bool) → IsHeard k (accept_counted k (record k { slots = s }) l i spent)
accept_counted_few k s l i true = record { kept = refl; sessions = omega arith; sent = omega arith; notes = omega arith }
accept_counted_few k s l i false = record { kept = refl; sessions = omega arith; sent = omega arith; notes = omega arith }

accept_free_few : (k : Links) (s : Slots) (l : Link) (place : Option ℕ) → IsHeard k (accept_free k (record k { slots = s }) l place)
accept_free_few k s l None = record { kept = refl; sessions = omega arith; sent = omega arith; notes = omega arith }
accept_free_few k s l (Some i) = accept_counted_few k s l i (is_spent k)

accept_few : (k : Links) (s : Slots) (l : Link) → IsHeard k (accept k (record k { slots = s }) l)
accept_few k s l = accept_free_few k s l (slot_where is_free s)

crossed_few : (k : Links) (l : Link) (i : ℕ) (lower : Bool) → IsHeard k (hello_crossed k l i lower)
crossed_few k l i true = same_few k
crossed_few k l i false = accept_few k (slice_set k.slots i None) l

of_node_few : (k : Links) (l : Link) (place : Option ℕ) → IsHeard k (hello_of_node k l place)
of_node_few k l None = accept_few k k.slots l
of_node_few k l (Some i) = crossed_few k l i (nat_lt k.me.actor l.peer.actor)

same_offer_few : (l : Link) (again : Bool) → Few (offer_same l again)
same_offer_few l true = record { sent = omega arith; notes = omega arith }
same_offer_few l false = record { sent = omega arith; notes = omega arith }

repeated_to_few : (theirs : ℕ) (l : Link) (was : LinkState) → Few (offer_repeated_to theirs l was)
repeated_to_few theirs l Offered = same_offer_few l (l.yours == theirs)
repeated_to_few theirs l _ = record { sent = omega arith; notes = omega arith }

repeated_few : (theirs : ℕ) (slot : Option Link) → Few (hello_repeated theirs slot)
repeated_few theirs None = record { sent = omega arith; notes = omega arith }
repeated_few theirs (Some l) = repeated_to_few theirs l l.state

of_instance_few : (k : Links) (l : Link) (place : Option ℕ) → IsHeard k (hello_of_instance k l place)
of_instance_few k l (Some i) = let f = repeated_few l.yours (slot_at i k.slots) in record { kept = refl; sessions = omega arith; sent = f.sent; notes = f.notes }
of_instance_few k l None = of_node_few k l (slot_where (of_node is_hello l.peer.actor) k.slots)

-- Offer and Take

taken_few : (now : ℕ) (from : Who) (theirs len : ℕ) (slot : Option Link) → Few (offer_taken now from theirs len slot)
taken_few now from theirs len None = record { sent = omega arith; notes = omega arith }
taken_few now from theirs len (Some l) = record { sent = omega arith; notes = omega arith }

take_again_few : (l : Link) (was : LinkState) → Few (take_again l was)
take_again_few l Bound = record { sent = omega arith; notes = omega arith }
take_again_few l Parting = record { sent = omega arith; notes = omega arith }
take_again_few l _ = record { sent = omega arith; notes = omega arith }

offer_repeated_few : (i : ℕ) (slot : Option Link) → Few (offer_repeated slot)
offer_repeated_few i None = record { sent = omega arith; notes = omega arith }
offer_repeated_few i (Some l) = take_again_few l l.state

offer_seen_few : (now : ℕ) (from : Who) (theirs own len : ℕ) (k : Links) (place : Option ℕ) → IsHeard k (offer_seen now from theirs own len k place)
offer_seen_few now from theirs own len k (Some i) = let f = taken_few now from theirs len (slot_at i k.slots) in record { kept = refl; sessions = omega arith; sent = f.sent; notes = f.notes }
offer_seen_few now from theirs own len k None = found_few (λ i. offer_repeated) (unknown from theirs own k) k (slot_where (of_session from own theirs) k.slots) offer_repeated_few (unknown_few from theirs own k)

take_in_few : (now : ℕ) (a : Announce) (l : Link) (was : LinkState) → Few (take_in now a l was)
take_in_few now a l Offered = record { sent = omega arith; notes = omega arith }
take_in_few now a l Parting = record { sent = omega arith; notes = omega arith }
take_in_few now a l _ = record { sent = omega arith; notes = omega arith }

take_seen_few : (now : ℕ) (a : Announce) (i : ℕ) (slot : Option Link) → Few (take_seen now a slot)
take_seen_few now a i None = record { sent = omega arith; notes = omega arith }
take_seen_few now a i (Some l) = take_in_few now a l l.state

-- Renew and RenewAck

wanted_few : (want : Bool) (i : ℕ) → length (wanted_if want i) ≤ 1
wanted_few true i = omega arith
wanted_few false i = omega arith

renew_in_few : (stamp version got : ℕ) (want : Bool) (ranges : List Interval) (i : ℕ) (l : Link) (was : LinkState) → Few (renew_in stamp version got want ranges i l was)
renew_in_few stamp version got want ranges i l Offered = record { sent = omega arith; notes = omega (arith, wanted_few want i) }
renew_in_few stamp version got want ranges i l Bound = record { sent = omega arith; notes = omega (arith, wanted_few want i) }
renew_in_few stamp version got want ranges i l Parting = record { sent = omega arith; notes = omega arith }
renew_in_few stamp version got want ranges i l _ = record { sent = omega arith; notes = omega arith }

renew_seen_few : (stamp version got : ℕ) (want : Bool) (ranges : List Interval) (i : ℕ) (slot : Option Link) → Few (renew_seen stamp version got want ranges i slot)
renew_seen_few stamp version got want ranges i None = record { sent = omega arith; notes = omega arith }
renew_seen_few stamp version got want ranges i (Some l) = renew_in_few stamp version got want ranges i l l.state

ack_in_few : (stamp version : ℕ) (l : Link) (was : LinkState) → Few (ack_in stamp version l was)
ack_in_few stamp version l Bound = record { sent = omega arith; notes = omega arith }
ack_in_few stamp version l Parting = record { sent = omega arith; notes = omega arith }
ack_in_few stamp version l _ = record { sent = omega arith; notes = omega arith }

ack_seen_few : (stamp version i : ℕ) (slot : Option Link) → Few (ack_seen stamp version slot)
ack_seen_few stamp version i None = record { sent = omega arith; notes = omega arith }
ack_seen_few stamp version i (Some l) = ack_in_few stamp version l l.state

-- Transfer and Gone

arrived_few : (i : ℕ) (l : Link) (above : Bool) → Few (arrived_if i l above)
arrived_few i l true = record { sent = omega arith; notes = omega arith }
arrived_few i l false = record { sent = omega arith; notes = omega arith }

transfer_in_few : (number : ℕ) (i : ℕ) (l : Link) (was : LinkState) → Few (transfer_in number i l was)
transfer_in_few number i l Bound = arrived_few i l (nat_lt l.got number)
transfer_in_few number i l Parting = record { sent = omega arith; notes = omega arith }
transfer_in_few number i l _ = record { sent = omega arith; notes = omega arith }

transfer_seen_few : (number : ℕ) (i : ℕ) (slot : Option Link) → Few (transfer_seen number i slot)
transfer_seen_few number i None = record { sent = omega arith; notes = omega arith }
transfer_seen_few number i (Some l) = transfer_in_few number i l l.state

answers_few : (bound : Bool) (to : Who) (b : Body) → length (answers bound to b) ≤ 1
answers_few true to b = omega arith
answers_few false to b = omega arith

heard_few : (i : ℕ) (l : Link) (bound lost : Bool) → Few (gone_heard i l bound lost)
heard_few i l bound false = record { sent = omega (arith, answers_few bound l.peer (body.Gone l.mine l.yours l.got false)); notes = omega arith }
heard_few i l bound true = record { sent = omega arith; notes = omega arith }

gone_if_few : (got : ℕ) (bound : Bool) (i : ℕ) (l : Link) (stood : Bool) → Few (gone_if got bound i l stood)
gone_if_few got bound i l true = heard_few i l bound (is_lost got l.flight)
gone_if_few got bound i l false = record { sent = omega arith; notes = omega arith }

gone_seen_few : (got : ℕ) (bound : Bool) (i : ℕ) (slot : Option Link) → Few (gone_seen got bound i slot)
gone_seen_few got bound i None = record { sent = omega arith; notes = omega arith }
gone_seen_few got bound i (Some l) = gone_if_few got bound i l (stands l.state)

greeting_few : (from : Who) (theirs own : ℕ) (bound : Bool) (k : Links) (place : Option ℕ) → IsHeard k (gone_greeting from theirs own bound k place)
greeting_few from theirs own bound k None = record { kept = refl; sessions = omega arith; sent = omega (arith, answers_few bound from (body.Gone own theirs 0 false)); notes = omega arith }
greeting_few from theirs own bound k (Some i) = record { kept = refl; sessions = omega arith; sent = omega (arith, answers_few bound from (body.Gone own theirs 0 false)); notes = omega arith }

-- Ruled

made_heir_few : (l : Link) (ripe : ℕ) (bare : Bool) → Few (made_heir l ripe bare)
made_heir_few l ripe true = record { sent = omega arith; notes = omega arith }
made_heir_few l ripe false = record { sent = omega arith; notes = omega arith }

told_few : (was : LinkState) (l : Link) → length (discharge_told was l) ≤ most_row_notes
told_few Accused l = omega arith
told_few _ l = omega arith

discharged_few : (l : Link) (notes : List LinkNote) (ends : Bool) → length notes ≤ most_row_notes → Few (kept_discharged l notes ends)
discharged_few l notes true h = record { sent = omega arith; notes = h }
discharged_few l notes false h = record { sent = omega arith; notes = h }

judged_few : (rounds : ℕ) (l : Link) (ripe : ℕ) (was : LinkState) (v : Verdict) → Few (judged rounds l ripe was v)
judged_few rounds l ripe was verdict.Heir = made_heir_few l ripe (is_bare l)
judged_few rounds l ripe was verdict.Discharged = discharged_few l (discharge_told was l) (is_bare l || not (may_succeed rounds l)) (told_few was l)
judged_few rounds l ripe was verdict.Lost = record { sent = omega arith; notes = omega arith }
judged_few rounds l ripe was verdict.Open = record { sent = omega arith; notes = omega arith }

ruling_if_few : (rounds ripe arbiter : ℕ) (ruling : Ruling) (l : Link) (was : LinkState) (waits : Bool) → Few (ruling_if rounds ripe arbiter ruling l was waits)
ruling_if_few rounds ripe arbiter ruling l was true = judged_few rounds (record l { tally = noted l.tally arbiter ruling }) ripe was (verdict_of (noted l.tally arbiter ruling))
ruling_if_few rounds ripe arbiter ruling l was false = record { sent = omega arith; notes = omega arith }

ruling_seen_few : (now : ℕ) (bound : clocks.Bound) (answer rounds arbiter : ℕ) (ruling : Ruling) (i : ℕ) (slot : Option Link) → Few (ruling_seen now bound answer rounds arbiter ruling slot)
ruling_seen_few now bound answer rounds arbiter ruling i None = record { sent = omega arith; notes = omega arith }
ruling_seen_few now bound answer rounds arbiter ruling i (Some l) = ruling_if_few rounds (ripe_at now bound answer l) arbiter ruling l l.state (awaits l.state)

-- Kept

claims_few : (rounds n : ℕ) (l : Link) → n ≤ most_arbiters → length (claims rounds n l) ≤ most_row_messages
claims_few rounds n l h = go (nat_lt 1 rounds)
  where
    go : (b : Bool) → length (claims_if n l b) ≤ most_row_messages
    go true = omega (arith, both_first_few n l)
    go false = omega arith

round_few : (rounds n : ℕ) (l : Link) (ripe : ℕ) (v : RoundVerdict) → n ≤ most_arbiters → Few (round_judged rounds n l ripe v)
round_few rounds n l ripe rounds_of.Won h = record { sent = omega arith; notes = omega arith }
round_few rounds n l ripe (rounds_of.Next r) h = record { sent = claims_few rounds n l h; notes = omega arith }
round_few rounds n l ripe rounds_of.Over h = record { sent = omega arith; notes = omega arith }
round_few rounds n l ripe rounds_of.Open h = record { sent = omega arith; notes = omega arith }

kept_if_few : (rounds n ripe arbiter round : ℕ) (claimer : Who) (l : Link) (is : Bool) → n ≤ most_arbiters → Few (kept_if rounds n ripe arbiter round claimer l is)
kept_if_few rounds n ripe arbiter round claimer l true h =
    round_few rounds n (record l { rounds = round_noted l.rounds round arbiter claimer }) ripe (round_verdict l.rounds round arbiter claimer) h
kept_if_few rounds n ripe arbiter round claimer l false h = record { sent = omega arith; notes = omega arith }

kept_seen_few : (now : ℕ) (bound : clocks.Bound) (answer rounds n arbiter round : ℕ) (claimer : Who) → n ≤ most_arbiters → (i : ℕ) (slot : Option Link) →
    Few (kept_seen now bound answer rounds n arbiter round claimer slot)
kept_seen_few now bound answer rounds n arbiter round claimer h i None = record { sent = omega arith; notes = omega arith }
kept_seen_few now bound answer rounds n arbiter round claimer h i (Some l) =
    kept_if_few rounds n (ripe_at now bound answer l) arbiter round claimer l (is_discharged l.state) h

kept_few : (now arbiter : ℕ) (victim : Who) (round : ℕ) (claimer : Who) (k : Links) (is : Bool) → k.arbitrators ≤ most_arbiters →
    IsHeard k (kept_where now arbiter victim round claimer k is)
kept_few now arbiter victim round claimer k true h =
    found_few (λ i. kept_seen now k.bound k.answer k.rounds k.arbitrators arbiter round claimer) (same k) k (slot_where (of_instance victim) k.slots)
    (kept_seen_few now k.bound k.answer k.rounds k.arbitrators arbiter round claimer h) (same_few k)
kept_few now arbiter victim round claimer k false h = same_few k

pub frame_few : (now : ℕ) (a : Announce) (from : Who) (b : Body) (k : Links) → k.arbitrators ≤ most_arbiters → IsHeard k (frame_row now a from b k)
frame_few now a from (body.Hello mine) k h = of_instance_few k (new_link k now from mine Offered 1 k.lease) (slot_where (of_instance from) k.slots)
frame_few now a from (body.HelloFor mine length) k h = of_instance_few k (new_link k now from mine Offered 2 (min length k.longest)) (slot_where (of_instance from) k.slots)
frame_few now a from (body.Offer mine yours) k h = offer_seen_few now from mine yours k.lease k (slot_where (greets_node_by from.actor yours) k.slots)
frame_few now a from (body.OfferFor mine yours length) k h = offer_seen_few now from mine yours length k (slot_where (greets_node_by from.actor yours) k.slots)
frame_few now a from (body.Take mine yours) k h = found_few (λ i. take_seen now a) (unknown from mine yours k) k (slot_where (of_session from yours mine) k.slots) (take_seen_few now a) (unknown_few from mine yours k)
frame_few now a from (body.Renew mine yours stamp version got want ranges) k h = found_few (renew_seen stamp version got want ranges) (unknown from mine yours k) k (slot_where (of_session from yours mine) k.slots) (renew_seen_few stamp version got want ranges) (unknown_few from mine yours k)
frame_few now a from (body.RenewAck mine yours stamp version) k h = found_few (λ i. ack_seen stamp version) (same k) k (slot_where (of_session from yours mine) k.slots) (ack_seen_few stamp version) (same_few k)
frame_few now a from (body.Transfer mine yours flight ranges) k h = found_few (transfer_seen flight) (unknown from mine yours k) k (slot_where (of_session from yours mine) k.slots) (transfer_seen_few flight) (unknown_few from mine yours k)
frame_few now a from (body.Gone mine yours got bound) k h = found_few (gone_seen got bound) (gone_elsewhere from mine yours bound k) k (slot_where (of_session from yours mine) k.slots) (gone_seen_few got bound) (greeting_few from mine yours bound k (slot_where (greets_by yours) k.slots))
frame_few now a from (body.Ruled victim ruling) k h = found_few (λ i. ruling_seen now k.bound k.answer k.rounds (from.actor - arbiter_actor 0) ruling) (same k) k (slot_where (of_instance victim) k.slots) (ruling_seen_few now k.bound k.answer k.rounds (from.actor - arbiter_actor 0) ruling) (same_few k)
frame_few now a from (body.Kept victim round claimer) k h = kept_few now (from.actor - arbiter_actor 0) victim round claimer k (nat_lt 1 k.rounds) h
frame_few now a from _ k h = same_few k
