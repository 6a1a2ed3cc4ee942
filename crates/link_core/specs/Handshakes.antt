-- How a link begins: a greeting, Hello, Offer, Take.
use Rattle.std.specs.Prelude.{ℕ, Bool, true, false, [], ◌∷◌, Option, Some, None, Result, Ok, Err, ◌==◌, min, nat_lt}
use Rattle.ring_points.specs.declared.who.Who.{Who}
use Rattle.ring_points.specs.Whos.{node_instance}
use Rattle.fabric_terms.specs.declared.message.Body.{Body}
use Rattle.fabric_terms.specs.declared.message.Body.TheVariants as body
use Rattle.ring_rules.specs.declared.link.Link.{Link}
use Rattle.ring_rules.specs.declared.link.LinkState.{LinkState}
use Rattle.ring_rules.specs.declared.link.LinkState.TheVariants as state
use Rattle.ring_rules.specs.Slots.{slot_at, slot_where, is_free, is_hello, bars_link, of_instance, of_node, of_session, greets_node_by}
use Rattle.ring_rules.specs.Links.{bound_link, hello_body, offer_body}
use Rattle.link_core.specs.declared.announce.Announce.{Announce}
use Rattle.link_core.specs.declared.notes.LinkNote.TheVariants.{BoundNow}
use Rattle.link_core.specs.declared.refusal.LinkRefusal.{LinkRefusal}
use Rattle.link_core.specs.declared.refusal.LinkRefusal.TheVariants.{Full, AlreadyLinked, Counters}
use Rattle.link_core.specs.Links.{Links, Turn, Did, SlotRow, turn, did, stays, same, with_slot, with_session, is_spent, in_place, in_found, new_link, unknown, gone_said, no_number}

-- A node is greeted by a new link, unless a slot with it bars another link, or no slot is free, or no number is left.

abbrev pub greet_counted : Links → Link → ℕ → Bool → Result Did LinkRefusal
greet_counted k l i true = Err Counters
greet_counted k l i false = Ok (did (with_session i l k) ((l.peer, hello_body l) ∷ []) [])

abbrev pub greet_free : Links → Link → Option ℕ → Result Did LinkRefusal
greet_free k l None = Err Full
greet_free k l (Some i) = greet_counted k l i (is_spent k)

abbrev pub greet_unless : Links → Link → Option ℕ → Result Did LinkRefusal
greet_unless k l (Some i) = Err AlreadyLinked
greet_unless k l None = greet_free k l (slot_where is_free k.slots)

abbrev pub greet : Links → Link → Result Did LinkRefusal
greet k l = greet_unless k l (slot_where (of_node bars_link l.peer.actor) k.slots)

abbrev pub greeting : Links → ℕ → ℕ → ℕ → ℕ → Link
greeting k now node wire len = new_link k now (node_instance node 0) 0 state.Hello wire len

-- without a length it is greeted by frame version 1, for the configured lease
abbrev pub greeting_for : Links → ℕ → ℕ → Option ℕ → Link
greeting_for k now node None = greeting k now node 1 k.lease
greeting_for k now node (Some length) = greeting k now node 2 (min length k.longest)

-- A Hello is accepted by a new link in the free slot, if there is one. The first links are those before the row.

abbrev pub accept_counted : Links → Links → Link → ℕ → Bool → Did
accept_counted k freed l i true = no_number k
accept_counted k freed l i false = did (with_session i l freed) ((l.peer, offer_body l) ∷ []) []

abbrev pub accept_free : Links → Links → Link → Option ℕ → Did
accept_free k freed l None = same freed
accept_free k freed l (Some i) = accept_counted k freed l i (is_spent k)

abbrev pub accept : Links → Links → Link → Did
accept k freed l = accept_free k freed l (slot_where is_free freed.slots)

-- Of two Hellos that cross, the one of the lower node stands.

abbrev pub hello_crossed : Links → Link → ℕ → Bool → Did
hello_crossed k l i true = same k
hello_crossed k l i false = accept k (with_slot i None k) l

abbrev pub hello_of_node : Links → Link → Option ℕ → Did
hello_of_node k l None = accept k k l
hello_of_node k l (Some i) = hello_crossed k l i (nat_lt k.me.actor l.peer.actor)

-- A Hello that was accepted before gets its Offer again.

abbrev pub offer_same : Link → Bool → Turn
offer_same l true = turn (Some l) ((l.peer, offer_body l) ∷ []) []
offer_same l false = stays (Some l)

abbrev pub offer_repeated_to : ℕ → Link → LinkState → Turn
offer_repeated_to theirs l state.Offered = offer_same l (l.yours == theirs)
offer_repeated_to theirs l _ = stays (Some l)

abbrev pub hello_repeated : ℕ → SlotRow
hello_repeated theirs None = stays None
hello_repeated theirs (Some l) = offer_repeated_to theirs l l.state

abbrev pub hello_of_instance : Links → Link → Option ℕ → Did
hello_of_instance k l (Some i) = in_place i (hello_repeated l.yours (slot_at i k.slots)) k
hello_of_instance k l None = hello_of_node k l (slot_where (of_node is_hello l.peer.actor) k.slots)

-- a Hello by this frame version, for this length
abbrev pub hello_received : ℕ → Who → ℕ → ℕ → ℕ → Links → Did
hello_received now from theirs wire len k =
    hello_of_instance k (new_link k now from theirs state.Offered wire len) (slot_where (of_instance from) k.slots)

-- An Offer is taken by the slot that greeted, once more by the slot that took it, and by nobody else.

abbrev pub offer_taken : ℕ → Who → ℕ → ℕ → SlotRow
offer_taken now from theirs len None = stays None
offer_taken now from theirs len (Some l) =
    turn (Some (bound_link now l from theirs len)) ((from, body.Take l.mine theirs) ∷ []) (BoundNow ∷ [])

abbrev pub take_again : Link → LinkState → Turn
take_again l state.Bound = turn (Some l) ((l.peer, body.Take l.mine l.yours) ∷ []) []
take_again l state.Parting = gone_said l
take_again l _ = stays (Some l)

abbrev pub offer_repeated : SlotRow
offer_repeated None = stays None
offer_repeated (Some l) = take_again l l.state

abbrev pub offer_again : Who → ℕ → ℕ → Links → Did
offer_again from theirs own k =
    in_found (λ i. offer_repeated) (unknown from theirs own k) k (slot_where (of_session from own theirs) k.slots)

abbrev pub offer_seen : ℕ → Who → ℕ → ℕ → ℕ → Links → Option ℕ → Did
offer_seen now from theirs own len k (Some i) = in_place i (offer_taken now from theirs len (slot_at i k.slots)) k
offer_seen now from theirs own len k None = offer_again from theirs own k

-- an Offer with this length
abbrev pub offer_received : ℕ → Who → ℕ → ℕ → ℕ → Links → Did
offer_received now from theirs own len k =
    offer_seen now from theirs own len k (slot_where (greets_node_by from.actor own) k.slots)

-- A Take binds the slot that offered; its Renew still says what the node wanted before.

abbrev pub renew_body : ℕ → Announce → Link → Body
renew_body now a l = body.Renew l.mine l.yours now a.version l.got a.want a.ranges

abbrev pub take_in : ℕ → Announce → Link → LinkState → Turn
take_in now a l state.Offered = turn (Some (record l { state = state.Bound })) ((l.peer, renew_body now a l) ∷ []) (BoundNow ∷ [])
take_in now a l state.Parting = gone_said l
take_in now a l _ = stays (Some l)

abbrev pub take_seen : ℕ → Announce → SlotRow
take_seen now a None = stays None
take_seen now a (Some l) = take_in now a l l.state

abbrev pub take_received : ℕ → Announce → Who → ℕ → ℕ → Links → Did
take_received now a from theirs own k =
    in_found (λ i. take_seen now a) (unknown from theirs own k) k (slot_where (of_session from own theirs) k.slots)
