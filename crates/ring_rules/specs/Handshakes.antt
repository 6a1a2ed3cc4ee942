-- How a link begins: a greeting, Hello, Offer, Take.
use Rattle.std.specs.Prelude.{ℕ, ◌+◌, Bool, true, false, Option, Some, None, ◌==◌, nat_lt}
use Rattle.ring_points.specs.declared.who.Who.{Who}
use Rattle.fabric_terms.specs.declared.message.Body.TheVariants as body
use Rattle.fabric_terms.specs.declared.report.Reason.{Reason}
use Rattle.fabric_terms.specs.declared.report.Reason.TheVariants as reason
use Rattle.join_phases.specs.Phases.{bound_phase}
use Rattle.ring_rules.specs.declared.link.Link.{Link}
use Rattle.ring_rules.specs.declared.link.LinkState.{LinkState}
use Rattle.ring_rules.specs.declared.link.LinkState.TheVariants as state
use Rattle.ring_rules.specs.Rings.{Settings, Work, ◌▷◌}
use Rattle.ring_rules.specs.Slots.{slot_at, slot_where, is_free, is_hello, bars_link, of_instance, of_node, greets_node_by}
use Rattle.ring_rules.specs.Links.{greeting_link, offered_link, bound_link, hello_body, offer_body, renew_body}
use Rattle.ring_rules.specs.Deeds.{on_ring, put_slot, drop_slot, set_phase, send, in_session, answer_unknown, say_gone}

-- the number of a session is used up
abbrev pub count_session : Work → Work
count_session w = on_ring (λ r. record r { next_session = r.next_session + 1 }) w

-- A node is greeted by a new link, unless a slot with it bars another link, or no slot is free.

abbrev pub greet_free : Link → (Reason → Work → Work) → Work → Option ℕ → Work
greet_free l refused w None = refused reason.Full w
greet_free l refused w (Some i) = w ▷ put_slot i l ▷ count_session ▷ send l.peer (hello_body l)

abbrev pub greet_unless : Link → (Reason → Work → Work) → Work → Option ℕ → Work
greet_unless l refused w (Some i) = refused reason.Linked w
greet_unless l refused w None = greet_free l refused w (slot_where is_free w.ring.slots)

abbrev pub greet : Link → (Reason → Work → Work) → Work → Work
greet l refused w = greet_unless l refused w (slot_where (of_node bars_link l.peer.actor) w.ring.slots)

-- by frame version 1, with the configured length; a refusal is silent
abbrev pub greet_plainly : Settings → ℕ → ℕ → Work → Work
greet_plainly c now node w = greet (greeting_link c now w.ring node 1 c.lease) (λ r v. v) w

-- A Hello is accepted by a new link in the free slot, if there is one.

abbrev pub accept_free : Link → Work → Option ℕ → Work
accept_free l w None = w
accept_free l w (Some i) = w ▷ put_slot i l ▷ count_session ▷ send l.peer (offer_body l)

abbrev pub hello_accepted : Link → Work → Work
hello_accepted l w = accept_free l w (slot_where is_free w.ring.slots)

-- Of two Hellos that cross, the one of the lower node stands.

abbrev pub hello_crossed : Link → ℕ → Work → Bool → Work
hello_crossed l i w true = w
hello_crossed l i w false = w ▷ drop_slot i ▷ hello_accepted l

abbrev pub hello_of_node : Link → Work → Option ℕ → Work
hello_of_node l w None = hello_accepted l w
hello_of_node l w (Some i) = hello_crossed l i w (nat_lt w.ring.me.actor l.peer.actor)

-- A Hello that was accepted before gets its Offer again.

abbrev pub offer_same : Link → Work → Bool → Work
offer_same l w true = send l.peer (offer_body l) w
offer_same l w false = w

abbrev pub offer_again : ℕ → Link → LinkState → Work → Work
offer_again theirs l state.Offered w = offer_same l w (l.yours == theirs)
offer_again theirs l _ w = w

abbrev pub hello_repeated : ℕ → Option Link → Work → Work
hello_repeated theirs None w = w
hello_repeated theirs (Some l) w = offer_again theirs l l.state w

abbrev pub hello_of_instance : Link → Work → Option ℕ → Work
hello_of_instance l w (Some i) = hello_repeated l.yours (slot_at i w.ring.slots) w
hello_of_instance l w None = hello_of_node l w (slot_where (of_node is_hello l.peer.actor) w.ring.slots)

-- by the slot of the sender's instance, if there is one; the link is the one that would begin
abbrev pub hello_meets : Link → Work → Work
hello_meets l w = hello_of_instance l w (slot_where (of_instance l.peer) w.ring.slots)

unfoldable pub hello_received : Settings → ℕ → Who → ℕ → ℕ → ℕ → Work → Work
hello_received c now from theirs wire len w = hello_meets (offered_link c now w.ring from theirs wire len) w

-- An Offer is taken by the slot that greeted, once more by the slot that took it, and by nobody else.

abbrev pub offer_taken : ℕ → Who → ℕ → ℕ → ℕ → Option Link → Work → Work
offer_taken now from theirs len i None w = w
offer_taken now from theirs len i (Some l) w =
    w
    ▷ put_slot i (bound_link now l from theirs len)
    ▷ send from (body.Take l.mine theirs)
    ▷ set_phase bound_phase

abbrev pub offer_repeated : ℕ → Link → LinkState → Work → Work
offer_repeated i l state.Bound w = send l.peer (body.Take l.mine l.yours) w
offer_repeated i l state.Parting w = say_gone l w
offer_repeated i l _ w = w

abbrev pub offer_seen : ℕ → Who → ℕ → ℕ → ℕ → Work → Option ℕ → Work
offer_seen now from theirs own len w (Some i) = offer_taken now from theirs len i (slot_at i w.ring.slots) w
offer_seen now from theirs own len w None = in_session from theirs own offer_repeated (answer_unknown from theirs own) w

unfoldable pub offer_received : ℕ → Who → ℕ → ℕ → ℕ → Work → Work
offer_received now from theirs own len w = offer_seen now from theirs own len w (slot_where (greets_node_by from.actor own) w.ring.slots)

-- A Take binds the slot that offered; its Renew still says what the node wanted before.

abbrev pub take_seen : ℕ → ℕ → Link → LinkState → Work → Work
take_seen now i l state.Offered w =
    w
    ▷ put_slot i (record l { state = state.Bound })
    ▷ send l.peer (renew_body now l w.ring)
    ▷ set_phase bound_phase
take_seen now i l state.Parting w = say_gone l w
take_seen now i l _ w = w

unfoldable pub take_received : ℕ → Who → ℕ → ℕ → Work → Work
take_received now from theirs own w = in_session from theirs own (take_seen now) (answer_unknown from theirs own) w
