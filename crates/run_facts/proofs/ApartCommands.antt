-- The rows of a search, a command and a firing.
use Rattle.std.proofs.Common.{ℕ, zero, suc, Bool, true, false, ◌&&◌, List, [], ◌∷◌, ◌++◌, Option, Some, None, refl}
use Rattle.ring_points.specs.declared.interval.Interval.{Interval}
use Rattle.ring_points.specs.declared.point.Point.{Point}
use Rattle.ring_points.specs.declared.who.Flight.{Flight}
use Rattle.ring_points.specs.declared.who.Who.{Who}
use Rattle.ring_points.specs.Ranges.{fits}
use Rattle.ring_points.specs.Whos.{arbiter_actor, node_instance}
use Rattle.fabric_terms.specs.declared.command.Command.{Command}
use Rattle.fabric_terms.specs.declared.command.Command.TheVariants as command
use Rattle.fabric_terms.specs.declared.message.Body.TheVariants as body
use Rattle.fabric_terms.specs.declared.report.Report.TheVariants as report
use Rattle.fabric_terms.specs.declared.report.Verb.TheVariants as verb
use Rattle.fabric_terms.specs.declared.report.Why.TheVariants.{AccusedFull}
use Rattle.token_core.specs.Tokens.{Freeze, gained, can_gain, given, inherited}
use Rattle.ring_route.specs.Routes.{near_nodes}
use Rattle.ring_route.specs.declared.hop.Hop.{Hop}
use Rattle.ring_route.specs.declared.hop.Hop.TheVariants as hop
use Rattle.join_phases.specs.Phases.{is_routing}
use Rattle.ring_rules.specs.declared.link.Link.{Link}
use Rattle.ring_rules.specs.declared.link.LinkState.{LinkState}
use Rattle.ring_rules.specs.declared.link.LinkState.TheVariants as state
use Rattle.ring_rules.specs.Rings.{Settings, Work, slot_count, ◌▷◌}
use Rattle.ring_rules.specs.Links.{accused_link, flight_part, hello_body, renew_body, offer_body, transfer_body}
use Rattle.ring_rules.specs.Slots.{slot_at, slot_where}
use Rattle.ring_rules.specs.Deeds as d
use Rattle.ring_rules.specs.Handshakes as h
use Rattle.ring_rules.specs.Commands as c
use Rattle.ring_rules.specs.Seeks as k
use Rattle.ring_rules.specs.Firing as g
use Rattle.ring_rules.specs.Steps as s
use Rattle.run_facts.specs.RingApart.{StaysApart}
use Rattle.run_facts.proofs.ApartSaying.{sends, tells, refuses, leaves, counts, goes_on, hello_apart, offer_apart}
use Rattle.run_facts.proofs.ApartSessions.{greet_apart, claims_apart}

-- what an heir does not own yet
abbrev added_by : Work → Link → List Interval
added_by w l = inherited w.ring.token l.held (flight_part l.flight)

-- Searches.

find_apart : (key : Point) (w : Work) → StaysApart w → StaysApart (k.find_commanded key w)
unfolding k.find_commanded
find_apart key w a = by_hop _
  where
    by_hop : (o : Hop) → StaysApart (k.find_by key o w)
    by_hop hop.Here = tells (report.Found key w.ring.me) w refl a
    by_hop (hop.To next) = sends next _ w refl a
    by_hop hop.Nowhere = tells (report.Nowhere key) w refl a

pub seek_received_apart : (origin : Who) (key : Point) (hops : ℕ) (w : Work) → StaysApart w → StaysApart (k.seek_received origin key hops w)
unfolding k.seek_received
seek_received_apart origin key hops w a = on _ _
  where
    on : (o : Hop) (t : Bool) → StaysApart (k.seek_on origin key hops o t w)
    on hop.Here t = sends origin _ w refl a
    on (hop.To next) true = sends next _ w refl a
    on (hop.To next) false = a
    on hop.Nowhere true = tells (report.Nowhere key) w refl a
    on hop.Nowhere false = a

plainly_apart : (set : Settings) (now node : ℕ) (w : Work) → StaysApart w → StaysApart (h.greet_plainly set now node w)
plainly_apart set now node w a = greet_apart _ (λ reason v. v) w (λ reason. a) a

pub found_received_apart : (set : Settings) (now : ℕ) (key : Point) (holder : Who) (w : Work) → StaysApart w →
    StaysApart (k.found_received set now key holder w)
unfolding k.found_received
found_received_apart set now key holder w a =
    holds (k.seeks_own w.ring key) (d.tell (report.Found key holder) w) (tells (report.Found key holder) w refl a)
  where
    holds : (t : Bool) (v : Work) → StaysApart v → StaysApart (k.greet_holder set now holder v t)
    holds true v b = plainly_apart set now holder.actor (d.on_ring (λ z. record z { target = None }) v) b
    holds false v b = b

-- Commands.

link_apart : (set : Settings) (now node wire len : ℕ) (w : Work) → StaysApart w → StaysApart (c.link_commanded set now node wire len w)
unfolding c.link_commanded
link_apart set now node wire len w a = greet_apart _ (d.refuse verb.Link) w (λ reason. refuses _ _ w a) a

part_apart : (node : ℕ) (w : Work) → StaysApart w → StaysApart (c.part_commanded node w)
unfolding c.part_commanded
part_apart node w a = seen (slot_where _ w.ring.slots)
  where
    unless : (i : ℕ) (l : Link) (t : Bool) → StaysApart (c.part_unless i l w t)
    unless i l true = refuses _ _ w a
    unless i l false = sends l.peer _ w refl a

    in_place : (i : ℕ) (o : Option Link) → StaysApart (c.part_at i o w)
    in_place i None = a
    in_place i (Some l) = unless i l _

    seen : (o : Option ℕ) → StaysApart (c.part_seen o w)
    seen None = refuses _ _ w a
    seen (Some i) = in_place i _

give_apart : (all : Bool) (node : ℕ) (w : Work) → StaysApart w → StaysApart (c.give_commanded all node w)
unfolding c.give_commanded
give_apart all node w a = if_routing _
  where
    unless : (i : ℕ) (part : List Interval) (busy none fit : Bool) → StaysApart (c.give_unless i part w busy none fit)
    unless i part true none fit = refuses _ _ w a
    unless i part false true fit = refuses _ _ w a
    unless i part false false false = refuses _ _ w a
    unless i part false false true = a

    in_place : (i : ℕ) (o : Option Link) → StaysApart (c.give_at all i o w)
    in_place i None = a
    in_place i (Some l) = unless i _ _ _ _

    seen : (o : Option ℕ) → StaysApart (c.give_seen all o w)
    seen None = refuses _ _ w a
    seen (Some i) = in_place i _

    if_routing : (t : Bool) → StaysApart (c.give_if all node w t)
    if_routing false = refuses _ _ w a
    if_routing true = seen _

join_apart : (member : ℕ) (w : Work) → StaysApart w → StaysApart (c.join_commanded member w)
unfolding c.join_commanded
join_apart member w a = unless _
  where
    unless : (t : Bool) → StaysApart (c.join_unless member w t)
    unless true = refuses _ _ w a
    unless false = sends (node_instance member 0) _ w refl a

pub command_received_apart : (set : Settings) (now : ℕ) (o : Command) (w : Work) → StaysApart w → StaysApart (s.command_received set now o w)
unfolding s.command_received
command_received_apart set now o w a = counts w (s.command_row set now o w) a (row o)
  where
    row : (o : Command) → StaysApart (s.command_row set now o w)
    row (command.Link node) = link_apart set now node 1 set.lease w a
    row (command.LinkFor node length) = link_apart set now node 2 _ w a
    row (command.Part node) = part_apart node w a
    row (command.GiveNear node) = give_apart false node w a
    row (command.GiveAll node) = give_apart true node w a
    row (command.Join node) = join_apart node w a
    row (command.Find key) = find_apart key w a
    row o = a

-- A firing.

ask_apart : (k : ℕ) (l : Link) (w : Work) → StaysApart w → StaysApart (g.ask_first k l w)
ask_apart zero l w a = a
ask_apart (suc k) l w a = asked _ (ask_apart k l w a)
  where
    asked : (t : Bool) → StaysApart (g.ask_first k l w) → StaysApart (g.ask_if (suc k) l (g.ask_first k l w) t)
    asked true b = b
    asked false b = sends (node_instance (arbiter_actor (suc k)) 0) (body.Accuse l.peer) (g.ask_first k l w) refl b

accused_apart : (set : Settings) (i : ℕ) (l : Link) (w : Work) → StaysApart w → StaysApart (g.peer_accused set i l w)
unfolding g.peer_accused
accused_apart set i l w a = by_test _
  where
    by_test : (t : Bool) → StaysApart (g.accuse_if set i l w t)
    by_test true =
        let accuses : Work = d.put_slot i (accused_link set w.ring.me l) (d.undo_freeze i (d.on_ring (λ z. record z { accused = z.accused ++ l.peer ∷ [] }) w)) in
        ask_apart set.arbitrators (accused_link set w.ring.me l) (d.tell (report.Accused l.peer) accuses) (tells (report.Accused l.peer) accuses refl a)
    by_test false = leaves AccusedFull w a

leased_apart : (set : Settings) (now i : ℕ) (l : Link) (says : Work → Work) (w : Work) → StaysApart w → StaysApart (says w) →
    StaysApart (g.leased set now i l says w)
leased_apart set now i l says w a b = over _
  where
    over : (t : Bool) → StaysApart (g.lease_over set i l says w t)
    over true = accused_apart set i l w a
    over false = b

discharged_apart : (set : Settings) (now i : ℕ) (l : Link) (w : Work) → StaysApart w → StaysApart (g.discharged_fired set now i l w)
unfolding g.discharged_fired
discharged_apart set now i l w a = due _
  where
    due : (t : Bool) → StaysApart (g.discharged_due set i l w t)
    due true = a
    due false = claims_apart set l (g.ask_arbiters set l w) (ask_apart set.arbitrators l w a)

fired_apart : (set : Settings) (now i : ℕ) (w : Work) → StaysApart w → StaysApart (g.slot_fired set now i w)
unfolding g.slot_fired
fired_apart set now i w a = counts w (g.fired_at set now i (slot_at i w.ring.slots) w) a (in_place (slot_at i w.ring.slots))
  where
    hello : (l : Link) (t : Bool) → StaysApart (g.hello_due i l w t)
    hello l true = a
    hello l false = sends l.peer (hello_body l) w (hello_apart l) a

    flies : (l : Link) (o : Option Flight) (v : Work) → StaysApart v → StaysApart (g.transfer_again l o v)
    flies l None v b = b
    flies l (Some z) v b = sends l.peer (transfer_body l z) v refl b

    over : (l : Link) (added : List Interval) (t : Bool) → StaysApart (g.take_over i l added w t)
    over l added false = a
    over l added true = tells (report.TookOver l.peer added) (d.set_token (gained w.ring.token added) w) refl a

    heir : (l : Link) (t : Bool) → StaysApart (g.heir_due i l w t)
    heir l true = over l (added_by w l) (fits (added_by w l) && can_gain w.ring.token (added_by w l))
    heir l false = a

    inside : (l : Link) (st : LinkState) → StaysApart (g.fired_in set now i l st w)
    inside l state.Hello = hello l _
    inside l state.Offered = leased_apart set now i l (λ v. d.send l.peer (offer_body l) v) w a (sends l.peer (offer_body l) w (offer_apart l) a)
    inside l state.Bound =
        leased_apart set now i l (λ v. v ▷ d.send l.peer (renew_body now l v.ring) ▷ g.transfer_again l l.flight) w a
        (flies l l.flight (d.send l.peer (renew_body now l w.ring) w) (sends l.peer (renew_body now l w.ring) w refl a))
    inside l state.Parting = leased_apart set now i l (d.say_gone l) w a (sends l.peer (body.Gone l.mine l.yours l.got true) w refl a)
    inside l state.Accused = ask_apart set.arbitrators l w a
    inside l state.Discharged = discharged_apart set now i l w a
    inside l state.Heir = heir l _

    in_place : (o : Option Link) → StaysApart (g.fired_at set now i o w)
    in_place None = a
    in_place (Some l) = inside l l.state

slots_apart : (set : Settings) (now k : ℕ) (w : Work) → StaysApart w → StaysApart (g.slots_fired set now k w)
unfolding g.slots_fired
slots_apart set now zero w a = a
slots_apart set now (suc k) w a =
    let before : Work = g.slots_fired set now k w in
    let b = slots_apart set now k w a in
    goes_on (g.slot_fired set now k) before b (fired_apart set now k before b)

given_apart : (w : Work) → StaysApart w → StaysApart (g.freeze_given w)
unfolding g.freeze_given
given_apart w a = counts w (g.give_frozen w.ring.token.freeze w) a (frozen w.ring.token.freeze)
  where
    gives : (z : Freeze) (o : Option Link) → StaysApart (g.give_to z o w)
    gives z None = a
    gives z (Some l) =
        let f : Flight = record { number = w.ring.token.next_flight; part = z.part } in
        let gave : Work = d.tell (report.Gave l.peer f.number f.part) (d.set_token (given w.ring.token z) w) in
        sends l.peer (transfer_body l f) (d.put_slot z.slot (record l { flight = Some f }) gave) refl
        (tells (report.Gave l.peer f.number f.part) (d.set_token (given w.ring.token z) w) refl a)

    ready : (z : Freeze) (t : Bool) → StaysApart (g.give_ready z w t)
    ready z true = gives z (slot_at z.slot w.ring.slots)
    ready z false = a

    frozen : (o : Option Freeze) → StaysApart (g.give_frozen o w)
    frozen None = a
    frozen (Some z) = ready z (g.all_acked z.version w.ring.slots)

greets_apart : (set : Settings) (now : ℕ) (nodes : List ℕ) (w : Work) → StaysApart w → StaysApart (g.greet_all set now nodes w)
greets_apart set now [] w a = a
greets_apart set now (node ∷ nodes) w a = greets_apart set now nodes (h.greet_plainly set now node w) (plainly_apart set now node w a)

sought_apart : (set : Settings) (now : ℕ) (w : Work) → StaysApart w → StaysApart (g.place_sought set now w)
unfolding g.place_sought
sought_apart set now w a = counts w (g.search_by set now w (is_routing w.ring.phase)) a (search (is_routing w.ring.phase))
  where
    from : (o : Option ℕ) → StaysApart (g.seek_from o w)
    from None = a
    from (Some member) = sends (node_instance member 0) _ w refl a

    search : (t : Bool) → StaysApart (g.search_by set now w t)
    search true = greets_apart set now (near_nodes w.ring.routes set.near w.ring.accused) w a
    search false = from w.ring.target

pub timer_fired_apart : (set : Settings) (now : ℕ) (w : Work) → StaysApart w → StaysApart (g.timer_fired set now w)
unfolding g.timer_fired
timer_fired_apart set now w a =
    let fires : Work = g.slots_fired set now slot_count w in
    let gives : Work = d.then_unless_left g.freeze_given fires in
    let b = slots_apart set now slot_count w a in
    let e = goes_on g.freeze_given fires b (given_apart fires b) in
    goes_on (g.place_sought set now) gives e (sought_apart set now gives e)
