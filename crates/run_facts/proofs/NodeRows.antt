-- What the rows of a search, a command and a firing say of their node.
use Rattle.std.proofs.Common.{ℕ, zero, suc, Bool, true, false, ◌&&◌, List, [], ◌∷◌, ◌++◌, Option, Some, None, refl}
use Rattle.std.specs.Prelude.{length}
use Rattle.ring_points.specs.declared.interval.Interval.{Interval}
use Rattle.ring_points.specs.declared.point.Point.{Point}
use Rattle.ring_points.specs.declared.who.Flight.{Flight}
use Rattle.ring_points.specs.declared.who.Who.{Who}
use Rattle.ring_points.specs.Ranges.{fits}
use Rattle.fabric_terms.specs.declared.command.Command.{Command}
use Rattle.fabric_terms.specs.declared.command.Command.TheVariants as command
use Rattle.fabric_terms.specs.declared.report.Report.TheVariants as report
use Rattle.fabric_terms.specs.declared.report.Verb.TheVariants as verb
use Rattle.fabric_terms.specs.declared.report.Why.TheVariants.{AccusedFull}
use Rattle.token_core.specs.Tokens.{Freeze, gained, can_gain, given, inherited}
use Rattle.ring_route.specs.Routes.{near_nodes}
use Rattle.ring_route.specs.declared.hop.Hop.{Hop}
use Rattle.ring_route.specs.declared.hop.Hop.TheVariants as hop
use Rattle.join_phases.specs.Phases.{is_routing}
use Rattle.ring_rules.specs.declared.link.Link.{Link}
use Rattle.ring_rules.specs.declared.link.LinkState.{LinkState}
use Rattle.ring_rules.specs.declared.link.LinkState.TheVariants as state
use Rattle.ring_rules.specs.Rings.{Settings, Work, slot_count, ◌▷◌}
use Rattle.ring_rules.specs.Links.{accused_link, flight_part, renew_body, offer_body}
use Rattle.ring_rules.specs.Slots.{slot_at, slot_where}
use Rattle.ring_rules.specs.Deeds as d
use Rattle.ring_rules.specs.Handshakes as h
use Rattle.ring_rules.specs.Commands as c
use Rattle.ring_rules.specs.Seeks as k
use Rattle.ring_rules.specs.Firing as g
use Rattle.ring_rules.specs.Steps as s
use Rattle.run_facts.proofs.Said.{Says, says_tell, says_refuse, says_holding, says_leave, says_counted, says_then}
use Rattle.run_facts.proofs.SessionRows.{greet_says, claims_say}

-- what an heir does not own yet
abbrev added_by : Work → Link → List Interval
added_by w l = inherited w.ring.token l.held (flight_part l.flight)

module _ (m0 : Who) where
  abbrev Fine : Work → Type 0
  Fine w = Says m0 w

  -- searches

  pub find_says : (key : Point) (w : Work) → Fine w → Fine (k.find_commanded key w)
  unfolding k.find_commanded
  find_says key w a = by_hop _
    where
      by_hop : (o : Hop) → Fine (k.find_by key o w)
      by_hop hop.Here = says_tell m0 (report.Found key w.ring.me) w refl refl a
      by_hop (hop.To next) = a
      by_hop hop.Nowhere = says_tell m0 (report.Nowhere key) w refl refl a

  pub seek_says : (origin : Who) (key : Point) (hops : ℕ) (w : Work) → Fine w → Fine (k.seek_received origin key hops w)
  unfolding k.seek_received
  seek_says origin key hops w a = on _ _
    where
      on : (o : Hop) (t : Bool) → Fine (k.seek_on origin key hops o t w)
      on hop.Here t = a
      on (hop.To next) true = a
      on (hop.To next) false = a
      on hop.Nowhere true = says_tell m0 (report.Nowhere key) w refl refl a
      on hop.Nowhere false = a

  pub plainly_says : (set : Settings) (now node : ℕ) (w : Work) → Fine w → Fine (h.greet_plainly set now node w)
  plainly_says set now node w a = greet_says m0 _ (λ reason v. v) w (λ reason. a) a

  pub found_received_says : (set : Settings) (now : ℕ) (key : Point) (holder : Who) (w : Work) → Fine w → Fine (k.found_received set now key holder w)
  unfolding k.found_received
  found_received_says set now key holder w a = holds (k.seeks_own w.ring key) (d.tell (report.Found key holder) w) (says_tell m0 (report.Found key holder) w refl refl a)
    where
      holds : (t : Bool) (v : Work) → Fine v → Fine (k.greet_holder set now holder v t)
      holds true v b = plainly_says set now holder.actor (d.on_ring (λ z. record z { target = None }) v) b
      holds false v b = b

  -- commands

  pub link_says : (set : Settings) (now node wire len : ℕ) (w : Work) → Fine w → Fine (c.link_commanded set now node wire len w)
  unfolding c.link_commanded
  link_says set now node wire len w a = greet_says m0 _ (d.refuse verb.Link) w (λ reason. says_refuse m0 _ _ w a) a

  pub part_says : (node : ℕ) (w : Work) → Fine w → Fine (c.part_commanded node w)
  unfolding c.part_commanded
  part_says node w a = seen (slot_where _ w.ring.slots)
    where
      unless : (i : ℕ) (l : Link) (t : Bool) → Fine (c.part_unless i l w t)
      unless i l true = says_refuse m0 _ _ w a
      unless i l false = a

      in_place : (i : ℕ) (o : Option Link) → Fine (c.part_at i o w)
      in_place i None = a
      in_place i (Some l) = unless i l _

      seen : (o : Option ℕ) → Fine (c.part_seen o w)
      seen None = says_refuse m0 _ _ w a
      seen (Some i) = in_place i _

  pub give_says : (all : Bool) (node : ℕ) (w : Work) → Fine w → Fine (c.give_commanded all node w)
  unfolding c.give_commanded
  give_says all node w a = if_routing _
    where
      unless : (i : ℕ) (part : List Interval) (busy none fit : Bool) → Fine (c.give_unless i part w busy none fit)
      unless i part true none fit = says_refuse m0 _ _ w a
      unless i part false true fit = says_refuse m0 _ _ w a
      unless i part false false false = says_refuse m0 _ _ w a
      unless i part false false true = a

      in_place : (i : ℕ) (o : Option Link) → Fine (c.give_at all i o w)
      in_place i None = a
      in_place i (Some l) = unless i _ _ _ _

      seen : (o : Option ℕ) → Fine (c.give_seen all o w)
      seen None = says_refuse m0 _ _ w a
      seen (Some i) = in_place i _

      if_routing : (t : Bool) → Fine (c.give_if all node w t)
      if_routing false = says_refuse m0 _ _ w a
      if_routing true = seen _

  pub join_says : (member : ℕ) (w : Work) → Fine w → Fine (c.join_commanded member w)
  unfolding c.join_commanded
  join_says member w a = unless _
    where
      unless : (t : Bool) → Fine (c.join_unless member w t)
      unless true = says_refuse m0 _ _ w a
      unless false = a

  pub command_says : (set : Settings) (now : ℕ) (o : Command) (w : Work) → Fine w → Fine (s.command_received set now o w)
  unfolding s.command_received
  command_says set now o w a = says_counted m0 w (s.command_row set now o w) a (row o)
    where
      row : (o : Command) → Fine (s.command_row set now o w)
      row (command.Link node) = link_says set now node 1 set.lease w a
      row (command.LinkFor node length) = link_says set now node 2 _ w a
      row (command.Part node) = part_says node w a
      row (command.GiveNear node) = give_says false node w a
      row (command.GiveAll node) = give_says true node w a
      row (command.Join node) = join_says node w a
      row (command.Find key) = find_says key w a
      row o = a

  -- a firing

  pub ask_says : (k : ℕ) (l : Link) (w : Work) → Fine w → Fine (g.ask_first k l w)
  ask_says zero l w a = a
  ask_says (suc k) l w a = asked _ (ask_says k l w a)
    where
      asked : (t : Bool) → Fine (g.ask_first k l w) → Fine (g.ask_if (suc k) l (g.ask_first k l w) t)
      asked true b = b
      asked false b = b

  pub accused_says : (set : Settings) (i : ℕ) (l : Link) (w : Work) → Fine w → Fine (g.peer_accused set i l w)
  unfolding g.peer_accused
  accused_says set i l w a = by_test _
    where
      by_test : (t : Bool) → Fine (g.accuse_if set i l w t)
      by_test true =
          let accuses : Work = d.put_slot i (accused_link set w.ring.me l) (d.undo_freeze i (d.on_ring (λ z. record z { accused = z.accused ++ l.peer ∷ [] }) w)) in
          ask_says set.arbitrators (accused_link set w.ring.me l) (d.tell (report.Accused l.peer) accuses) (says_tell m0 (report.Accused l.peer) accuses refl refl a)
      by_test false = says_leave m0 AccusedFull w a

  pub leased_says : (set : Settings) (now i : ℕ) (l : Link) (says : Work → Work) (w : Work) → Fine w → Fine (says w) →
      Fine (g.leased set now i l says w)
  leased_says set now i l says w a b = over _
    where
      over : (t : Bool) → Fine (g.lease_over set i l says w t)
      over true = accused_says set i l w a
      over false = b

  pub discharged_says : (set : Settings) (now i : ℕ) (l : Link) (w : Work) → Fine w → Fine (g.discharged_fired set now i l w)
  unfolding g.discharged_fired
  discharged_says set now i l w a = due _
    where
      due : (t : Bool) → Fine (g.discharged_due set i l w t)
      due true = a
      due false = claims_say m0 set l (g.ask_arbiters set l w) (ask_says set.arbitrators l w a)

  pub fired_says : (set : Settings) (now i : ℕ) (w : Work) → Fine w → Fine (g.slot_fired set now i w)
  unfolding g.slot_fired
  fired_says set now i w a = says_counted m0 w (g.fired_at set now i (slot_at i w.ring.slots) w) a (in_place (slot_at i w.ring.slots))
    where
      hello : (l : Link) (t : Bool) → Fine (g.hello_due i l w t)
      hello l true = a
      hello l false = a

      flies : (l : Link) (o : Option Flight) (v : Work) → Fine v → Fine (g.transfer_again l o v)
      flies l None v b = b
      flies l (Some z) v b = b

      over : (l : Link) (added : List Interval) (t : Bool) → Fine (g.take_over i l added w t)
      over l added false = a
      over l added true =
          let gains : Work = d.set_token (gained w.ring.token added) w in
          says_holding m0 (d.tell (report.TookOver l.peer added) gains) (says_tell m0 (report.TookOver l.peer added) gains refl refl a)

      heir : (l : Link) (t : Bool) → Fine (g.heir_due i l w t)
      heir l true = over l (added_by w l) (fits (added_by w l) && can_gain w.ring.token (added_by w l))
      heir l false = a

      inside : (l : Link) (st : LinkState) → Fine (g.fired_in set now i l st w)
      inside l state.Hello = hello l _
      inside l state.Offered = leased_says set now i l (λ v. d.send l.peer (offer_body l) v) w a a
      inside l state.Bound =
          leased_says set now i l (λ v. v ▷ d.send l.peer (renew_body now l v.ring) ▷ g.transfer_again l l.flight) w a
          (flies l l.flight (d.send l.peer (renew_body now l w.ring) w) a)
      inside l state.Parting = leased_says set now i l (d.say_gone l) w a a
      inside l state.Accused = ask_says set.arbitrators l w a
      inside l state.Discharged = discharged_says set now i l w a
      inside l state.Heir = heir l _

      in_place : (o : Option Link) → Fine (g.fired_at set now i o w)
      in_place None = a
      in_place (Some l) = inside l l.state

  pub slots_says : (set : Settings) (now k : ℕ) (w : Work) → Fine w → Fine (g.slots_fired set now k w)
  unfolding g.slots_fired
  slots_says set now zero w a = a
  slots_says set now (suc k) w a =
      let before : Work = g.slots_fired set now k w in
      let b = slots_says set now k w a in
      says_then m0 (g.slot_fired set now k) before b (fired_says set now k before b)

  pub given_says : (w : Work) → Fine w → Fine (g.freeze_given w)
  unfolding g.freeze_given
  given_says w a = says_counted m0 w (g.give_frozen w.ring.token.freeze w) a (frozen w.ring.token.freeze)
    where
      gives : (z : Freeze) (o : Option Link) → Fine (g.give_to z o w)
      gives z None = a
      gives z (Some l) = says_tell m0 (report.Gave l.peer w.ring.token.next_flight z.part) (d.set_token (given w.ring.token z) w) refl refl a

      ready : (z : Freeze) (t : Bool) → Fine (g.give_ready z w t)
      ready z true = gives z (slot_at z.slot w.ring.slots)
      ready z false = a

      frozen : (o : Option Freeze) → Fine (g.give_frozen o w)
      frozen None = a
      frozen (Some z) = ready z (g.all_acked z.version w.ring.slots)

  pub greets_says : (set : Settings) (now : ℕ) (nodes : List ℕ) (w : Work) → Fine w → Fine (g.greet_all set now nodes w)
  greets_says set now [] w a = a
  greets_says set now (node ∷ nodes) w a = greets_says set now nodes (h.greet_plainly set now node w) (plainly_says set now node w a)

  pub sought_says : (set : Settings) (now : ℕ) (w : Work) → Fine w → Fine (g.place_sought set now w)
  unfolding g.place_sought
  sought_says set now w a = says_counted m0 w (g.search_by set now w (is_routing w.ring.phase)) a (search (is_routing w.ring.phase))
    where
      from : (o : Option ℕ) → Fine (g.seek_from o w)
      from None = a
      from (Some member) = a

      search : (t : Bool) → Fine (g.search_by set now w t)
      search true = greets_says set now (near_nodes w.ring.routes set.near w.ring.accused) w a
      search false = from w.ring.target

  pub timer_says : (set : Settings) (now : ℕ) (w : Work) → Fine w → Fine (g.timer_fired set now w)
  unfolding g.timer_fired
  timer_says set now w a =
      let fires : Work = g.slots_fired set now slot_count w in
      let gives : Work = d.then_unless_left g.freeze_given fires in
      let b = slots_says set now slot_count w a in
      let e = says_then m0 g.freeze_given fires b (given_says fires b) in
      says_then m0 (g.place_sought set now) gives e (sought_says set now gives e)
