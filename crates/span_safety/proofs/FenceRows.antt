-- What the rows of a search, a command and a firing leave of the leases.
use Rattle.std.proofs.Common.{◌≡◌, ℕ, zero, suc, ◌+◌, ◌≤◌, Bool, true, false, ◌&&◌, cond, List, [], ◌∷◌, ◌++◌, Option, Some, None, refl, ap, ◌∙◌, arith}
use Rattle.std.specs.List.{position_from}
use Rattle.std.specs.Prelude.{◌==◌}
use Rattle.std.proofs.lemmas.Bool.{and_parts}
use Rattle.ring_points.specs.declared.interval.Interval.{Interval}
use Rattle.ring_points.specs.declared.point.Point.{Point}
use Rattle.ring_points.specs.declared.who.Flight.{Flight}
use Rattle.ring_points.specs.declared.who.Who.{Who}
use Rattle.ring_points.specs.Ranges.{fits}
use Rattle.fabric_terms.specs.declared.command.Command.{Command}
use Rattle.fabric_terms.specs.declared.command.Command.TheVariants as command
use Rattle.fabric_terms.specs.declared.report.Report.TheVariants as report
use Rattle.fabric_terms.specs.declared.report.Verb.TheVariants as verb
use Rattle.token_core.specs.Tokens.{Freeze, gained, can_gain, inherited}
use Rattle.ring_route.specs.Routes.{near_nodes}
use Rattle.ring_route.specs.declared.hop.Hop.{Hop}
use Rattle.ring_route.specs.declared.hop.Hop.TheVariants as hop
use Rattle.join_phases.specs.Phases.{is_routing}
use Rattle.ring_rules.specs.declared.link.Link.{Link}
use Rattle.ring_rules.specs.declared.link.LinkState.{LinkState}
use Rattle.ring_rules.specs.declared.link.LinkState.TheVariants as state
use Rattle.ring_rules.specs.Rings.{Settings, Slots, Work, slot_count, ◌▷◌}
use Rattle.ring_rules.specs.Links.{accused_link, flight_part, greeting_link, offer_body, parting_link, renew_body}
use Rattle.ring_rules.specs.Slots.{guards, may_part, of_node, slot_at, slot_where}
use Rattle.ring_rules.specs.Deeds as d
use Rattle.ring_rules.specs.Handshakes as h
use Rattle.ring_rules.specs.Commands as c
use Rattle.ring_rules.specs.Seeks as k
use Rattle.ring_rules.specs.Firing as g
use Rattle.ring_rules.specs.Steps as s
use Rattle.span_safety.specs.Lengths.{commands_length}
use Rattle.span_safety.proofs.Lasting.{AllLast, Lasts, all_at, counts, drops, goes_on, puts}
use Rattle.span_safety.proofs.FenceRulings.{claims_keep}
use Rattle.span_safety.proofs.FenceSessions.{greet_keeps, guarding}

-- what an heir does not own yet
abbrev added_by : Work → Link → List Interval
added_by w l = inherited w.ring.token l.held (flight_part l.flight)

module _ (set : Settings) (least now : ℕ) (soon : least ≤ now + set.lease + set.answer) where
  abbrev Fine : Work → Type 0
  Fine w = AllLast set.lease set.answer least w.ring.slots

  abbrev Long : Link → Type 0
  Long l = Lasts set.lease set.answer least l

  -- searches

  pub find_keeps : (key : Point) (w : Work) → Fine w → Fine (k.find_commanded key w)
  unfolding k.find_commanded
  find_keeps key w a = by_hop _
    where
      by_hop : (o : Hop) → Fine (k.find_by key o w)
      by_hop hop.Here = a
      by_hop (hop.To next) = a
      by_hop hop.Nowhere = a

  pub seek_keeps : (origin : Who) (key : Point) (hops : ℕ) (w : Work) → Fine w → Fine (k.seek_received origin key hops w)
  unfolding k.seek_received
  seek_keeps origin key hops w a = on _ _
    where
      on : (o : Hop) (t : Bool) → Fine (k.seek_on origin key hops o t w)
      on hop.Here t = a
      on (hop.To next) true = a
      on (hop.To next) false = a
      on hop.Nowhere true = a
      on hop.Nowhere false = a

  pub plainly_keeps : (node : ℕ) (w : Work) → Fine w → Fine (h.greet_plainly set now node w)
  plainly_keeps node w a = greet_keeps set least now soon (greeting_link set now w.ring node 1 set.lease) (λ reason v. v) w (refl, λ g. soon) (λ reason. a) a

  pub found_received_keeps : (key : Point) (holder : Who) (w : Work) → Fine w → Fine (k.found_received set now key holder w)
  unfolding k.found_received
  found_received_keeps key holder w a = holds (k.seeks_own w.ring key) (d.tell (report.Found key holder) w) a
    where
      holds : (t : Bool) (v : Work) → Fine v → Fine (k.greet_holder set now holder v t)
      holds true v b = plainly_keeps holder.actor (d.on_ring (λ z. record z { target = None }) v) b
      holds false v b = b

  -- commands

  pub link_keeps : (node : ℕ) (w : Work) → Fine w → Fine (c.link_commanded set now node 1 set.lease w)
  unfolding c.link_commanded
  link_keeps node w a = greet_keeps set least now soon (greeting_link set now w.ring node 1 set.lease) (d.refuse verb.Link) w (refl, λ g. soon) (λ reason. a) a

  -- a slot that may part guards
  parts_guard : (node : ℕ) (l : Link) → of_node may_part node (Some l) ≡ true → guards l.state ≡ true
  parts_guard node l e = go l.state (and_parts (l.peer.actor == node) (may_part l.state) e).1
    where
      go : (st : LinkState) → may_part st ≡ true → guards st ≡ true
      go state.Offered e = refl
      go state.Bound e = refl
      go st e = absurd (cc (e))

  -- the place that a test finds passes it
  found_passes : (t : Option Link → Bool) (n : ℕ) (slots : Slots) (i : ℕ) → position_from t n slots ≡ Some i → (j : ℕ) × (i ≡ n + j) × (t (slot_at j slots) ≡ true)
  found_passes t n [] i e = absurd (cc (e))
  found_passes t n (o ∷ os) i e = one (t o) refl e (λ f. found_passes t (n + 1) os i f)
    where
      one : (b : Bool) → t o ≡ b → cond b (Some n) (position_from t (n + 1) os) ≡ Some i →
          (position_from t (n + 1) os ≡ Some i → (j : ℕ) × (i ≡ n + 1 + j) × (t (slot_at j os) ≡ true)) →
          (j : ℕ) × (i ≡ n + j) × (t (slot_at j (o ∷ os)) ≡ true)
      one true f e rest = let same : n ≡ i = cc (e) in (zero, omega arith, f)
      one false f e rest = let g = rest e in (suc g.0, (let same = g.1 in omega arith), g.2)

  pub part_keeps : (node : ℕ) (w : Work) → Fine w → Fine (c.part_commanded node w)
  unfolding c.part_commanded
  part_keeps node w a = seen (slot_where (of_node may_part node) w.ring.slots) (λ i e. passes_at i (found_passes (of_node may_part node) zero w.ring.slots i e))
    where
      passes_at : (i : ℕ) → (j : ℕ) × (i ≡ zero + j) × (of_node may_part node (slot_at j w.ring.slots) ≡ true) → of_node may_part node (slot_at i w.ring.slots) ≡ true
      passes_at i g = let same : i ≡ g.0 = (let e = g.1 in omega arith) in ap (λ n. of_node may_part node (slot_at n w.ring.slots)) same ∙ g.2

      unless : (i : ℕ) (l : Link) (t : Bool) → Long l → guards l.state ≡ true → Fine (c.part_unless i l w t)
      unless i l true lasts g = a
      unless i l false lasts g = puts set.lease set.answer least i (parting_link l) w (lasts.0, λ e. lasts.1 g) a

      in_place : (i : ℕ) (o : Option Link) → slot_at i w.ring.slots ≡ o → of_node may_part node o ≡ true → Fine (c.part_at i o w)
      in_place i None e p = a
      in_place i (Some l) e p = unless i l _ (all_at set.lease set.answer least w.ring.slots i l a e) (parts_guard node l p)

      seen : (o : Option ℕ) → ((i : ℕ) → o ≡ Some i → of_node may_part node (slot_at i w.ring.slots) ≡ true) → Fine (c.part_seen o w)
      seen None p = a
      seen (Some i) p = in_place i _ refl (p i refl)

  pub give_keeps : (all : Bool) (node : ℕ) (w : Work) → Fine w → Fine (c.give_commanded all node w)
  unfolding c.give_commanded
  give_keeps all node w a = if_routing _
    where
      unless : (i : ℕ) (part : List Interval) (busy none fit : Bool) → Fine (c.give_unless i part w busy none fit)
      unless i part true none fit = a
      unless i part false true fit = a
      unless i part false false false = a
      unless i part false false true = a

      in_place : (i : ℕ) (o : Option Link) → Fine (c.give_at all i o w)
      in_place i None = a
      in_place i (Some l) = unless i _ _ _ _

      seen : (o : Option ℕ) → Fine (c.give_seen all o w)
      seen None = a
      seen (Some i) = in_place i _

      if_routing : (t : Bool) → Fine (c.give_if all node w t)
      if_routing false = a
      if_routing true = seen _

  pub join_keeps : (member : ℕ) (w : Work) → Fine w → Fine (c.join_commanded member w)
  unfolding c.join_commanded
  join_keeps member w a = unless _
    where
      unless : (t : Bool) → Fine (c.join_unless member w t)
      unless true = a
      unless false = a

  pub command_keeps : (o : Command) (w : Work) → commands_length o ≡ false → Fine w → Fine (s.command_received set now o w)
  unfolding s.command_received
  command_keeps o w plain a = counts set.lease set.answer least w (s.command_row set now o w) a (row o plain)
    where
      row : (o : Command) → commands_length o ≡ false → Fine (s.command_row set now o w)
      row (command.Link node) e = link_keeps node w a
      row (command.LinkFor node length) e = absurd (cc (e))
      row (command.Part node) e = part_keeps node w a
      row (command.GiveNear node) e = give_keeps false node w a
      row (command.GiveAll node) e = give_keeps true node w a
      row (command.Join node) e = join_keeps node w a
      row (command.Find key) e = find_keeps key w a
      row o e = a

  -- a firing

  asks_keep : (n : ℕ) (l : Link) (w : Work) → Fine w → Fine (g.ask_first n l w)
  asks_keep zero l w a = a
  asks_keep (suc n) l w a = asked _ (asks_keep n l w a)
    where
      asked : (t : Bool) → Fine (g.ask_first n l w) → Fine (g.ask_if (suc n) l (g.ask_first n l w) t)
      asked true b = b
      asked false b = b

  accused_keeps : (i : ℕ) (l : Link) (w : Work) → l.len ≡ set.lease → least ≤ l.until + set.answer → Fine w → Fine (g.peer_accused set i l w)
  unfolding g.peer_accused
  accused_keeps i l w len le a = by_test _
    where
      by_test : (t : Bool) → Fine (g.accuse_if set i l w t)
      by_test true =
          let listed : Work = d.undo_freeze i (d.on_ring (λ z. record z { accused = z.accused ++ l.peer ∷ [] }) w) in
          let k : Link = accused_link set w.ring.me l in
          asks_keep set.arbitrators k (d.tell (report.Accused l.peer) (d.put_slot i k listed)) (puts set.lease set.answer least i k listed (len, λ e. le) a)
      by_test false = tt

  leased_keeps : (i : ℕ) (l : Link) (says : Work → Work) (w : Work) → l.len ≡ set.lease → least ≤ l.until + set.answer → Fine w → Fine (says w) →
      Fine (g.leased set now i l says w)
  leased_keeps i l says w len le a b = over _
    where
      over : (t : Bool) → Fine (g.lease_over set i l says w t)
      over true = accused_keeps i l w len le a
      over false = b

  discharged_keeps : (i : ℕ) (l : Link) (w : Work) → Fine w → Fine (g.discharged_fired set now i l w)
  unfolding g.discharged_fired
  discharged_keeps i l w a = due _
    where
      due : (t : Bool) → Fine (g.discharged_due set i l w t)
      due true = drops set.lease set.answer least i w a
      due false = claims_keep set least now soon l (g.ask_arbiters set l w) (asks_keep set.arbitrators l w a)

  fired_keeps : (i : ℕ) (w : Work) → Fine w → Fine (g.slot_fired set now i w)
  unfolding g.slot_fired
  fired_keeps i w a = counts set.lease set.answer least w (g.fired_at set now i (slot_at i w.ring.slots) w) a (in_place (slot_at i w.ring.slots) refl)
    where
      hello : (l : Link) (t : Bool) → Fine (g.hello_due i l w t)
      hello l true = drops set.lease set.answer least i w a
      hello l false = a

      flies : (l : Link) (o : Option Flight) (v : Work) → Fine v → Fine (g.transfer_again l o v)
      flies l None v b = b
      flies l (Some z) v b = b

      over : (l : Link) (added : List Interval) (t : Bool) → Fine (g.take_over i l added w t)
      over l added false = a
      over l added true = drops set.lease set.answer least i (d.set_token (gained w.ring.token added) w) a

      heir : (l : Link) (t : Bool) → Fine (g.heir_due i l w t)
      heir l true = over l (added_by w l) (fits (added_by w l) && can_gain w.ring.token (added_by w l))
      heir l false = a

      inside : (l : Link) (st : LinkState) → l.state ≡ st → Long l → Fine (g.fired_in set now i l st w)
      inside l state.Hello e lasts = hello l _
      inside l state.Offered e lasts =
          leased_keeps i l (λ v. d.send l.peer (offer_body l) v) w lasts.0 (guarding set least now soon l state.Offered e refl lasts) a a
      inside l state.Bound e lasts =
          leased_keeps i l (λ v. v ▷ d.send l.peer (renew_body now l v.ring) ▷ g.transfer_again l l.flight) w lasts.0
          (guarding set least now soon l state.Bound e refl lasts) a (flies l l.flight (d.send l.peer (renew_body now l w.ring) w) a)
      inside l state.Parting e lasts = leased_keeps i l (d.say_gone l) w lasts.0 (guarding set least now soon l state.Parting e refl lasts) a a
      inside l state.Accused e lasts = asks_keep set.arbitrators l w a
      inside l state.Discharged e lasts = discharged_keeps i l w a
      inside l state.Heir e lasts = heir l _

      in_place : (o : Option Link) → slot_at i w.ring.slots ≡ o → Fine (g.fired_at set now i o w)
      in_place None e = a
      in_place (Some l) e = inside l l.state refl (all_at set.lease set.answer least w.ring.slots i l a e)

  slots_keep : (n : ℕ) (w : Work) → Fine w → Fine (g.slots_fired set now n w)
  unfolding g.slots_fired
  slots_keep zero w a = a
  slots_keep (suc n) w a =
      let before : Work = g.slots_fired set now n w in
      let b = slots_keep n w a in
      goes_on set.lease set.answer least (g.slot_fired set now n) before b (fired_keeps n before b)

  given_keeps : (w : Work) → Fine w → Fine (g.freeze_given w)
  unfolding g.freeze_given
  given_keeps w a = counts set.lease set.answer least w (g.give_frozen w.ring.token.freeze w) a (frozen w.ring.token.freeze)
    where
      gives : (z : Freeze) (o : Option Link) → slot_at z.slot w.ring.slots ≡ o → Fine (g.give_to z o w)
      gives z None e = a
      gives z (Some l) e =
          puts set.lease set.answer least z.slot (record l { flight = Some (record { number = w.ring.token.next_flight; part = z.part }) }) w
          (all_at set.lease set.answer least w.ring.slots z.slot l a e) a

      ready : (z : Freeze) (t : Bool) → Fine (g.give_ready z w t)
      ready z true = gives z (slot_at z.slot w.ring.slots) refl
      ready z false = a

      frozen : (o : Option Freeze) → Fine (g.give_frozen o w)
      frozen None = a
      frozen (Some z) = ready z (g.all_acked z.version w.ring.slots)

  greets_keep : (nodes : List ℕ) (w : Work) → Fine w → Fine (g.greet_all set now nodes w)
  greets_keep [] w a = a
  greets_keep (node ∷ nodes) w a = greets_keep nodes (h.greet_plainly set now node w) (plainly_keeps node w a)

  sought_keeps : (w : Work) → Fine w → Fine (g.place_sought set now w)
  unfolding g.place_sought
  sought_keeps w a = counts set.lease set.answer least w (g.search_by set now w (is_routing w.ring.phase)) a (search (is_routing w.ring.phase))
    where
      from : (o : Option ℕ) → Fine (g.seek_from o w)
      from None = a
      from (Some member) = a

      search : (t : Bool) → Fine (g.search_by set now w t)
      search true = greets_keep (near_nodes w.ring.routes set.near w.ring.accused) w a
      search false = from w.ring.target

  pub timer_keeps : (w : Work) → Fine w → Fine (g.timer_fired set now w)
  unfolding g.timer_fired
  timer_keeps w a =
      let fires : Work = g.slots_fired set now slot_count w in
      let gives : Work = d.then_unless_left g.freeze_given fires in
      let b = slots_keep slot_count w a in
      let e = goes_on set.lease set.answer least g.freeze_given fires b (given_keeps fires b) in
      goes_on set.lease set.answer least (g.place_sought set now) gives e (sought_keeps gives e)
