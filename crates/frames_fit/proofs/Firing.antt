-- A firing keeps a ring in range.
use Rattle.std.proofs.Common.{◌≡◌, ℕ, zero, suc, ◌+◌, Bool, true, false, ◌&&◌, List, [], ◌∷◌, ◌++◌, length, Option, Some, None, IsTrue, refl, subst, arith}
use Rattle.std.specs.Prelude.{All, nat_le, nat_lt}
use Rattle.std.proofs.lemmas.Bool.{and_parts, and_from}
use Rattle.std.proofs.lemmas.List.Elements.{All-head, All-tail}
use Rattle.fabric_terms.specs.declared.config.FabricConfig.{FabricConfig}
use Rattle.fabric_terms.specs.declared.report.Report.TheVariants as report
use Rattle.fabric_terms.specs.declared.report.Why.TheVariants.{AccusedFull}
use Rattle.fabric_terms.specs.Sound.{IsSound}
use Rattle.join_phases.specs.Phases.{holding_phase, is_routing}
use Rattle.ring_points.specs.declared.interval.Interval.{Interval}
use Rattle.ring_points.specs.declared.who.Flight.{Flight}
use Rattle.ring_points.specs.Ranges.{fits}
use Rattle.ring_route.specs.Routes.{near_nodes}
use Rattle.ring_rules.specs.declared.link.Link.{Link}
use Rattle.ring_rules.specs.declared.link.LinkState.{LinkState}
use Rattle.ring_rules.specs.declared.link.LinkState.TheVariants as state
use Rattle.ring_rules.specs.Deeds.{drop_slot, on_ring, put_slot, say_gone, send, set_phase, set_token, tell, then_unless_left, undo_freeze}
use Rattle.ring_rules.specs.Firing as rows
use Rattle.ring_rules.specs.Firing.{ask_arbiters, discharged_fired, freeze_given, peer_accused, place_sought, slot_fired, slots_fired, timer_fired}
use Rattle.ring_rules.specs.Handshakes.{greet_plainly}
use Rattle.ring_rules.specs.Links.{accused_link, flight_part, hello_body, offer_body, renew_body, transfer_body}
use Rattle.ring_rules.specs.Rings.{Settings, Work, accused_limit, slot_count, ◌▷◌}
use Rattle.ring_rules.specs.Slots.{is_bound, is_hello, slot_at}
use Rattle.fabric_terms.specs.Fields.{is_counted, is_part, is_stamp}
use Rattle.token_core.specs.Tokens.{Freeze, can_gain, gained, given, inherited}
use Rattle.frames_fit.specs.InRange.{FlightInRange, FreezeInRange, IsInRange, LinkInRange, TargetInRange, holds_bound, is_frozen_for_bound, names_peer}
use Rattle.frames_fit.proofs.Asking.{asked_ring, asks, claims}
use Rattle.frames_fit.proofs.Facts.{counted_from}
use Rattle.frames_fit.proofs.Going.{Done, Going, accuses, counts, drops, gained_before, gains, goes_on, leaves, numbers_parts, phases, puts, sends, tells, tokens, undoes}
use Rattle.frames_fit.proofs.Greetings.{greets_plainly}
use Rattle.frames_fit.proofs.Places.{bound_met, hello_unbound, is_frozen_in, set_at}
use Rattle.frames_fit.proofs.Routes.{NodeInRange, near_in_range}
use Rattle.frames_fit.proofs.Reporting.{counted_fits, part_fits, peer_fits}
use Rattle.frames_fit.proofs.Saying.{SettingsInRange, first_round, hello_said, in_session_of, link_in_range, moved_in_range, not_frozen, offer_said, renew_said, says_gone, transfer_said, unbound_at}
use Rattle.frames_fit.proofs.Seeks.{seek_place_going}
use Rattle.frames_fit.proofs.Tokens.{Rises, given_in_range, inherited_rises, part_rises, proper_from, proper_rises, undone_not_in}

-- A slot.

module _ (c : FabricConfig) (w : Work) (a : Going c w) (set : Settings) (fine : SettingsInRange set) (now i : ℕ) (l : Link)
    (e : slot_at i w.ring.slots ≡ Some l) where
  link : IsInRange c w.ring → LinkInRange l
  link r = link_in_range i l e r

  -- a link that is not bound goes
  goes : is_bound l.state ≡ false → Going c (drop_slot i w)
  goes idle = drops c w a i (λ r. not_frozen i (unbound_at w.ring.slots i l e idle) r)

  hello_fires : is_hello l.state ≡ true → (b : Bool) → Going c (rows.hello_due i l w b)
  hello_fires greets true = goes (hello_unbound l.state greets)
  hello_fires greets false = sends c w a l.peer (hello_body l)
      (λ r. let m = link r in hello_said l m (subst (λ (b : Bool). IsTrue (names_peer b l.peer l.yours)) greets m.names))

  accuses_peer : is_hello l.state ≡ false → Going c (peer_accused set i l w)
  unfolding peer_accused
  accuses_peer met = by_room (nat_lt (length w.ring.accused) accused_limit)
    where
      by_room : (b : Bool) → Going c (rows.accuse_if set i l w b)
      by_room false = leaves c w a AccusedFull
      by_room true =
          let named : Work = on_ring (λ r. record r { accused = r.accused ++ l.peer ∷ [] }) w in
          let undone : Work = undo_freeze i named in
          let undoes_it : Going c undone = undoes c named (accuses c w a (w.ring.accused ++ l.peer ∷ [])) i in
          let k : Link = accused_link set w.ring.me l in
          let puts_it : Going c (put_slot i k undone) = puts c undone undoes_it i k
          (λ r. let m = moved_in_range l (link_in_range i l e r) met state.Accused refl l.ripe k.tally in
          record {
            names = m.names;
            mine = m.mine;
            length = m.length;
            until = m.until;
            held = m.held;
            got = m.got;
            flight = m.flight;
            rounds = first_round set fine w.ring.me;
          })
          (λ r z. let none : is_frozen_in i undone.ring.token.freeze ≡ false = undone_not_in i w.ring.token in absurd (cc (none, z))) in
          let after : IsInRange c (put_slot i k undone).ring → LinkInRange k = (λ r. link_in_range i k (set_at w.ring.slots i l (Some k) e) r) in
          let tells_it : Going c (tell (report.Accused l.peer) (put_slot i k undone)) = tells c (put_slot i k undone) puts_it (report.Accused l.peer)
          (λ r. peer_fits k (after r) refl) in
          asks c set fine k refl (tell (report.Accused l.peer) (put_slot i k undone)) after tells_it

  leased_fires : (says : Work → Work) → is_hello l.state ≡ false → Going c (says w) → Going c (rows.leased set now i l says w)
  leased_fires says met g = by_time (nat_le l.until now)
    where
      by_time : (b : Bool) → Going c (rows.lease_over set i l says w b)
      by_time true = accuses_peer met
      by_time false = g

  discharged_fires : is_hello l.state ≡ false → is_bound l.state ≡ false → Going c (discharged_fired set now i l w)
  unfolding discharged_fired
  discharged_fires met idle = by_time (nat_le (l.until + set.answer + rows.rounds_time set l) now)
    where
      by_time : (b : Bool) → Going c (rows.discharged_due set i l w b)
      by_time true = goes idle
      by_time false =
          claims c set fine l met (ask_arbiters set l w) (λ r. link (subst (IsInRange c) (asked_ring set.arbitrators l w) r))
          (asks c set fine l met w link a)

  -- what is in its flight is in its list
  flight_rises : (o : Option Flight) → FlightInRange o → Rises (flight_part o)
  flight_rises None h = refl
  flight_rises (Some f) h = part_rises f.part (and_parts (is_counted f.number) (is_part f.part) h).1

  heir_fires : is_hello l.state ≡ false → is_bound l.state ≡ false → (b : Bool) → Going c (rows.heir_due i l w b)
  heir_fires met idle false = a
  heir_fires met idle true = by_fit _ refl
    where
      by_fit : (b : Bool) →
          (fits (inherited w.ring.token l.held (flight_part l.flight)) && can_gain w.ring.token (inherited w.ring.token l.held (flight_part l.flight))) ≡ b →
          Going c (rows.take_over i l (inherited w.ring.token l.held (flight_part l.flight)) w b)
      by_fit false f = a
      by_fit true f =
          let more : List Interval = inherited w.ring.token l.held (flight_part l.flight) in
          let fit = and_parts (fits more) (can_gain w.ring.token more) f in
          let rises : IsInRange c w.ring → Rises more = (λ r. let m = link r in
          inherited_rises w.ring.token r.token l.held (flight_part l.flight) (proper_rises l.held m.held) (flight_rises l.flight m.flight)) in
          let gained_by : Work = set_token (gained w.ring.token more) w in
          let gains_it : Going c gained_by = gains c w a more rises fit.1 in
          let told : Work = tell (report.TookOver l.peer more) gained_by in
          let tells_it : Going c told = tells c gained_by gains_it (report.TookOver l.peer more)
          (λ r. (peer_fits l (link_in_range i l e r) met, proper_from more fit.0 (rises (a (gained_before w.ring more r.numbers)).ring))) in
          drops c (set_phase holding_phase told) (phases c told tells_it holding_phase) i (λ r. not_frozen i (unbound_at w.ring.slots i l e idle) r)

  flies : is_hello l.state ≡ false → (o : Option Flight) → l.flight ≡ o → (v : Work) → v.ring ≡ w.ring → Going c v → Going c (rows.transfer_again l o v)
  flies met None f v same g = g
  flies met (Some z) f v same g = sends c v g l.peer (transfer_body l z)
      (λ r. let m = link (subst (IsInRange c) same r) in transfer_said l m (in_session_of l m met) z (subst FlightInRange f m.flight))

  fires_in : IsTrue (is_stamp now) → (st : LinkState) → l.state ≡ st → Going c (rows.fired_in set now i l st w)
  fires_in reads state.Hello f = hello_fires (λ j. is_hello (f j)) (nat_le l.until now)
  fires_in reads state.Offered f =
      leased_fires (λ v. send l.peer (offer_body l) v) (λ j. is_hello (f j))
      (sends c w a l.peer (offer_body l) (λ r. let m = link r in offer_said l m (in_session_of l m (λ j. is_hello (f j)))))
  fires_in reads state.Bound f =
      let met : is_hello l.state ≡ false = λ j. is_hello (f j) in
      let renews : Going c (send l.peer (renew_body now l w.ring) w) = sends c w a l.peer (renew_body now l w.ring)
      (λ r. let m = link r in renew_said l m (in_session_of l m met) now w.ring r reads) in
      leased_fires (λ v. v ▷ send l.peer (renew_body now l v.ring) ▷ rows.transfer_again l l.flight) met
      (flies met l.flight refl (send l.peer (renew_body now l w.ring) w) refl renews)
  fires_in reads state.Parting f = leased_fires (say_gone l) (λ j. is_hello (f j)) (says_gone c w a l link (λ j. is_hello (f j)))
  fires_in reads state.Accused f = asks c set fine l (λ j. is_hello (f j)) w link a
  fires_in reads state.Discharged f = discharged_fires (λ j. is_hello (f j)) (λ j. is_bound (f j))
  fires_in reads state.Heir f = heir_fires (λ j. is_hello (f j)) (λ j. is_bound (f j)) (nat_le l.ripe now)

-- The slots in their order, a freeze that is ready, and the search.

module _ (c : FabricConfig) (set : Settings) (fine : SettingsInRange set) (now : ℕ) (reads : IsTrue (is_stamp now)) where
  slot_fires : (i : ℕ) (w : Work) → Done c w → Done c (slot_fired set now i w)
  unfolding slot_fired
  slot_fires i w d = counts c w (rows.fired_at set now i (slot_at i w.ring.slots) w) d (at (slot_at i w.ring.slots) refl)
    where
      at : (o : Option Link) → slot_at i w.ring.slots ≡ o → Going c (rows.fired_at set now i o w)
      at None e = λ n. d
      at (Some l) e = fires_in c w (λ n. d) set fine now i l e reads l.state refl

  slots_fire : (k : ℕ) (w : Work) → Done c w → Done c (slots_fired set now k w)
  unfolding slots_fired
  slots_fire zero w d = d
  slots_fire (suc k) w d =
      let before = slots_fire k w d in
      goes_on c (slot_fired set now k) (slots_fired set now k w) before (slot_fires k (slots_fired set now k w) before)

gives_freeze : (c : FabricConfig) (w : Work) → Done c w → Done c (freeze_given w)
unfolding freeze_given
gives_freeze c w d = counts c w (rows.give_frozen w.ring.token.freeze w) d (frozen w.ring.token.freeze refl)
  where
    gives : (z : Freeze) → w.ring.token.freeze ≡ Some z → (o : Option Link) → slot_at z.slot w.ring.slots ≡ o → Going c (rows.give_to z o w)
    gives z f None e = λ n. d
    gives z f (Some l) e =
        let flight : Flight = record { number = w.ring.token.next_flight; part = z.part } in
        let part : IsTrue (is_part z.part) = subst FreezeInRange f d.ring.token.freeze in
        let met : is_hello l.state ≡ false = bound_met l.state (subst (λ (o : Option Link). holds_bound o ≡ true) e
        (subst (λ (o : Option Freeze). IsTrue (is_frozen_for_bound o w.ring.slots)) f d.ring.frozen)) in
        let m : LinkInRange l = link_in_range z.slot l e d.ring in
        let given_by : Work = set_token (given w.ring.token z) w in
        let gives_it : Going c given_by = tokens c w (λ n. d) (given w.ring.token z) (omega arith) (omega arith)
        (λ r. given_in_range w.ring.token r.token z f) (λ r. refl) in
        let counted : IsInRange c given_by.ring → IsTrue (is_counted w.ring.token.next_flight && is_part z.part) =
        (λ r. let last = (numbers_parts given_by.ring r.numbers).flights in let one = d.ring.next_flight in
        and_from (is_counted w.ring.token.next_flight) (is_part z.part) (counted_from w.ring.token.next_flight one (omega arith)) part) in
        let told : Work = tell (report.Gave l.peer w.ring.token.next_flight z.part) given_by in
        let tells_it : Going c told = tells c given_by gives_it (report.Gave l.peer w.ring.token.next_flight z.part)
        (λ r. (peer_fits l m met, counted_fits w.ring.token.next_flight (and_parts (is_counted w.ring.token.next_flight) (is_part z.part) (counted r)).0, part_fits z.part part)) in
        let put : Work = put_slot z.slot (record l { flight = Some flight }) told in
        let puts_it : Going c put = puts c told tells_it z.slot (record l { flight = Some flight })
        (λ r. record { names = m.names; mine = m.mine; length = m.length; held = m.held; got = m.got; flight = counted r; rounds = m.rounds; until = m.until })
        (λ r k. absurd (cc (k))) in
        sends c put puts_it l.peer (transfer_body l flight)
        (λ r. transfer_said l m (in_session_of l m met) flight (counted (gives_it r.numbers).ring))

    ready : (z : Freeze) → w.ring.token.freeze ≡ Some z → (b : Bool) → Going c (rows.give_ready z w b)
    ready z f true = gives z f (slot_at z.slot w.ring.slots) refl
    ready z f false = λ n. d

    frozen : (o : Option Freeze) → w.ring.token.freeze ≡ o → Going c (rows.give_frozen o w)
    frozen None f = λ n. d
    frozen (Some z) f = ready z f _

module _ (c : FabricConfig) (sound : IsSound c) (set : Settings) (fine : SettingsInRange set) (now : ℕ)
    (reads : IsTrue (is_stamp now)) where
  greets_each : (nodes : List ℕ) (w : Work) → All NodeInRange nodes → Going c w → Going c (rows.greet_all set now nodes w)
  greets_each [] w h a = a
  greets_each (node ∷ nodes) w h a =
      greets_each nodes (greet_plainly set now node w) (All-tail NodeInRange node nodes h)
      (greets_plainly c w a set fine now reads node (All-head NodeInRange node nodes h))

  seeks : (w : Work) → Done c w → Done c (place_sought set now w)
  unfolding place_sought
  seeks w d = counts c w (rows.search_by set now w (is_routing w.ring.phase)) d (by_phase (is_routing w.ring.phase))
    where
      from : (o : Option ℕ) → TargetInRange o → Going c (rows.seek_from o w)
      from None h = λ n. d
      from (Some member) h = seek_place_going c w (λ n. d) sound member h

      by_phase : (b : Bool) → Going c (rows.search_by set now w b)
      by_phase true =
          greets_each (near_nodes w.ring.routes set.near w.ring.accused) w (near_in_range w.ring.routes set.near w.ring.accused d.ring.known) (λ n. d)
      by_phase false = from w.ring.target d.ring.target

  pub timer_done : (w : Work) → Done c w → Done c (timer_fired set now w)
  unfolding timer_fired
  timer_done w d =
      let slots = slots_fire c set fine now reads slot_count w d in
      let given = goes_on c freeze_given (slots_fired set now slot_count w) slots (gives_freeze c (slots_fired set now slot_count w) slots) in
      goes_on c (place_sought set now) (slots_fired set now slot_count w ▷ then_unless_left freeze_given) given
      (seeks (slots_fired set now slot_count w ▷ then_unless_left freeze_given) given)
