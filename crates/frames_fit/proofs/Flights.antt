-- Transfer and Gone keep a ring in range.
use Rattle.std.proofs.Common.{◌≡◌, ℕ, Bool, true, false, ◌&&◌, List, Option, Some, None, IsTrue, refl, subst}
use Rattle.std.specs.Prelude.{◌==◌, nat_le, nat_lt}
use Rattle.std.proofs.lemmas.Bool.{and_parts}
use Rattle.fabric_terms.specs.declared.config.FabricConfig.{FabricConfig}
use Rattle.fabric_terms.specs.declared.message.Body.{Body}
use Rattle.fabric_terms.specs.declared.message.Body.TheVariants as body
use Rattle.fabric_terms.specs.declared.report.Report.TheVariants as report
use Rattle.join_phases.specs.Phases.{holding_phase}
use Rattle.ring_points.specs.declared.interval.Interval.{Interval}
use Rattle.ring_points.specs.declared.who.Flight.{Flight}
use Rattle.ring_points.specs.declared.who.Who.{Who}
use Rattle.ring_rules.specs.declared.link.Link.{Link}
use Rattle.ring_rules.specs.declared.link.LinkState.{LinkState}
use Rattle.ring_rules.specs.declared.link.LinkState.TheVariants as state
use Rattle.ring_rules.specs.Deeds.{answer_unknown, drop_slot, put_slot, send, set_token, tell, undo_freeze}
use Rattle.ring_rules.specs.Flights as rows
use Rattle.ring_rules.specs.Flights.{close, gone_received, transfer_received}
use Rattle.ring_rules.specs.Rings.{Work}
use Rattle.ring_rules.specs.Slots.{greets_by, is_hello, of_session, slot_at, slot_where}
use Rattle.fabric_terms.specs.Fields.{is_counted, is_part, is_session, is_who}
use Rattle.token_core.specs.Tokens.{can_gain, gained}
use Rattle.frames_fit.specs.Formats.{in_format}
use Rattle.frames_fit.specs.InRange.{FlightInRange, IsInRange, holds_bound}
use Rattle.frames_fit.proofs.Facts.{counted_word, gone_format, session_from, who_addressed}
use Rattle.frames_fit.proofs.Going.{Going, drops, gains, phases, puts, sends, tells, undoes}
use Rattle.frames_fit.proofs.Places.{set_at, found_passes, hello_unbound}
use Rattle.frames_fit.proofs.Reporting.{counted_fits, part_fits, peer_fits}
use Rattle.frames_fit.proofs.Saying.{answers, found, gone_said, in_session_of, link_in_range, not_frozen, says_gone, still_bound}
use Rattle.frames_fit.proofs.Tokens.{part_rises, undone_not_in}

-- a slot that greets is not bound
greets_unbound : (mine : ℕ) (o : Option Link) → greets_by mine o ≡ true → holds_bound o ≡ false
greets_unbound mine None h = absurd (cc (h))
greets_unbound mine (Some l) h = hello_unbound l.state (and_parts (l.mine == mine) (is_hello l.state) h).1

module _ (c : FabricConfig) (w : Work) (a : Going c w) where
  answers_if : (b : Bool) (to : Who) (said : Body) → (IsInRange c w.ring → IsTrue (in_format (to, said))) → Going c (rows.answer_if b to said w)
  answers_if true to said fine = sends c w a to said fine
  answers_if false to said fine = a

module _ (c : FabricConfig) (w : Work) (a : Going c w) where
  -- the slot of a session ends
  closes : (i : ℕ) (l : Link) (bound : Bool) → slot_at i w.ring.slots ≡ Some l → is_hello l.state ≡ false → Going c (close i l bound w)
  closes i l bound e met = ends bound
    where
      undone : Going c (undo_freeze i w)
      undone = undoes c w a i

      said : IsInRange c (undo_freeze i w).ring → IsTrue (in_format (l.peer, body.Gone l.mine l.yours l.got false))
      said r = let m = link_in_range i l e r in gone_said l m (in_session_of l m met) false

      ends : (b : Bool) → Going c (close i l b w)
      ends true =
          let answer : Body = body.Gone l.mine l.yours l.got false in
          drops c (send l.peer answer (undo_freeze i w)) (sends c (undo_freeze i w) undone l.peer answer said) i (λ r. undone_not_in i w.ring.token)
      ends false = drops c (undo_freeze i w) undone i (λ r. undone_not_in i w.ring.token)

module _ (c : FabricConfig) (w : Work) (a : Going c w) where
  pub transfer_going : (from : Who) (theirs own number : ℕ) (part : List Interval) → IsTrue (is_who from) → IsTrue (is_session theirs own) →
      IsTrue (is_counted number) → IsTrue (is_part part) → Going c (transfer_received from theirs own number part w)
  unfolding transfer_received
  transfer_going from theirs own number part h s k m =
      found c w a (rows.transfer_seen number part) (answer_unknown from theirs own) (slot_where (of_session from own theirs) w.ring.slots) inside
      (answers c w a from theirs own h s)
    where
      taken : (i : ℕ) (l : Link) → slot_at i w.ring.slots ≡ Some l → is_hello l.state ≡ false → (b : Bool) → (nat_lt l.got number && can_gain w.ring.token part) ≡ b →
          Going c (rows.take_flight i l number part w b)
      taken i l e met false f = a
      taken i l e met true f =
          let fit = and_parts (nat_lt l.got number) (can_gain w.ring.token part) f in
          let gained_by : Work = set_token (gained w.ring.token part) w in
          let gains_it : Going c gained_by = gains c w a part (λ r. part_rises part m) fit.1 in
          let puts_it : Going c (put_slot i (record l { got = number }) gained_by) = puts c gained_by gains_it i (record l { got = number })
          (λ r. let n = link_in_range i l e r in
          record { names = n.names; mine = n.mine; length = n.length; held = n.held; got = counted_word number k; flight = n.flight; rounds = n.rounds; until = n.until })
          (λ r. still_bound i l e r) in
          let put : Work = put_slot i (record l { got = number }) gained_by in
          let tells_it : Going c (tell (report.Took l.peer number part) put) = tells c put puts_it (report.Took l.peer number part)
          (λ r. let n = link_in_range i (record l { got = number }) (set_at w.ring.slots i l (Some (record l { got = number })) e) r in
          (peer_fits (record l { got = number }) n met, counted_fits number k, part_fits part m)) in
          phases c (tell (report.Took l.peer number part) put) tells_it holding_phase

      inside : (i : ℕ) (l : Link) (st : LinkState) → slot_at i w.ring.slots ≡ Some l → l.state ≡ st → Going c (rows.transfer_seen number part i l st w)
      inside i l state.Bound e f = taken i l e (λ j. is_hello (f j)) (nat_lt l.got number && can_gain w.ring.token part) refl
      inside i l state.Parting e f = says_gone c w a l (λ r. link_in_range i l e r) (λ j. is_hello (f j))
      inside i l st e f = a

  pub gone_going : (from : Who) (theirs own got : ℕ) (bound : Bool) → IsTrue (is_who from) → IsTrue (is_session theirs own) →
      Going c (gone_received from theirs own got bound w)
  unfolding gone_received
  gone_going from theirs own got bound h s =
      found c w a (rows.gone_seen got bound) (rows.gone_elsewhere from theirs own bound) (slot_where (of_session from own theirs) w.ring.slots) inside
      (elsewhere (slot_where (greets_by own) w.ring.slots) refl)
    where
      returned : (i : ℕ) (l : Link) (z : Flight) → slot_at i w.ring.slots ≡ Some l → is_hello l.state ≡ false → l.flight ≡ Some z →
          (b : Bool) → can_gain w.ring.token z.part ≡ b → Going c (rows.flight_returned i l z bound w b)
      returned i l z e met f false k = a
      returned i l z e met f true k =
          let gained_by : Work = set_token (gained w.ring.token z.part) w in
          let gains_it : Going c gained_by = gains c w a z.part
          (λ r. part_rises z.part (and_parts (is_counted z.number) (is_part z.part) (subst FlightInRange f (link_in_range i l e r).flight)).1) k in
          let tells_it : Going c (tell (report.Returned l.peer z.number z.part) gained_by) = tells c gained_by gains_it (report.Returned l.peer z.number z.part)
          (λ r. let n = link_in_range i l e r in
          let flown = and_parts (is_counted z.number) (is_part z.part) (subst FlightInRange f n.flight) in
          (peer_fits l n met, counted_fits z.number flown.0, part_fits z.part flown.1)) in
          closes c (tell (report.Returned l.peer z.number z.part) gained_by) tells_it i l bound e met

      settled : (i : ℕ) (l : Link) (z : Flight) → slot_at i w.ring.slots ≡ Some l → is_hello l.state ≡ false → l.flight ≡ Some z →
          (b : Bool) → Going c (rows.flight_settled i l z bound w b)
      settled i l z e met f true = closes c w a i l bound e met
      settled i l z e met f false = returned i l z e met f (can_gain w.ring.token z.part) refl

      heard : (i : ℕ) (l : Link) → slot_at i w.ring.slots ≡ Some l → is_hello l.state ≡ false → (o : Option Flight) → l.flight ≡ o →
          Going c (rows.gone_heard i l got bound o w)
      heard i l e met None f = closes c w a i l bound e met
      heard i l e met (Some z) f = settled i l z e met f (nat_le z.number got)

      inside : (i : ℕ) (l : Link) (st : LinkState) → slot_at i w.ring.slots ≡ Some l → l.state ≡ st → Going c (rows.gone_seen got bound i l st w)
      inside i l state.Offered e f = heard i l e (λ j. is_hello (f j)) l.flight refl
      inside i l state.Bound e f = heard i l e (λ j. is_hello (f j)) l.flight refl
      inside i l state.Parting e f = heard i l e (λ j. is_hello (f j)) l.flight refl
      inside i l st e f = a

      said : IsTrue (in_format (from, body.Gone own theirs 0 false))
      said =
          let parts = and_parts (is_counted theirs) (is_counted own) s in
          gone_format from (who_addressed from h) own theirs (session_from own theirs parts.1 parts.0) 0 false refl

      elsewhere : (o : Option ℕ) → slot_where (greets_by own) w.ring.slots ≡ o → Going c (rows.gone_greeting from theirs own bound w o)
      elsewhere None e = answers_if c w a bound from (body.Gone own theirs 0 false) (λ r. said)
      elsewhere (Some i) e =
          answers_if c (drop_slot i w)
          (drops c w a i (λ r. not_frozen i (greets_unbound own (slot_at i w.ring.slots) (found_passes (greets_by own) w.ring.slots i e)) r))
          bound from (body.Gone own theirs 0 false) (λ r. said)
