-- How points move, and how a session ends: a Transfer is heard, and a Gone.
use Rattle.std.proofs.Common.{◌≡◌, ℕ, ◌<◌, ◌==◌, ◌&&◌, nat_le, nat_lt, Bool, true, false, List, [], ◌∷◌, ◌++◌, Option, Some, None, refl, sym, ap, ◌∙◌, subst, inl}
use Rattle.std.specs.Prelude.{slice_set}
use Rattle.std.proofs.lemmas.Bool.{eqb-true, eq-eqb, ltb-true, leb-false, and_parts, and_from, both_ways}
use Rattle.ring_points.specs.declared.interval.Interval.{Interval}
use Rattle.ring_points.specs.declared.who.Flight as points
use Rattle.ring_points.specs.declared.who.Who.{Who}
use Rattle.fabric_terms.specs.declared.config.FabricConfig.{FabricConfig}
use Rattle.fabric_terms.specs.declared.message.Body.{Body}
use Rattle.fabric_terms.specs.declared.message.Body.TheVariants as body
use Rattle.fabric_terms.specs.declared.report.Report.TheVariants as report
use Rattle.fabric_terms.specs.Places.{Place}
use Rattle.token_core.specs.Tokens.{gained, can_gain}
use Rattle.ring_rules.specs.declared.link.Link.{Link}
use Rattle.ring_rules.specs.declared.link.LinkState.{LinkState}
use Rattle.ring_rules.specs.declared.link.LinkState.TheVariants as state
use Rattle.ring_rules.specs.Links.{flight_part}
use Rattle.ring_rules.specs.Rings.{Work}
use Rattle.ring_rules.specs.Slots.{slot_at, slot_where, is_hello, greets_by, of_session}
use Rattle.ring_rules.specs.Deeds.{answer_unknown, drop_slot, undone}
use Rattle.ring_rules.specs.Flights.{take_flight, transfer_seen, transfer_received, close, flight_returned, flight_settled, gone_heard, gone_seen, gone_unknown, gone_greeting, gone_elsewhere, gone_received}
use Rattle.ring_rules.proofs.Rows.{transfer_received-is, gone_received-is}
use Rattle.fabric_lemmas.specs.Members.{IsMember}
use Rattle.ring_machine.specs.Ends.{end_of}
use Rattle.ring_machine.specs.Slots.{Flight, Asking, Abandoned, stands, Bound}
use Rattle.ring_machine.specs.Frames.{Transfer, Gone}
use Rattle.ring_machine.specs.Frames as frames
use Rattle.ring_machine.specs.World as world
use Rattle.ring_machine.specs.World.{World, slot}
use Rattle.ring_machine.specs.Deeds.{FlightTaken, FlightReturned, GoneHeard, HelloDenied}
use Rattle.ring_machine.specs.Effects.{outcome, moved, parted}
use Rattle.ring_machine.specs.Events.{IsSound}
use Rattle.ring_machine.specs.SoundFrames.{SoundTransfer, SoundGone}
use Rattle.ring_machine.specs.Tokens as machine
use Rattle.ring_refinement.specs.Images.{machine_of, state_of, points_of, flight_of, freeze_of, slot_of, token_of}
use Rattle.ring_refinement.specs.Tables.{is_wronged}
use Rattle.ring_refinement.specs.Moves.{places_of, MovedBy}
use Rattle.ring_refinement.specs.Refined.{AllSaid}
use Rattle.ring_refinement.proofs.Places.{found_at, none_at}
use Rattle.ring_refinement.proofs.Changes.{stays, goes, stays_alone}
use Rattle.ring_refinement.proofs.Freezes.{freeze_put, frozen_put}
use Rattle.ring_refinement.proofs.Ranges.{Rises, gained_is, gained_rises}
use Rattle.ring_refinement.proofs.Telling.{moved_and, over_and, all_said_both}
use Rattle.ring_refinement.proofs.Going.{Going, slot_deed}
use Rattle.ring_refinement.proofs.SlotRows.{one_said, holding_stays, nothing_besides, drops, in_its_session}
use Rattle.ring_refinement.proofs.Saying.{tied_used, tied_asks, gone_again_going}
use Rattle.ring_refinement.proofs.TokenRows.{moved_is, flying_is, moves, undoes}
use Rattle.ring_refinement.proofs.Unknown.{hello_is, asking_held, unknown_going}

module _ {c : FabricConfig} {m : World} {x : Who} {now : ℕ} {w : Work} (sound : IsSound (machine_of c)) (g : Going c m x now w) where
  abbrev v : World
  v = g.after

  abbrev first : Who
  first = v.whole

  -- a flight is taken
  taken : (i : ℕ) (l : Link) (number : ℕ) (part : List Interval) → slot_at i w.ring.slots ≡ Some l → l.state ≡ state.Bound → Rises part →
      IsMember (Transfer (end_of l.peer l.yours) (end_of x l.mine) number (points_of part)) v.sent → (q : Bool) →
      (nat_lt l.got number && can_gain w.ring.token part) ≡ q → Going c m x now (take_flight i l number part w q)
  taken i l number part at is rises came false e = g
  taken i l number part at is rises came true e =
      slot_deed sound g i l at (FlightTaken number (points_of part)) may (take_flight i l number part w true) (record {
        placed = Some k;
        slots = refl;
        new = stays k refl (record {
          numbered = refl;
          below = g.shows.slots.below i l at;
          shown = refl;
          sound = let s = g.shows.slots.sound i l at in record { held = s.held; part = s.part; length = s.length; tally = s.tally; rounds = s.rounds };
          alone = stays_alone g.shows.slots i l k at refl (λ h. h) (λ h. h);
        });
        me = refl;
        counter = refl;
        stays = holding_stays w.ring.phase g.stays;
        token = sym (gained_is w.ring.slots w.ring.token g.shows.rises part rises) ∙
            (let f = freeze_put w.ring.slots i l at k refl w.ring.token.freeze in
            λ j. record (token_of w.ring.slots (gained w.ring.token part)) { freeze = sym f j });
        rises = gained_rises w.ring.slots w.ring.token g.shows.rises part rises;
        frozen = λ z h. frozen_put w.ring.slots i l at k (λ b. b) z.slot (g.shows.frozen z h);
        accuses = λ y h. h;
        wrongs = λ h. absurd (let b = ap (λ s. is_wronged (state_of s)) is in both_ways _ b h);
        sent = λ h. h;
        moved = λ n P h. subst (λ (Q : ℕ → Place). MovedBy x (w.told ++ report.Took l.peer number part ∷ []) n P w.ring.token.next_flight Q)
            (moved_is first (world.At x) part v.place)
            (moved_and x w.told n w.ring.token.next_flight P (places_of first v) (report.Took l.peer number part) h
            (flying_is first v (end_of l.peer l.yours) (end_of x l.mine) number part (moves sound g i l at (FlightTaken number (points_of part)) may)) tt);
        over = λ h. over_and (machine_of c) v w.told (report.Took l.peer number part) h tt;
      })
    where
      k : Link
      k = record l { got = number }

      newer : l.got < number
      newer = ltb-true l.got number (and_parts (nat_lt l.got number) (can_gain w.ring.token part) e).0

      may : (state_of l.state ≡ Bound) × IsMember (Transfer (end_of l.peer l.yours) (end_of x l.mine) number (points_of part)) v.sent × (l.got < number)
      may = (ap state_of is, came, newer)

  pub transfer_going : (from : Who) (theirs own number : ℕ) (part : List Interval) → (IsMember from w.ring.accused → ⊥) → Rises part →
      IsMember (Transfer (end_of from theirs) (end_of x own) number (points_of part)) m.sent → Going c m x now (transfer_received from theirs own number part w)
  transfer_going from theirs own number part trusted rises was =
      subst (λ (u : Work). Going c m x now u) (sym (transfer_received-is from theirs own number part w))
      (in_its_session sound g from theirs own (transfer_seen number part) (answer_unknown from theirs own)
      (λ f e. IsMember (Transfer f e number (points_of part)) v.sent) came known
      (λ none. unknown_going sound g from theirs own (Transfer (end_of from theirs) (end_of x own) number (points_of part)) came refl
      (tied_used v (end_of x own) (end_of from theirs) transfer.tied.theirs) (tied_asks v (end_of x own) (end_of from theirs) transfer.tied.theirs) trusted none))
    where
      came : IsMember (Transfer (end_of from theirs) (end_of x own) number (points_of part)) v.sent
      came = g.beside.sent _ was

      transfer : SoundTransfer (machine_of c) v (end_of from theirs) (end_of x own) number (points_of part)
      transfer = g.inv.frames _ came

      known : (i : ℕ) (l : Link) → slot_at i w.ring.slots ≡ Some l → IsMember (Transfer (end_of l.peer l.yours) (end_of x l.mine) number (points_of part)) v.sent →
          (s : LinkState) → l.state ≡ s → Going c m x now (transfer_seen number part i l s w)
      known i l at h state.Bound is = taken i l number part at is rises h _ refl
      known i l at h state.Parting is = gone_again_going sound g i l at is
      known i l at h s is = g

  -- what is answered to a Gone that wants an answer
  abbrev answers : Bool → Who → ℕ → ℕ → ℕ → List (Who × Body) → List (Who × Body)
  answers true to own theirs got sent = sent ++ (to, body.Gone own theirs got false) ∷ []
  answers false to own theirs got sent = sent

  answers_said : (bound : Bool) (to : Who) (own theirs got : ℕ) →
      AllSaid c.lease (frames.answer_if bound (Gone (end_of x own) (end_of to theirs) got false) ++ v.sent) x w.sent →
      AllSaid c.lease (frames.answer_if bound (Gone (end_of x own) (end_of to theirs) got false) ++ v.sent) x (answers bound to own theirs got w.sent)
  answers_said true to own theirs got h = all_said_both c.lease _ x w.sent _ h (record { image = inl refl; rises = refl; no_ruling = refl }, tt)
  answers_said false to own theirs got h = h

  -- the session ends by a Gone
  closed : (i : ℕ) (l : Link) (got : ℕ) (bound : Bool) → slot_at i w.ring.slots ≡ Some l → stands (state_of l.state) ≡ true →
      IsMember (Gone (end_of l.peer l.yours) (end_of x l.mine) got bound) v.sent → Going c m x now (close i l bound w)
  closed i l got bound at standing came = shape bound (ends bound came)
    where
      ends : (bound : Bool) → IsMember (Gone (end_of l.peer l.yours) (end_of x l.mine) got bound) v.sent →
          Going c m x now (record {
            ring = record w.ring { slots = slice_set w.ring.slots i None; token = undone i w.ring.token };
            sent = answers bound l.peer l.mine l.yours l.got w.sent;
            told = w.told;
          })
      ends bound came =
          undoes sound g i l at (GoneHeard got bound) (standing, came) w.ring.token g.shows.rises refl (parted (slot_of l)) None
          (frames.answer_if bound (Gone (end_of x l.mine) (end_of l.peer l.yours) l.got false)) v.place refl (goes refl refl) w.ring.accused (λ y h. h)
          (λ h. absurd (cc (h))) (answers bound l.peer l.mine l.yours l.got w.sent) (answers_said bound l.peer l.mine l.yours l.got) w.told (λ k P h. h) (λ h. h)

      shape : (bound : Bool) → Going c m x now (record {
        ring = record w.ring { slots = slice_set w.ring.slots i None; token = undone i w.ring.token };
        sent = answers bound l.peer l.mine l.yours l.got w.sent;
        told = w.told;
      }) → Going c m x now (close i l bound w)
      shape true h = h
      shape false h = h

  -- a flight that the peer did not get comes back, and the session ends
  returned : (i : ℕ) (l : Link) (f : points.Flight) (got : ℕ) (bound : Bool) → slot_at i w.ring.slots ≡ Some l → stands (state_of l.state) ≡ true → l.flight ≡ Some f →
      got < f.number → IsMember (Gone (end_of l.peer l.yours) (end_of x l.mine) got bound) v.sent → (q : Bool) → Going c m x now (flight_returned i l f bound w q)
  returned i l f got bound at standing flies newer came false = g
  returned i l f got bound at standing flies newer came true = shape bound (ends bound came)
    where
      rises : Rises f.part
      rises = subst (λ (o : Option points.Flight). Rises (flight_part o)) flies (g.shows.slots.sound i l at).part

      flight : Flight
      flight = record { number = f.number; part = points_of f.part }

      work : Bool → Work
      work bound = record {
        ring = record w.ring { slots = slice_set w.ring.slots i None; token = undone i (gained w.ring.token f.part) };
        sent = answers bound l.peer l.mine l.yours l.got w.sent;
        told = w.told ++ report.Returned l.peer f.number f.part ∷ [];
      }

      ends : (bound : Bool) → IsMember (Gone (end_of l.peer l.yours) (end_of x l.mine) got bound) v.sent →
          Going c m x now (record {
            ring = record w.ring { slots = slice_set w.ring.slots i None; token = undone i (gained w.ring.token f.part) };
            sent = answers bound l.peer l.mine l.yours l.got w.sent;
            told = w.told ++ report.Returned l.peer f.number f.part ∷ [];
          })
      ends bound came =
          undoes sound g i l at (FlightReturned (record { number = f.number; part = points_of f.part }) got bound) (standing, came, ap flight_of flies, newer)
          (gained w.ring.token f.part) (gained_rises w.ring.slots w.ring.token g.shows.rises f.part rises) refl
          (parted (slot_of l)) None (frames.answer_if bound (Gone (end_of x l.mine) (end_of l.peer l.yours) l.got false))
          (moved (points_of f.part) (world.At x) v.place)
          (let e = sym (gained_is w.ring.slots w.ring.token g.shows.rises f.part rises) in
          λ j. outcome (parted (slot_of l)) (machine.undone l.mine (e j) (freeze_of w.ring.slots w.ring.token.freeze))
          (frames.answer_if bound (Gone (end_of x l.mine) (end_of l.peer l.yours) l.got false)) (moved (points_of f.part) (world.At x) v.place))
          (goes refl refl) w.ring.accused (λ y h. h)
          (λ h. absurd (cc (h))) (answers bound l.peer l.mine l.yours l.got w.sent) (answers_said bound l.peer l.mine l.yours l.got)
          (w.told ++ report.Returned l.peer f.number f.part ∷ [])
          (λ n P h. subst (λ (Q : ℕ → Place). MovedBy x (w.told ++ report.Returned l.peer f.number f.part ∷ []) n P w.ring.token.next_flight Q)
          (moved_is first (world.At x) f.part v.place)
          (moved_and x w.told n w.ring.token.next_flight P (places_of first v) (report.Returned l.peer f.number f.part) h
          (flying_is first v (end_of x l.mine) (end_of l.peer l.yours) f.number f.part
          (moves sound g i l at (FlightReturned (record { number = f.number; part = points_of f.part }) got bound) (standing, came, ap flight_of flies, newer))) tt))
          (λ h. over_and (machine_of c) v w.told (report.Returned l.peer f.number f.part) h tt)

      shape : (bound : Bool) → Going c m x now (record {
        ring = record w.ring { slots = slice_set w.ring.slots i None; token = undone i (gained w.ring.token f.part) };
        sent = answers bound l.peer l.mine l.yours l.got w.sent;
        told = w.told ++ report.Returned l.peer f.number f.part ∷ [];
      }) → Going c m x now (flight_returned i l f bound w true)
      shape true h = h
      shape false h = h

  heard : (i : ℕ) (l : Link) (got : ℕ) (bound : Bool) → slot_at i w.ring.slots ≡ Some l → stands (state_of l.state) ≡ true →
      IsMember (Gone (end_of l.peer l.yours) (end_of x l.mine) got bound) v.sent → (o : Option points.Flight) → l.flight ≡ o → Going c m x now (gone_heard i l got bound o w)
  heard i l got bound at standing came None flies = closed i l got bound at standing came
  heard i l got bound at standing came (Some f) flies = settled (nat_le f.number got) refl
    where
      settled : (q : Bool) → nat_le f.number got ≡ q → Going c m x now (flight_settled i l f bound w q)
      settled true e = closed i l got bound at standing came
      settled false e = returned i l f got bound at standing flies (leb-false f.number got e) came _

  pub gone_going : (from : Who) (theirs own got : ℕ) (bound : Bool) → (IsMember from w.ring.accused → ⊥) →
      IsMember (Gone (end_of from theirs) (end_of x own) got bound) m.sent → Going c m x now (gone_received from theirs own got bound w)
  gone_going from theirs own got bound trusted was =
      subst (λ (u : Work). Going c m x now u) (sym (gone_received-is from theirs own got bound w))
      (in_its_session sound g from theirs own (gone_seen got bound) (gone_elsewhere from theirs own bound)
      (λ f e. IsMember (Gone f e got bound) v.sent) came known (λ none. elsewhere none (slot_where (greets_by own) w.ring.slots) refl))
    where
      came : IsMember (Gone (end_of from theirs) (end_of x own) got bound) v.sent
      came = g.beside.sent _ was

      gone : SoundGone v (end_of from theirs) (end_of x own) got
      gone = g.inv.frames _ came

      known : (i : ℕ) (l : Link) → slot_at i w.ring.slots ≡ Some l → IsMember (Gone (end_of l.peer l.yours) (end_of x l.mine) got bound) v.sent →
          (s : LinkState) → l.state ≡ s → Going c m x now (gone_seen got bound i l s w)
      known i l at h state.Offered is = heard i l got bound at (ap (λ s. stands (state_of s)) is) h l.flight refl
      known i l at h state.Bound is = heard i l got bound at (ap (λ s. stands (state_of s)) is) h l.flight refl
      known i l at h state.Parting is = heard i l got bound at (ap (λ s. stands (state_of s)) is) h l.flight refl
      known i l at h s is = g

      -- it would be the greeting that is found
      asks : slot_where (greets_by own) w.ring.slots ≡ None → (slot v (end_of x own)).state ≡ Asking → ⊥
      asks none a =
          let e = asking_held g own a in
          both_ways _ (none_at (greets_by own) w.ring.slots none e.place e.link e.at)
          (and_from (e.link.mine == own) (is_hello e.link.state) (eq-eqb e.link.mine own e.numbered) (ap is_hello e.greets))

      unknown : slot_where (of_session from own theirs) w.ring.slots ≡ None → slot_where (greets_by own) w.ring.slots ≡ None → (q : Bool) → bound ≡ q →
          Going c m x now (gone_unknown from theirs own q w)
      unknown none greets false e = g
      unknown none greets true e = unknown_going sound g from theirs own (Gone (end_of from theirs) (end_of x own) got bound) came refl gone.used (asks greets) trusted none

      -- a greeting that is denied
      denied : (i : ℕ) (l : Link) → slot_at i w.ring.slots ≡ Some l → l.state ≡ state.Hello → IsMember (Gone (end_of from theirs) (end_of x l.mine) got bound) v.sent →
          (q : Bool) → bound ≡ q → Going c m x now (gone_unknown from theirs l.mine q (drop_slot i w))
      denied i l at is came false e =
          drops sound g i l at (HelloDenied (end_of from theirs) got bound) (ap state_of is, came) (record (slot_of l) { state = Abandoned }) []
          (λ j. outcome (record (slot_of l) { state = Abandoned }) (token_of w.ring.slots w.ring.token)
          (frames.answer_if (e j) (Gone (end_of x l.mine) (end_of from theirs) 0 false)) v.place) refl
          (λ h. cc (h, is)) (λ h. absurd (cc (h))) _ _ _ (nothing_besides sound g [])
      denied i l at is came true e =
          drops sound g i l at (HelloDenied (end_of from theirs) got bound) (ap state_of is, came) (record (slot_of l) { state = Abandoned })
          (Gone (end_of x l.mine) (end_of from theirs) 0 false ∷ [])
          (λ j. outcome (record (slot_of l) { state = Abandoned }) (token_of w.ring.slots w.ring.token)
          (frames.answer_if (e j) (Gone (end_of x l.mine) (end_of from theirs) 0 false)) v.place) refl
          (λ h. cc (h, is)) (λ h. absurd (cc (h))) _ _ _
          (one_said sound g (Gone (end_of x l.mine) (end_of from theirs) 0 false) from (body.Gone l.mine theirs 0 false)
          (record { image = inl refl; rises = refl; no_ruling = refl }) w.ring.phase g.stays)

      elsewhere : slot_where (of_session from own theirs) w.ring.slots ≡ None → (o : Option ℕ) → slot_where (greets_by own) w.ring.slots ≡ o →
          Going c m x now (gone_greeting from theirs own bound w o)
      elsewhere none None e = unknown none e bound refl
      elsewhere none (Some i) e = let f = found_at (greets_by own) w.ring.slots i e in there (slot_at i w.ring.slots) refl f.passes
        where
          there : (o : Option Link) → slot_at i w.ring.slots ≡ o → greets_by own o ≡ true → Going c m x now (gone_unknown from theirs own bound (drop_slot i w))
          there None at t = absurd (cc (t))
          there (Some l) at t =
              let a = and_parts (l.mine == own) (is_hello l.state) t in
              let n : l.mine ≡ own = eqb-true l.mine own a.0 in
              subst (λ (n : ℕ). Going c m x now (gone_unknown from theirs n bound (drop_slot i w))) n
              (denied i l at (hello_is l.state a.1) (subst (λ (n : ℕ). IsMember (Gone (end_of from theirs) (end_of x n) got bound) v.sent) (sym n) came) bound refl)
