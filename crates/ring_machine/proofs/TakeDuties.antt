-- A flight is taken, or returns.
use Rattle.std.proofs.Common.{◌≡◌, ◌+◌, ℕ, ◌<◌, ◌≤◌, Bool, true, false, cond, ◌||◌, List, [], ◌++◌, Some, None, ◌⊎◌, refl, sym, ap, subst, inl, inr, ⊎_elim, arith}
use Rattle.std.proofs.lemmas.Bool.{both_ways, or_cases, or_left, or_right, cases_lt}
use Rattle.ring_points.specs.declared.who.Who.{Who}
use Rattle.ring_points.specs.Whos.{same_who}
use Rattle.fabric_lemmas.specs.Members.{IsMember}
use Rattle.ring_machine.specs.Points.{Points, no_points, union}
use Rattle.ring_machine.specs.Ends.{End}
use Rattle.ring_machine.specs.Slots.{Slot, Flight, Bound, Parted, is_engaged, is_willing, stands}
use Rattle.ring_machine.specs.Tokens.{Token, Freeze, undone}
use Rattle.ring_machine.specs.Frames.{Frame, Transfer, Gone, answer_if}
use Rattle.ring_machine.specs.World.{Settings, World, Place, At, InFlight, Dead, slot}
use Rattle.ring_machine.specs.Effects.{Outcome, outcome, moved, parted}
use Rattle.ring_machine.specs.Sessions.{Tied, BothTied, flew, Closed, elsewhere, over}
use Rattle.ring_machine.specs.Claims.{Claim, by_record, by_renew, by_flight}
use Rattle.ring_machine.specs.SoundFlights.{IsWhole, SoundToken, Pending, FrozenTo}
use Rattle.ring_machine.specs.SoundFrames.{SoundTransfer, SoundGone}
use Rattle.ring_points.proofs.Whos.{same_who-false}
use Rattle.ring_machine.proofs.Duty.{Sent, TokenDuty, PlaceDuty, Duty}
use Rattle.ring_machine.proofs.Acting.{Acting, good, here, back, NoRenewal, is_renewal, no_renew, no_ack, each_of_answer, frozen_more, claim_before, far_differs, freeze_mine, freeze_theirs, not_lost}
use Rattle.ring_machine.proofs.Kept.{kept_duty, bound_link}
use Rattle.ring_machine.proofs.Shrunk.{less_empty, is_undone, token_shrunk}
use Rattle.ring_machine.proofs.GiveDuties.{moved_cases}
use Rattle.ring_machine.proofs.PartDuties.{parted_link, parted_answer}

module _ {c : Settings} {w : World} {e : End} (a : Acting c w e) where
  abbrev s : Slot
  s = slot w e

  abbrev token : Token
  token = (w.instance e.who).token

  abbrev arrived : Points → ℕ → Place
  arrived part = moved part (At e.who) w.place

  -- points that come to e from a flight: e owns them, and nobody else loses or gets a point
  record Arrives (ranges : Points) (place : ℕ → Place) : Type 0 where
    owned : (p : ℕ) → ranges p ≡ true → place p ≡ At e.who
    exact : (p : ℕ) → place p ≡ At e.who → ranges p ≡ true
    keeps : (y : Who) (p : ℕ) → w.place p ≡ At y → place p ≡ At y
    gets_none : (y : Who) (p : ℕ) → same_who e.who y ≡ false → place p ≡ At y → w.place p ≡ At y
    flew : (g h : End) (number p : ℕ) → place p ≡ InFlight g h number → w.place p ≡ InFlight g h number

  arrives : (part : Points) (giver receiver : End) (number : ℕ) → ((p : ℕ) → part p ≡ true → w.place p ≡ InFlight giver receiver number) →
      Arrives (union token.ranges part) (arrived part)
  arrives part giver receiver number flown = record {
    owned = λ p h.
        at p (λ o. o ≡ At e.who) (λ i. refl)
        (λ i. here a p (⊎_elim (λ r. r) (λ r. absurd (both_ways _ i r)) (or_cases (token.ranges p) (part p) h)));
    exact = λ p.
        at p (λ o. o ≡ At e.who → token.ranges p || part p ≡ true) (λ i h. or_right (token.ranges p) (part p) i)
        (λ i h. or_left (token.ranges p) (part p) (back a p h));
    keeps = λ y p i. at p (λ o. o ≡ At y) (λ h. absurd (let f = flown p h in cc)) (λ h. i);
    gets_none = λ y p n. at p (λ o. o ≡ At y → w.place p ≡ At y) (λ i h. absurd (let same : e.who ≡ y = cc in same_who-false e.who y n same)) (λ i h. h);
    flew = λ g h n p. at p (λ o. o ≡ InFlight g h n → w.place p ≡ InFlight g h n) (λ i j. absurd (cc (j))) (λ i j. j);
  }
    where
      at : (p : ℕ) (P : Place → Type 0) → (part p ≡ true → P (At e.who)) → (part p ≡ false → P (w.place p)) → P (arrived part p)
      at p = moved_cases part (At e.who) w.place p

  module _ (bound : s.state ≡ Bound) (number : ℕ) (part : Points) (m : IsMember (Transfer s.far e number part) w.sent) (above : s.got < number) where
    abbrev taken : Slot
    taken = record (slot w e) { got = number }

    abbrev more : Token
    more = record (w.instance e.who).token { ranges = union (w.instance e.who).token.ranges part; version = (w.instance e.who).token.version + 1 }

    sound : SoundTransfer c w s.far e number part
    sound = a.inv.frames (Transfer s.far e number part) m

    -- what is taken is on its way
    pub taken_flown : (p : ℕ) → part p ≡ true → w.place p ≡ InFlight s.far e number
    taken_flown p h = sound.transferable.flying p (λ dead. dead.not_live a.live) (ap is_willing bound) above h

    -- and all of it is taken
    pub taken_whole : IsWhole w.place s.far number part
    taken_whole = sound.transferable.whole

    -- a flight that is new here has no point that is frozen here
    pending_before : (z : Freeze) → token.freeze ≡ Some z → (l : Flight) → Pending z (slot w s.far).flight number l → Pending z (slot w s.far).flight s.got l
    pending_before z is l h = ⊎_elim
        (λ (lt : s.got < l.number). absurd (
        let flying = (a.inv.flights s.far e l sound.tied.mine.far h.stands (λ lost. lost.1.not_live a.live)).flying lt h.point h.flown in
        let mine = here a h.point ((a.inv.tokens e.who z is).part h.point h.frozen) in
        cc))
        (λ (le : l.number ≤ s.got). record { stands = h.stands; taken = le; point = h.point; flown = h.flown; frozen = h.frozen })
        (cases_lt s.got l.number)

    take_token : TokenDuty w e s taken more []
    take_token = record {
      acked = (good a).acked;
      version = (good a).version;
      got = sound.transferable.numbered;
      held_version_rises = omega arith;
      got_rises = omega arith;
      got_still = λ h i. absurd (cc (i, ap is_willing bound));
      version_rises = omega arith;
      next_flight_rises = omega arith;
      flight = λ l h. inl h;
      sound = λ z h.
          let r = a.inv.tokens e.who z h in
          record {
            positive = r.positive;
            version = let n = r.version in omega arith;
            part = λ p i. or_left (token.ranges p) (part p) (r.part p i);
          };
      freeze = λ z h. inl h;
      mine = λ en z is k tie. let old = freeze_mine a z is en tie in record {
        renews = old.renews;
        recorded = old.recorded;
        confirms = λ stamp version got points m le l h. old.confirms stamp version got points m le l (pending_before z is l h);
        acks = λ stamp version m le l h. old.acks stamp version m le l (pending_before z is l h);
        settled = λ le l h. old.settled le l (pending_before z is l h);
      };
      theirs = λ en z is tie. freeze_theirs a z is en tie;
      newly = λ h. absurd (cc (h, ap is_engaged bound));
    }

    take_place : PlaceDuty c w e s taken more [] (arrived part)
    take_place =
        let r = arrives part s.far e number taken_flown in record {
          owned = r.owned;
          exact = r.exact;
          keeps = λ y p n l i. r.keeps y p i;
          keeps_unborn = λ y p n i. r.keeps y p i;
          gets_none = r.gets_none;
          flies = λ g h n p i.
              moved_cases part (At e.who) w.place p
              (λ o. (o ≡ InFlight g h n) ⊎ (BothTied w g e × (n ≤ number)) ⊎ ((g ≡ e) × (Dead c (w.instance s.far.who) ⊎ Closed w s.far e)))
              (λ j.
              let f = taken_flown p j in
              let e1 : g ≡ s.far = cc in
              let e2 : n ≡ number = cc in inr (inl (subst (λ g. BothTied w g e) (sym e1) sound.tied, omega arith)))
              (λ j. inl i);
          flew = λ g h n p i. inl (r.flew g h n p i);
          flight = λ l h. let f = a.inv.flights e s.far l refl h (not_lost a s.far) in record {
            numbered = f.numbered;
            flying = λ lt p i. moved_cases part (At e.who) w.place p (λ o. o ≡ InFlight e s.far l.number)
                (λ j. absurd (let k = taken_flown p j in let n = f.flying lt p i in let same : e ≡ s.far = cc in far_differs a (ap is_engaged bound) same))
                (λ j. f.flying lt p i);
            whole = λ g h p who i. f.whole g h p who (r.flew g h l.number p i);
          };
          mine = λ en p h. h;
          theirs = λ en p h. theirs p h;
          stays = λ u v p far now claim i. inl (r.keeps v.who p i);
        }
      where
        theirs : (p : ℕ) → Claim w.sent s.far e (slot w s.far) number p → Claim w.sent s.far e (slot w s.far) s.got p ⊎ (arrived part p ≡ At e.who)
        theirs p (by_record r) = inl (by_record r)
        theirs p (by_renew h stamp version got points k lt r) = inl (by_renew h stamp version got points k lt r)
        theirs p (by_flight l i le r) = ⊎_elim
            (λ (lt : s.got < l.number).
            let last = sound.transferable.last l i in
            inr (ap (λ b. cond b (At e.who) (w.place p)) (sound.transferable.same l i (omega arith) p r)))
            (λ (le : l.number ≤ s.got). inl (by_flight l i le r))
            (cases_lt s.got l.number)

    pub flight_taken_duty : Duty c w e (w.instance e.who).next_session (outcome taken more [] (arrived part))
    flight_taken_duty = kept_duty a (outcome taken more [] (arrived part)) (bound_link a bound number s.flight) (λ g h. absurd h) take_token take_place

  module _ (st : stands s.state ≡ true) (flight : Flight) (got : ℕ) (answered : Bool) (m : IsMember (Gone s.far e got answered) w.sent)
      (is : s.flight ≡ Some flight) (above : got < flight.number) where
    abbrev regained : Token
    regained = record (w.instance e.who).token { ranges = union (w.instance e.who).token.ranges flight.part; version = (w.instance e.who).token.version + 1 }

    abbrev without : Token
    without = undone e.number regained (w.instance e.who).token.freeze

    abbrev answer : List Frame
    answer = answer_if answered (Gone e (slot w e).far (slot w e).got false)

    gone : SoundGone w s.far e got
    gone = a.inv.frames (Gone s.far e got answered) m

    -- the other side has not taken what returns
    pub returned_flown : (p : ℕ) → flight.part p ≡ true → w.place p ≡ InFlight e s.far flight.number
    returned_flown p h = (a.inv.flights e s.far flight refl is (not_lost a s.far)).flying (omega (arith, not_taken)) p h
      where
        not_closed : Closed w e s.far → ⊥
        not_closed (elsewhere i n) = n refl
        not_closed (over i q) = let n = q.landed in cc

        not_taken : (slot w s.far).got ≤ got
        not_taken =
            ⊎_elim (λ (k : (slot w s.far).far ≡ e → (slot w s.far).got ≤ got). k ((good a).touched (flew flight is)).far)
            (λ (k : Closed w e s.far). absurd (not_closed k)) gone.took

    pub returned_whole : IsWhole w.place e flight.number flight.part
    returned_whole = (a.inv.flights e s.far flight refl is (not_lost a s.far)).whole

    none : NoRenewal answer
    none = each_of_answer (λ g. is_renewal g ≡ false) answered (Gone e s.far s.got false) (λ h. refl)

    return_token : TokenDuty w e s (parted s) without answer
    return_token =
        let old =
        token_shrunk a Parted s.until s.ripe no_points None (undone e.number token token.freeze) answer (less_empty s)
        (is_undone e.number token token.freeze) none in
        let un = is_undone e.number regained token.freeze in record {
          acked = old.acked;
          version = old.version;
          got = old.got;
          held_version_rises = old.held_version_rises;
          got_rises = old.got_rises;
          got_still = old.got_still;
          version_rises = let n = un.version in omega arith;
          next_flight_rises = let n = un.next_flight in omega arith;
          flight = old.flight;
          sound = λ z h. let r = un.freeze z h in let k = a.inv.tokens e.who z r.1 in
              subst (λ (t : Token). SoundToken t z) (sym r.0) (record {
                positive = k.positive;
                version = let n = k.version in omega arith;
                part = λ p i. or_left (token.ranges p) (flight.part p) (k.part p i);
              });
          freeze = λ z h. inl (un.freeze z h).1;
          mine = λ en z i k tie. still_mine z i (un.freeze z k).1 en tie;
          theirs = old.theirs;
          newly = old.newly;
        }
      where
        still_mine : (z : Freeze) → token.freeze ≡ Some z → token.freeze ≡ Some z → is_engaged s.state ≡ true → Tied w s.far e →
            FrozenTo (answer ++ w.sent) e s.far z s.got s.acked (slot w s.far).flight (slot w s.far).held_version (slot w s.far).held
        still_mine z i k en tie =
            frozen_more answer w.sent e s.far z _ _ _ _ _ (no_renew answer none e s.far) (no_ack answer none s.far e)
            (freeze_mine a z i en tie)

    return_place : PlaceDuty c w e s (parted s) without answer (arrived flight.part)
    return_place =
        let r = arrives flight.part e s.far flight.number returned_flown in
        let un = is_undone e.number regained token.freeze in record {
          owned = λ p h. r.owned p (un.ranges p h);
          exact = λ p h. un.ranges_back p (r.exact p h);
          keeps = λ y p n l i. r.keeps y p i;
          keeps_unborn = λ y p n i. r.keeps y p i;
          gets_none = r.gets_none;
          flies = λ g h n p i.
              moved_cases flight.part (At e.who) w.place p
              (λ o. (o ≡ InFlight g h n) ⊎ (BothTied w g e × (n ≤ s.got)) ⊎ ((g ≡ e) × (Dead c (w.instance s.far.who) ⊎ Closed w s.far e)))
              (λ j. let f = returned_flown p j in let same : g ≡ e = cc in inr (inr (same, inr gone.closed)))
              (λ j. inl i);
          flew = λ g h n p i. inl (r.flew g h n p i);
          flight = λ l h. absurd (cc (h));
          mine = λ en p h. absurd (no_claim p h);
          theirs = λ en p h. inl (claim_before answer w.sent s.far e (slot w s.far) s.got p (no_renew answer none e s.far) h);
          stays = λ u v p far now claim i. inl (r.keeps v.who p i);
        }
      where
        no_claim : (p : ℕ) → Claim (answer ++ w.sent) e s.far (parted s) (slot w s.far).got p → ⊥
        no_claim p (by_record h) = cc (h)
        no_claim p (by_renew h stamp version theirs points k lt r) = cc (h)
        no_claim p (by_flight l h le r) = cc (h)

    pub flight_returned_duty : Duty c w e (w.instance e.who).next_session (outcome (parted s) without answer (arrived flight.part))
    flight_returned_duty =
        let out : Outcome = outcome (parted s) without answer (arrived flight.part) in
        kept_duty a out (parted_link a st got gone)
        (each_of_answer (Sent c w e s out) answered (Gone e s.far s.got false) (λ h. parted_answer a st)) return_token return_place
