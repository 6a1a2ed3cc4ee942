-- A part is frozen, and given once every slot that guards has acknowledged the freeze.
use Rattle.std.proofs.Common.{◌≡◌, ◌+◌, ℕ, ◌<◌, ◌≤◌, Bool, true, false, cond, not, ◌&&◌, [], ◌∷◌, Some, None, ◌⊎◌, refl, sym, ap, subst, inl, inr, arith}
use Rattle.std.proofs.lemmas.Bool.{both_ways, and_parts, and_from}
use Rattle.ring_points.specs.declared.who.Who.{Who}
use Rattle.ring_machine.specs.Points.{Points, meet, minus}
use Rattle.ring_machine.specs.Ends.{End}
use Rattle.ring_machine.specs.Slots.{Slot, Flight, Bound, of_record, of_flight, guards, is_used, is_engaged, is_active, is_willing}
use Rattle.ring_machine.specs.Tokens.{Token, Freeze}
use Rattle.ring_machine.specs.Frames.{Frame, Renew, Transfer}
use Rattle.ring_machine.specs.World.{Settings, World, Place, At, InFlight, slot}
use Rattle.ring_machine.specs.Guards.{AllAcked}
use Rattle.ring_machine.specs.Effects.{Outcome, outcome, moved}
use Rattle.ring_machine.specs.Sessions.{Tied, BothTied, flew, heard, Closed, elsewhere, over}
use Rattle.ring_machine.specs.Claims.{Barred, discharged, Claim, by_record, by_renew, by_flight}
use Rattle.ring_machine.specs.SoundSlots.{Freed, by_answers, by_closing}
use Rattle.ring_machine.specs.SoundFlights.{IsWhole, SoundFlight, SoundToken, Pending, SoundFreeze}
use Rattle.ring_machine.specs.SoundFrames.{SoundRenew}
use Rattle.ring_machine.specs.Invariant.{Invariant}
use Rattle.ring_points.proofs.Whos.{same_who-false}
use Rattle.ring_machine.proofs.Whos.{test}
use Rattle.ring_machine.proofs.States.{implied}
use Rattle.ring_machine.proofs.Duty.{Sent, TokenDuty, PlaceDuty, Duty}
use Rattle.ring_machine.proofs.Acting.{Acting, good, here, back, NoRenewal, is_renewal, no_renew, no_ack, each_of_one, frozen_more, claim_before, freeze_theirs}
use Rattle.ring_machine.proofs.Kept.{kept_duty, bound_link}
use Rattle.ring_machine.proofs.Shrunk.{not_less, not_undone, token_shrunk, place_shrunk, link_same}

-- where a point is after some moved, by cases
pub moved_cases : (points : Points) (to : Place) (place : ℕ → Place) (p : ℕ) (P : Place → Type 0) → (points p ≡ true → P to) →
    (points p ≡ false → P (place p)) → P (moved points to place p)
moved_cases points to place p P on off = go (points p) refl
  where
    go : (b : Bool) → points p ≡ b → P (cond b to (place p))
    go true h = on h
    go false h = off h

-- who claims a point of y that is frozen there, in a session whose slots acknowledged the freeze, can never take over
module _ {c : Settings} {w : World} (inv : Invariant c w) (u v : End) (p : ℕ) (z : Freeze)
    (freeze : (w.instance v.who).token.freeze ≡ Some z) (acked : AllAcked z.version (w.instance v.who).slots)
    (frozen : z.part p ≡ true) (far : (slot w u).far ≡ v) (claim : Claim w.sent u v (slot w u) (slot w v).got p) where
  tied_by : Claim w.sent u v (slot w u) (slot w v).got p → Tied w v u
  tied_by (by_record r) = subst (λ v. Tied w v u) far ((inv.slots u).touched (heard ((inv.slots u).recorded p r)))
  tied_by (by_renew h stamp version got points m lt r) =
      let sound : SoundRenew w v u stamp version got = inv.frames (Renew v u stamp version got points) m in sound.tied.mine
  tied_by (by_flight l i le r) = subst (λ v. Tied w v u) far ((inv.slots u).touched (flew l i))

  engaged_by : Claim w.sent u v (slot w u) (slot w v).got p → is_engaged (slot w u).state ≡ true
  engaged_by (by_record r) = implied is_active is_engaged refl (slot w u).state ((inv.slots u).claims (of_record p r))
  engaged_by (by_renew h stamp version got points m lt r) = implied is_willing is_engaged refl (slot w u).state h
  engaged_by (by_flight l i le r) = implied is_active is_engaged refl (slot w u).state ((inv.slots u).claims (of_flight l i))

  tied : BothTied w v u
  tied = record { mine = tied_by claim; theirs = record { engaged = engaged_by claim; far = far } }

  -- a slot that guards acknowledged the freeze, so nothing claims the part
  while_guarding : guards (slot w v).state ≡ true → Claim w.sent u v (slot w u) (slot w v).got p → ⊥
  while_guarding g (by_record r) = against.recorded (omega (arith, seen, known)) p r frozen
    where
      against : SoundFreeze w v u z
      against = inv.freezes v u z freeze tied

      seen : z.version ≤ (slot w v).acked
      seen = acked v.number g

      known : (slot w v).acked ≤ (slot w u).held_version
      known = subst (λ u. (slot w v).acked ≤ (slot w u).held_version) tied.mine.far (inv.slots v).acked
  while_guarding g (by_renew h stamp version got points m lt r) =
      (inv.freezes v u z freeze tied).renews stamp version got points m (omega (arith, acked v.number g, known)) p r frozen
    where
      known : (slot w v).acked ≤ (slot w u).held_version
      known = subst (λ u. (slot w v).acked ≤ (slot w u).held_version) tied.mine.far (inv.slots v).acked
  while_guarding g (by_flight l i le r) = (inv.freezes v u z freeze tied).settled (acked v.number g) l (record {
    stands = i;
    taken = le;
    point = p;
    flown = r;
    frozen = frozen;
  })

  -- who is closed claims nothing
  not_closed : Closed w u v → Claim w.sent u v (slot w u) (slot w v).got p → ⊥
  not_closed (elsewhere h n) k = n far
  not_closed (over h q) (by_record r) = q.empty p r
  not_closed (over h q) (by_renew i stamp version got points m lt r) = both_ways _ q.deaf i
  not_closed (over h q) (by_flight l i le r) = let n = q.landed in cc

  pub claimant_barred : Barred c w.sent u.who v.who
  claimant_barred = test (guards (slot w v).state)
      (λ g. absurd (while_guarding g claim))
      (λ g. freed ((inv.slots v).freed tied.mine.engaged g))
    where
      freed : Freed c w v (slot w v).far → Barred c w.sent u.who v.who
      freed (by_answers k) = discharged (subst (λ (f : End). Rattle.ring_machine.specs.Arbitration.AnsweredBy c w.sent v.who f.who) tied.mine.far k)
      freed (by_closing k) = absurd (not_closed (subst (λ f. Closed w f v) tied.mine.far k) claim)

module _ {c : Settings} {w : World} {e : End} (a : Acting c w e) (bound : (slot w e).state ≡ Bound) where
  abbrev s : Slot
  s = slot w e

  abbrev token : Token
  token = (w.instance e.who).token

  pub part_frozen_duty : token.freeze ≡ None → (part : Points) →
      Duty c w e (w.instance e.who).next_session
      (outcome s
      (record token { version = token.version + 1; freeze = Some (record { part = meet token.ranges part; number = e.number; version = token.version + 1 }) })
      [] w.place)
  part_frozen_duty none part =
      let new : Freeze = record { part = meet token.ranges part; number = e.number; version = token.version + 1 } in
      let frozen : Token = record token { version = token.version + 1; freeze = Some new } in
      let still = token_shrunk a s.state s.until s.ripe s.held s.flight token [] (not_less s) (not_undone token) (λ g h. absurd h) in
      let where_they_were = place_shrunk a s.state s.until s.ripe s.held s.flight token [] (not_less s) (not_undone token) (λ g h. absurd h) (λ h. h) in
      record {
        fence = λ g. a.live.below e.number g;
        link = link_same a (ap is_used bound);
        sends = λ g h. absurd h;
        token = record {
          acked = still.acked;
          version = still.version;
          got = still.got;
          held_version_rises = still.held_version_rises;
          got_rises = still.got_rises;
          got_still = still.got_still;
          version_rises = omega arith;
          next_flight_rises = omega arith;
          flight = still.flight;
          sound = λ z h.
              let same : new ≡ z = cc in subst (SoundToken frozen) same (record {
                positive = omega arith;
                version = omega arith;
                part = λ p h. (and_parts (token.ranges p) (part p) h).0;
              });
          freeze = λ z h. let same : new ≡ z = cc in inr (subst (λ (z : Freeze). token.version < z.version) same (omega arith), refl, refl);
          mine = λ en z h i. absurd (cc (h, none));
          theirs = still.theirs;
          newly = still.newly;
        };
        place = record {
          owned = where_they_were.owned;
          exact = where_they_were.exact;
          keeps = where_they_were.keeps;
          keeps_unborn = where_they_were.keeps_unborn;
          gets_none = where_they_were.gets_none;
          flies = where_they_were.flies;
          flew = where_they_were.flew;
          flight = where_they_were.flight;
          mine = where_they_were.mine;
          theirs = where_they_were.theirs;
          stays = where_they_were.stays;
        };
      }

  module _ (z : Freeze) (freeze : (w.instance e.who).token.freeze ≡ Some z) (acked : AllAcked z.version (w.instance e.who).slots) where
    abbrev flight : Flight
    flight = record { number = (w.instance e.who).token.next_flight; part = z.part }

    abbrev transfer : Frame
    transfer = Transfer e (slot w e).far (w.instance e.who).token.next_flight z.part

    abbrev given : Slot
    given = record (slot w e) { flight = Some flight }

    abbrev rest : Token
    rest = record (w.instance e.who).token {
      ranges = minus (w.instance e.who).token.ranges z.part;
      freeze = None;
      next_flight = (w.instance e.who).token.next_flight + 1;
    }

    abbrev places : ℕ → Place
    places = moved z.part (InFlight e (slot w e).far (w.instance e.who).token.next_flight) w.place

    -- what is given is e's
    pub given_here : (p : ℕ) → z.part p ≡ true → w.place p ≡ At e.who
    given_here p h = here a p ((a.inv.tokens e.who z freeze).part p h)

    none : NoRenewal (transfer ∷ [])
    none = each_of_one (λ g. is_renewal g ≡ false) transfer refl

    -- the far end has taken no flight of this number
    far_got : (slot w s.far).got < token.next_flight
    far_got = subst (λ (h : End). (slot w s.far).got < (w.instance h.who).token.next_flight) ((good a).bound bound).far (a.inv.slots s.far).got

    is_new : {l : Flight} → Some flight ≡ Some l → flight ≡ l
    is_new h = cc

    not_pending : (y : Freeze) (l : Flight) → Pending y (Some flight) (slot w s.far).got l → ⊥
    not_pending y l h =
        let le : token.next_flight ≤ (slot w s.far).got = subst (λ (l : Flight). l.number ≤ (slot w s.far).got) (sym (is_new h.stands)) h.taken in
        let lt = far_got in omega arith

    give_token : TokenDuty w e s given rest (transfer ∷ [])
    give_token = record {
      acked = (good a).acked;
      version = (good a).version;
      got = (good a).got;
      held_version_rises = omega arith;
      got_rises = omega arith;
      got_still = λ h i. refl;
      version_rises = omega arith;
      next_flight_rises = omega arith;
      flight = λ l h. inr (subst (λ (l : Flight). token.next_flight ≤ l.number) (is_new h) (omega arith));
      sound = λ y h. absurd (cc (h));
      freeze = λ y h. absurd (cc (h));
      mine = λ en y h i. absurd (cc (i));
      theirs = λ en y h tie.
          let old =
          frozen_more (transfer ∷ []) w.sent s.far e y _ _ _ _ _ (no_renew (transfer ∷ []) none s.far e)
          (no_ack (transfer ∷ []) none e s.far) (freeze_theirs a y h en tie) in
          record {
            renews = old.renews;
            recorded = old.recorded;
            confirms = λ stamp version got points m le l i. absurd (not_pending y l i);
            acks = λ stamp version m le l i. not_pending y l i;
            settled = λ le l i. not_pending y l i;
          };
      newly = λ h. absurd (cc (h));
    }

    whole : IsWhole places e token.next_flight z.part
    whole g h p who = moved_cases z.part (InFlight e s.far token.next_flight) w.place p (λ o. o ≡ InFlight g h token.next_flight → z.part p ≡ true) (λ i j. i)
        (λ i j. absurd (let lt = a.inv.flown g h token.next_flight p j in let same = ap (λ (y : Who). (w.instance y).token.next_flight) who in omega arith))

    give_place : PlaceDuty c w e s given rest (transfer ∷ []) places
    give_place = record {
      owned = λ p h. let r = and_parts (token.ranges p) (not (z.part p)) h in at p (λ o. o ≡ At e.who) (λ i. absurd (cc (i, r.1))) (λ i. here a p r.0);
      exact = λ p.
          at p (λ o. o ≡ At e.who → token.ranges p && not (z.part p) ≡ true) (λ i h. absurd (cc (h)))
          (λ i h. and_from (token.ranges p) (not (z.part p)) (back a p h) (ap not i));
      keeps = λ y p n l i.
          at p (λ o. o ≡ At y) (λ h. absurd (let mine = given_here p h in let same : e.who ≡ y = cc in same_who-false e.who y n same))
          (λ h. i);
      keeps_unborn = λ y p unborn i.
          at p (λ o. o ≡ At y)
          (λ h.
          absurd
          (let mine = given_here p h in let same : e.who ≡ y = cc in let r = a.live.running in cc (ap (λ y. (w.instance y).phase) same, r, unborn)))
          (λ h. i);
      gets_none = λ y p n. at p (λ o. o ≡ At y → w.place p ≡ At y) (λ i h. absurd (cc (h))) (λ i h. h);
      flies = λ g h number p i. inl (at p (λ o. o ≡ InFlight g h number) (λ j. absurd (let mine = given_here p j in cc)) (λ j. i));
      flew = λ g h number p.
          at p
          (λ o. o ≡ InFlight g h number → (w.place p ≡ InFlight g h number) ⊎ ((g ≡ e) × (token.next_flight ≤ number) × (number < token.next_flight + 1)))
          (λ i j. let same : g ≡ e = cc in let n : number ≡ token.next_flight = cc in inr (same, omega arith, omega arith)) (λ i j. inl j);
      flight = λ l h. subst (SoundFlight (token.next_flight + 1) places (slot w s.far).got e s.far) (is_new h) (record {
        numbered = omega arith;
        flying = λ lt p i. at p (λ o. o ≡ InFlight e s.far token.next_flight) (λ j. refl) (λ j. absurd (both_ways _ j i));
        whole = whole;
      });
      mine = λ en p h. mine p (claim_before (transfer ∷ []) w.sent e s.far given (slot w s.far).got p (no_renew (transfer ∷ []) none s.far e) h);
      theirs = λ en p h. inl (claim_before (transfer ∷ []) w.sent s.far e (slot w s.far) s.got p (no_renew (transfer ∷ []) none e s.far) h);
      stays = λ u v p far now claim i. at p (λ o. (o ≡ At v.who) ⊎ Barred c w.sent u.who v.who)
          (λ j. let mine = given_here p j in let same : e.who ≡ v.who = cc in
          inr (claimant_barred a.inv u v p z (subst (λ y. (w.instance y).token.freeze ≡ Some z) same freeze) (subst (λ y. AllAcked z.version (w.instance y).slots) same acked) j far claim))
          (λ j. inl i);
    }
      where
        at : (p : ℕ) (P : Place → Type 0) → (z.part p ≡ true → P (InFlight e s.far token.next_flight)) → (z.part p ≡ false → P (w.place p)) → P (places p)
        at p = moved_cases z.part (InFlight e s.far token.next_flight) w.place p

        mine : (p : ℕ) → Claim w.sent e s.far given (slot w s.far).got p → Claim w.sent e s.far s (slot w s.far).got p
        mine p (by_record r) = by_record r
        mine p (by_renew h stamp version got points m lt r) = by_renew h stamp version got points m lt r
        mine p (by_flight l h le r) =
            let taken : token.next_flight ≤ (slot w s.far).got = subst (λ (l : Flight). l.number ≤ (slot w s.far).got) (sym (is_new h)) le in
            let lt = far_got in absurd (omega arith)

    pub part_given_duty : Duty c w e (w.instance e.who).next_session (outcome given rest (transfer ∷ []) places)
    part_given_duty =
        let out : Outcome = outcome given rest (transfer ∷ []) places in
        kept_duty a out
        (bound_link a bound s.got (Some flight))
        (each_of_one (Sent c w e s out) transfer (record {
          own = refl;
          far = refl;
          tied = record { mine = record { engaged = ap is_engaged bound; far = refl }; theirs = (good a).bound bound };
          transferable = record {
            numbered = omega arith;
            flying = λ p lives wi lt h.
                moved_cases z.part (InFlight e s.far token.next_flight) w.place p (λ o. o ≡ InFlight e s.far token.next_flight)
                (λ i. refl) (λ i. absurd (both_ways _ i h));
            whole = whole;
            same = λ l i n p h. subst (λ (l : Flight). l.part p ≡ true) (sym (is_new i)) h;
            last = λ l i. subst (λ (l : Flight). token.next_flight ≤ l.number) (is_new i) (omega arith);
          };
        }))
        give_token give_place
