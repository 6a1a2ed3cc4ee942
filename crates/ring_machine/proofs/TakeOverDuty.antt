-- An heir takes over, once its wait is past: the accused instance is dead then.
use Rattle.std.proofs.Common.{◌≡◌, ℕ, ◌+◌, ◌<◌, ◌≤◌, true, false, ◌||◌, [], Option, Some, None, ◌⊎◌, refl, sym, ap, ◌∙◌, subst, inl, inr, ⊎_elim, leb, arith}
use Rattle.std.proofs.lemmas.Bool.{both_ways, or_cases, or_left, or_right, leb-true, leb-false}
use Rattle.ring_machine.specs.Points.{Points, no_points, union}
use Rattle.ring_machine.specs.Ends.{End}
use Rattle.ring_machine.specs.Slots.{Slot, Flight, Heir, Ended, HasClaim, of_record, of_flight, guards, is_engaged, is_active, is_willing, part_of}
use Rattle.ring_machine.specs.Tokens.{Token}
use Rattle.ring_machine.specs.World.{Settings, World, Place, At, InFlight, Live, Dead, slot}
use Rattle.ring_machine.specs.Arbitration.{HeirBy, AnsweredBy}
use Rattle.ring_machine.specs.Effects.{outcome, moved, enlarged, ended}
use Rattle.ring_machine.specs.Sessions.{Tied, BothTied, Closed, elsewhere, over}
use Rattle.ring_machine.specs.Claims.{Barred, other_heir, discharged, Backed, claimant_dead, barred, of_owner, Claim, by_record, by_renew, by_flight}
use Rattle.ring_machine.specs.Leases.{Leased, SoundHeir}
use Rattle.ring_machine.specs.SoundSlots.{Freed, by_answers, by_closing}
use Rattle.ring_points.proofs.Whos.{same_who-false, same_who_from}
use Rattle.ring_machine.proofs.Whos.{test}
use Rattle.ring_machine.proofs.States.{implied}
use Rattle.ring_machine.proofs.Waits.{wait_covers}
use Rattle.ring_machine.proofs.Exclusions.{one_heir, no_crossing}
use Rattle.ring_machine.proofs.Duty.{TokenDuty, PlaceDuty, Duty}
use Rattle.ring_machine.proofs.Acting.{Acting, good, here, back, freeze_mine, not_lost}
use Rattle.ring_machine.proofs.Kept.{KeptLink, kept_duty}
use Rattle.ring_machine.proofs.Shrunk.{less_empty, nothing_claimed, not_undone, token_shrunk}
use Rattle.ring_machine.proofs.SteppedSlots.{claim_touched}
use Rattle.ring_machine.proofs.GiveDuties.{moved_cases}

module _ {c : Settings} {w : World} {e : End} (drift : c.bound.d ≤ 100) (a : Acting c w e) (heir : (slot w e).state ≡ Heir)
    (ripe : (slot w e).ripe ≤ (w.instance e.who).reading) where
  abbrev s : Slot
  s = slot w e

  abbrev token : Token
  token = (w.instance e.who).token

  abbrev accused : End
  accused = (slot w e).far

  sound : SoundHeir c w e s.far s.len s.ripe
  sound = (good a).heir heir

  tied : Tied w s.far e
  tied = (good a).touched (claim_touched s (good a).recorded ((good a).heir_claims heir))

  both : BothTied w s.far e
  both = record { mine = tied; theirs = record { engaged = ap is_engaged heir; far = refl } }

  -- the wait is over, so a lease that guards is past
  lease_past : guards (slot w s.far).state ≡ true → Dead c (w.instance s.far.who)
  lease_past g = record {
    born = λ h.
        absurd
        (let unused = ap (λ (i : Rattle.ring_machine.specs.World.Instance). guards (i.slots s.far.number).state) (a.inv.blank s.far.who h) in cc (g, unused));
    not_live = λ l.
        let lease : Leased (w.instance s.far.who).pairs sound.since (slot w s.far).until (slot w s.far).len = sound.lease g in
        let below = l.below s.far.number g in
        let agreed = (good a).agreed (ap is_engaged heir) tied in
        let waits = sound.waits in
        let covered = wait_covers c.bound (s.len + c.answer) sound.since sound.begun w.time (w.instance e.who).reading
        lease.rests.taken lease.stamp (w.instance s.far.who).reading drift
        (a.inv.clocks e.who sound.since sound.begun a.live.running sound.reading)
        (a.inv.clocks s.far.who lease.rests.taken lease.stamp l.running lease.rests.reading)
        lease.rests.no_later (omega (arith, waits)) in
        let within = lease.within in
        omega arith;
  }

  -- an heir's slot is closed to nobody of whom it claims
  not_closed : Closed w e s.far → HasClaim s.held s.flight → ⊥
  not_closed (elsewhere h n) k = n refl
  not_closed (over h q) (of_record p k) = q.empty p k
  not_closed (over h q) (of_flight l k) = let n = q.landed in cc

  -- the accused instance holds nothing, and never will
  pub accused_dead : Dead c (w.instance s.far.who)
  accused_dead = test (guards (slot w s.far).state) lease_past (λ h. absurd (freed ((a.inv.slots s.far).freed tied.engaged h)))
    where
      freed : Freed c w s.far (slot w s.far).far → ⊥
      freed (by_answers k) =
          no_crossing a.inv e.who s.far.who sound.answered
          (subst (λ (f : End). AnsweredBy c w.sent s.far.who f.who) tied.far k)
      freed (by_closing k) = not_closed (subst (λ f. Closed w f s.far) tied.far k) ((good a).heir_claims heir)

  -- a claim is on a point of the accused one's
  claimed : (p : ℕ) → Claim w.sent e s.far s (slot w s.far).got p → w.place p ≡ At s.far.who
  claimed p k = by_backing (a.inv.backed e s.far p refl k)
    where
      not_barred : Barred c w.sent e.who s.far.who → ⊥
      not_barred (other_heir z n g) = same_who-false z e.who n (one_heir a.inv z e.who s.far.who g sound.keeps)
      not_barred (discharged k) = no_crossing a.inv e.who s.far.who sound.answered k

      by_backing : Backed c w e.who s.far.who p → w.place p ≡ At s.far.who
      by_backing (claimant_dead d) = absurd (d.not_live a.live)
      by_backing (barred b) = absurd (not_barred b)
      by_backing (of_owner o) = o

  -- the points of record and flight are the accused one's, or on their way to it
  claim_from : (p : ℕ) → union s.held (part_of s.flight) p ≡ true → (w.place p ≡ At s.far.who) ⊎ ((number : ℕ) × (w.place p ≡ InFlight e s.far number))
  claim_from p h = ⊎_elim (λ r. inl (claimed p (by_record r))) (λ r. by_part s.flight refl r) (or_cases (s.held p) (part_of s.flight p) h)
    where
      by_part : (l : Option Flight) → s.flight ≡ l → part_of l p ≡ true → (w.place p ≡ At s.far.who) ⊎ ((number : ℕ) × (w.place p ≡ InFlight e s.far number))
      by_part None i r = absurd (cc (r))
      by_part (Some l) i r = test (leb l.number (slot w s.far).got)
          (λ le. inl (claimed p (by_flight l i (leb-true l.number (slot w s.far).got le) r)))
          (λ lt. inr (l.number, (a.inv.flights e s.far l refl i (not_lost a s.far)).flying (leb-false l.number (slot w s.far).got lt) p r))

  -- a part of that is taken over
  module _ (part : Points) (within : (p : ℕ) → part p ≡ true → union (slot w e).held (part_of (slot w e).flight) p ≡ true) where
    pub taken_from : (p : ℕ) → part p ≡ true → (w.place p ≡ At s.far.who) ⊎ ((number : ℕ) × (w.place p ≡ InFlight e s.far number))
    taken_from p h = claim_from p (within p h)

    abbrev more : Token
    more = enlarged (w.instance e.who).token part

    abbrev places : ℕ → Place
    places = moved part (At e.who) w.place

    at : (p : ℕ) (P : Place → Type 0) → (part p ≡ true → P (At e.who)) → (part p ≡ false → P (w.place p)) → P (places p)
    at p = moved_cases part (At e.who) w.place p

    over_link : KeptLink c w e s (ended s)
    over_link = record {
      was_engaged = ap is_engaged heir;
      engaged = refl;
      far = refl;
      len = refl;
      active = λ h. absurd (cc (h));
      willing = λ h. absurd (cc (h));
      quiets = λ q. record { deaf = refl; empty = λ p h. cc (h); landed = refl };
      touched = λ h. tied;
      recorded = λ p h. absurd (cc (h));
      claims = λ h. absurd (nothing_claimed h);
      in_state = tt;
      guarding = (good a).freed (ap is_engaged heir) (ap guards heir);
    }

    over_token : TokenDuty w e s (ended s) more []
    over_token =
        let old = token_shrunk a Ended s.until s.ripe no_points None token [] (less_empty s) (not_undone token) (λ g h. absurd h) in record {
          acked = old.acked;
          version = old.version;
          got = old.got;
          held_version_rises = old.held_version_rises;
          got_rises = old.got_rises;
          got_still = old.got_still;
          version_rises = omega arith;
          next_flight_rises = omega arith;
          flight = old.flight;
          sound = λ z h.
              let r = a.inv.tokens e.who z h in
              record {
                positive = r.positive;
                version = let n = r.version in omega arith;
                part = λ p k. or_left (token.ranges p) (part p) (r.part p k);
              };
          freeze = λ z h. inl h;
          mine = λ en z i k tie. freeze_mine a z i en tie;
          theirs = old.theirs;
          newly = old.newly;
        }

    no_claim : (f : End) (p : ℕ) → Claim w.sent e f (ended s) (slot w f).got p → ⊥
    no_claim f p (by_record h) = cc (h)
    no_claim f p (by_renew h stamp version theirs points k lt r) = cc (h)
    no_claim f p (by_flight l h le r) = cc (h)

    active_by : (g f : End) (p : ℕ) → Claim w.sent g f (slot w g) (slot w f).got p → is_active (slot w g).state ≡ true
    active_by g f p (by_record r) = (a.inv.slots g).claims (of_record p r)
    active_by g f p (by_renew h stamp version theirs points m lt r) = implied is_willing is_active refl (slot w g).state h
    active_by g f p (by_flight l h le r) = (a.inv.slots g).claims (of_flight l h)

    -- no other session of the heir claims anything of the accused instance
    others_apart : (u v : End) (p : ℕ) → (slot w u).far ≡ v → (e ≡ u → Claim w.sent e v (ended s) (slot w v).got p) →
        Claim w.sent u v (slot w u) (slot w v).got p → v.who ≡ s.far.who → e.who ≡ u.who → ⊥
    others_apart u v p far now claim same who =
        let one : e ≡ u = a.inv.single e u who (ap is_active heir) (active_by u v p claim) (sym same ∙ ap (λ (f : End). f.who) (sym far)) in
        no_claim v p (now one)

    over_place : PlaceDuty c w e s (ended s) more [] places
    over_place = record {
      owned = λ p h.
          at p (λ o. o ≡ At e.who) (λ i. refl)
          (λ i. here a p (⊎_elim (λ r. r) (λ r. absurd (both_ways _ i r)) (or_cases (token.ranges p) (part p) h)));
      exact = λ p.
          at p (λ o. o ≡ At e.who → token.ranges p || part p ≡ true) (λ i h. or_right (token.ranges p) (part p) i)
          (λ i h. or_left (token.ranges p) (part p) (back a p h));
      keeps = λ y p n l i. at p (λ o. o ≡ At y) (λ h. absurd (⊎_elim
          (λ (o : w.place p ≡ At s.far.who). let same : s.far.who ≡ y = cc in accused_dead.not_live (subst (λ y. Live c (w.instance y)) (sym same) l))
          (λ (o : (number : ℕ) × (w.place p ≡ InFlight e s.far number)). let k = o.1 in cc) (taken_from p h))) (λ h. i);
      keeps_unborn = λ y p unborn i. at p (λ o. o ≡ At y) (λ h. absurd (⊎_elim
          (λ (o : w.place p ≡ At s.far.who). let same : s.far.who ≡ y = cc in accused_dead.born (ap (λ y. (w.instance y).phase) same ∙ unborn))
          (λ (o : (number : ℕ) × (w.place p ≡ InFlight e s.far number)). let k = o.1 in cc) (taken_from p h))) (λ h. i);
      gets_none = λ y p n. at p (λ o. o ≡ At y → w.place p ≡ At y) (λ i h. absurd (let same : e.who ≡ y = cc in same_who-false e.who y n same)) (λ i h. h);
      flies = λ g h n p i. at p (λ o. (o ≡ InFlight g h n) ⊎ (BothTied w g e × (n ≤ s.got)) ⊎ ((g ≡ e) × (Dead c (w.instance s.far.who) ⊎ Closed w s.far e)))
          (λ j. ⊎_elim
          (λ (o : w.place p ≡ At s.far.who). absurd (cc))
          (λ (o : (number : ℕ) × (w.place p ≡ InFlight e s.far number)). let k = o.1 in let same : g ≡ e = cc in inr (inr (same, inl accused_dead)))
          (taken_from p j))
          (λ j. inl i);
      flew = λ g h n p.
          at p (λ o. o ≡ InFlight g h n → (w.place p ≡ InFlight g h n) ⊎ ((g ≡ e) × (token.next_flight ≤ n) × (n < token.next_flight)))
          (λ i j. absurd (cc (j))) (λ i j. inl j);
      flight = λ l h. absurd (cc (h));
      mine = λ en p h. absurd (no_claim s.far p h);
      theirs = λ en p h. inl h;
      stays = λ u v p far now claim i. at p (λ o. (o ≡ At v.who) ⊎ Barred c w.sent u.who v.who)
          (λ j. ⊎_elim
          (λ (o : w.place p ≡ At s.far.who). let same : s.far.who ≡ v.who = cc in
          inr (other_heir e.who (same_who_from e.who u.who (λ who. others_apart u v p far now claim (sym same) who)) (subst (HeirBy c w.sent e.who) same sound.keeps)))
          (λ (o : (number : ℕ) × (w.place p ≡ InFlight e s.far number)). let k = o.1 in absurd (cc))
          (taken_from p j))
          (λ j. inl i);
    }

    pub taken_over_duty : Duty c w e (w.instance e.who).next_session (outcome (ended s) more [] places)
    taken_over_duty = kept_duty a (outcome (ended s) more [] places) over_link (λ g h. absurd h) over_token over_place
