-- Deeds that give up claims, or none, and move no point: versions and counters stay, no Renew is sent.
use Rattle.std.proofs.Common.{◌≡◌, ◌+◌, ℕ, ◌≤◌, Bool, true, false, cond, ◌==◌, List, ◌++◌, Option, Some, None, refl, sym, subst, inl, arith}
use Rattle.fabric_lemmas.specs.Members.{IsMember}
use Rattle.ring_machine.specs.Points.{Points, no_points}
use Rattle.ring_machine.specs.Ends.{End}
use Rattle.ring_machine.specs.Slots.{Slot, Flight, State, HasClaim, of_record, of_flight, is_used, is_willing}
use Rattle.ring_machine.specs.Tokens.{Token, Freeze, undone}
use Rattle.ring_machine.specs.Frames.{Frame}
use Rattle.ring_machine.specs.World.{Settings, World, slot}
use Rattle.ring_machine.specs.Sessions.{Touched, TouchedBy, flew, heard, took, was_heard}
use Rattle.ring_machine.specs.Claims.{Claim, ClaimBy, by_record, by_renew, by_flight}
use Rattle.ring_machine.specs.SoundFlights.{SoundToken, Pending, FrozenTo}
use Rattle.ring_machine.specs.Effects.{outcome}
use Rattle.ring_machine.proofs.Duty.{LinkDuty, Sent, TokenDuty, PlaceDuty, Duty}
use Rattle.ring_machine.proofs.Acting.{Acting, good, here, back, NoRenewal, no_renew, no_ack, frozen_more, claim_before, freeze_mine, freeze_theirs, not_lost}

-- the slot with these fields, and all other fields of s
abbrev pub shrunk : Slot → State → (until ripe : ℕ) → Points → Option Flight → Slot
shrunk s state until ripe held flight = record s { state = state; until = until; ripe = ripe; held = held; flight = flight }

-- record and flight are those of s, or less
pub record IsLess (s : Slot) (held : Points) (flight : Option Flight) : Type 0 where
  pub held_before : (p : ℕ) → held p ≡ true → s.held p ≡ true
  pub flight_before : (l : Flight) → flight ≡ Some l → s.flight ≡ Some l

pub not_less : (s : Slot) → IsLess s s.held s.flight
not_less s = record { held_before = λ p h. h; flight_before = λ l h. h }

pub less_empty : (s : Slot) → IsLess s no_points None
less_empty s = record { held_before = λ p h. absurd (cc (h)); flight_before = λ l h. absurd (cc (h)) }

pub less_record : (s : Slot) → IsLess s no_points s.flight
less_record s = record { held_before = λ p h. absurd (cc (h)); flight_before = λ l h. h }

-- where no flight stood, none stands among less
pub none_left : {before : Option Flight} (flight : Option Flight) → before ≡ None → ((l : Flight) → flight ≡ Some l → before ≡ Some l) → flight ≡ None
none_left None h was = refl
none_left (Some l) h was = absurd (let k = was l refl in cc)

pub nothing_claimed : HasClaim no_points None → ⊥
nothing_claimed (of_record p h) = cc (h)
nothing_claimed (of_flight l h) = cc (h)

-- less content is no more touched
pub touched_before : (s : Slot) (held : Points) (flight : Option Flight) → IsLess s held flight → TouchedBy flight s.held_version s.got s.acked → Touched s
touched_before s held flight less (flew l h) = flew l (less.flight_before l h)
touched_before s held flight less (heard h) = heard h
touched_before s held flight less (took h) = took h
touched_before s held flight less (was_heard h) = was_heard h

-- the ranges and the flight counter stay, and a freeze stays or goes
pub record IsUndone (old new : Token) : Type 0 where
  pub ranges : (p : ℕ) → new.ranges p ≡ true → old.ranges p ≡ true
  pub ranges_back : (p : ℕ) → old.ranges p ≡ true → new.ranges p ≡ true
  pub version : old.version ≤ new.version
  pub next_flight : new.next_flight ≡ old.next_flight
  pub freeze : (z : Freeze) → new.freeze ≡ Some z → (new ≡ old) × (old.freeze ≡ Some z)

pub not_undone : (token : Token) → IsUndone token token
not_undone token = record { ranges = λ p h. h; ranges_back = λ p h. h; version = omega arith; next_flight = refl; freeze = λ z h. (refl, h) }

pub is_undone : (number : ℕ) (token : Token) (freeze : Option Freeze) → IsUndone token (undone number token freeze)
is_undone number token None = not_undone token
is_undone number token (Some z) = go (z.number == number)
  where
    go : (b : Bool) → IsUndone token (cond b (record token { version = token.version + 1; freeze = None }) token)
    go true = record { ranges = λ p h. h; ranges_back = λ p h. h; version = omega arith; next_flight = refl; freeze = λ z h. absurd (cc (h)) }
    go false = not_undone token

module _ {c : Settings} {w : World} {e : End} (a : Acting c w e) where
  abbrev s : Slot
  s = slot w e

  -- a pending flight of less content was pending before
  pending_before : {z : Freeze} {held : Points} {flight : Option Flight} {got : ℕ} {l : Flight} → IsLess s held flight →
      Pending z flight got l → Pending z s.flight got l
  pending_before {l = l} less h = record { stands = less.flight_before l h.stands; taken = h.taken; point = h.point; flown = h.flown; frozen = h.frozen }

  -- a freeze of the other side is sound against less content
  pub theirs_less : (z : Freeze) (sent : List Frame) (got acked : ℕ) (held : Points) (flight : Option Flight) → IsLess s held flight →
      FrozenTo sent s.far e z got acked s.flight s.held_version s.held → FrozenTo sent s.far e z got acked flight s.held_version held
  theirs_less z sent got acked held flight less r = record {
    renews = r.renews;
    confirms = λ stamp version theirs points m le l h. r.confirms stamp version theirs points m le l (pending_before {held = held} less h);
    acks = λ stamp version m le l h. r.acks stamp version m le l (pending_before {held = held} less h);
    settled = λ le l h. r.settled le l (pending_before {held = held} less h);
    recorded = λ le p h. r.recorded le p (less.held_before p h);
  }

  pub token_shrunk : (state : State) (until ripe : ℕ) (held : Points) (flight : Option Flight) (token : Token) (sent : List Frame) →
      IsLess s held flight → IsUndone (w.instance e.who).token token → NoRenewal sent →
      TokenDuty w e s (shrunk s state until ripe held flight) token sent
  token_shrunk state until ripe held flight token sent less un none = record {
    acked = (good a).acked;
    version = (good a).version;
    got = (good a).got;
    held_version_rises = omega arith;
    got_rises = omega arith;
    got_still = λ h i. refl;
    version_rises = un.version;
    next_flight_rises = let n = un.next_flight in omega arith;
    flight = λ l h. inl (less.flight_before l h);
    sound = λ z h. let r = un.freeze z h in subst (λ (k : Token). SoundToken k z) (sym r.0) (a.inv.tokens e.who z r.1);
    freeze = λ z h. inl (un.freeze z h).1;
    mine = λ en z is still tie. frozen_more sent w.sent e s.far z _ _ _ _ _ (no_renew sent none e s.far) (no_ack sent none s.far e) (freeze_mine a z is en tie);
    theirs = λ en z is tie.
        theirs_less z (sent ++ w.sent) _ _ held flight less
        (frozen_more sent w.sent s.far e z _ _ _ _ _ (no_renew sent none s.far e) (no_ack sent none e s.far) (freeze_theirs a z is en tie));
    newly = λ h.
        let u = ((good a).plain h).0 in
        record { flight = none_left flight u.flight less.flight_before; held_version = u.held_version; got = u.got; acked = u.acked };
  }

  pub place_shrunk : (state : State) (until ripe : ℕ) (held : Points) (flight : Option Flight) (token : Token) (sent : List Frame) →
      IsLess s held flight → IsUndone (w.instance e.who).token token → NoRenewal sent → (is_willing state ≡ true → is_willing s.state ≡ true) →
      PlaceDuty c w e s (shrunk s state until ripe held flight) token sent w.place
  place_shrunk state until ripe held flight token sent less un none willing = record {
    owned = λ p h. here a p (un.ranges p h);
    exact = λ p h. un.ranges_back p (back a p h);
    keeps = λ y p n l h. h;
    keeps_unborn = λ y p n h. h;
    gets_none = λ y p n h. h;
    flies = λ g h number p i. inl i;
    flew = λ g h number p i. inl i;
    flight = λ l h.
        let r = a.inv.flights e s.far l refl (less.flight_before l h) (not_lost a s.far) in
        record { numbered = let n = un.next_flight in let m = r.numbered in omega arith; flying = r.flying; whole = r.whole };
    mine = λ en p h. before p (claim_before sent w.sent e s.far (shrunk s state until ripe held flight) (slot w s.far).got p (no_renew sent none s.far e) h);
    theirs = λ en p h. inl (claim_before sent w.sent s.far e (slot w s.far) s.got p (no_renew sent none e s.far) h);
    stays = λ g f p far now claim i. inl i;
  }
    where
      before : (p : ℕ) → ClaimBy w.sent e s.far state held s.held_version flight (slot w s.far).got p → Claim w.sent e s.far s (slot w s.far).got p
      before p (by_record r) = by_record (less.held_before p r)
      before p (by_renew h stamp version theirs points m lt r) = by_renew (willing h) stamp version theirs points m lt r
      before p (by_flight l h le r) = by_flight l (less.flight_before l h) le r

  -- a deed that only sends
  pub link_same : is_used s.state ≡ true → LinkDuty c w e s s (w.instance e.who).next_session
  link_same used =
      let k = good a in record {
        numbered = k.numbered used;
        counter = omega arith;
        used = used;
        asks = λ h i. record { asking = i; far = refl; len = refl };
        engages = λ h. h;
        settles = λ h. h;
        far = λ h. refl;
        len = λ h. refl;
        quiets = λ h q. q;
        willing = λ h i. i;
        single = λ h. inl h;
        far_used = k.far_used;
        apart = k.apart;
        touched = k.touched;
        bound = k.bound;
        asker = k.asker;
        agreed = k.agreed;
        plain = k.plain;
        recorded = k.recorded;
        leased = k.leased;
        heir = k.heir;
        discharged = k.discharged;
        heir_claims = k.heir_claims;
        claims = k.claims;
        parting = k.parting;
        parted = k.parted;
        freed = k.freed;
        since = λ moment en was acks g. was g;
      }

  pub sends_duty : (sent : List Frame) → is_used s.state ≡ true → NoRenewal sent →
      ((f : Frame) → IsMember f sent → Sent c w e s (outcome s ((w.instance e.who).token) sent w.place) f) →
      Duty c w e (w.instance e.who).next_session (outcome s ((w.instance e.who).token) sent w.place)
  sends_duty sent used none sends = record {
    fence = λ g. a.live.below e.number g;
    link = link_same used;
    sends = sends;
    token = token_shrunk s.state s.until s.ripe s.held s.flight (w.instance e.who).token sent (not_less s) (not_undone (w.instance e.who).token) none;
    place = place_shrunk s.state s.until s.ripe s.held s.flight (w.instance e.who).token sent (not_less s) (not_undone (w.instance e.who).token) none (λ h. h);
  }
