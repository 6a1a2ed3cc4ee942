-- Deeds of a slot that had no session: it asks, gives up, or begins a session. It has no content before or after.
use Rattle.std.proofs.Common.{◌≡◌, ℕ, ◌+◌, ◌<◌, ◌≤◌, Bool, true, false, List, ◌⊎◌, refl, sym, ap, ◌∙◌, subst, inl, inr, ⊎_elim, arith}
use Rattle.std.proofs.lemmas.Bool.{both_ways}
use Rattle.ring_points.specs.Whos.{same_who}
use Rattle.fabric_lemmas.specs.Members.{IsMember}
use Rattle.ring_machine.specs.Ends.{End}
use Rattle.ring_machine.specs.Slots.{Slot, State, Asking, Offered, Bound, HasClaim, of_record, of_flight, guards, is_used, is_settled, is_engaged, is_active}
use Rattle.ring_machine.specs.Frames.{Frame}
use Rattle.ring_machine.specs.World.{Settings, World, slot}
use Rattle.ring_machine.specs.Guards.{IsAlone}
use Rattle.ring_machine.specs.Sessions.{Tied, Untouched, IsEmpty}
use Rattle.ring_machine.specs.Leases.{Leased}
use Rattle.ring_machine.specs.SoundSlots.{AsksFor}
use Rattle.ring_machine.specs.Effects.{outcome}
use Rattle.ring_machine.proofs.States.{implied, not_touched}
use Rattle.ring_machine.proofs.Later.{AskedBefore}
use Rattle.ring_machine.proofs.Duty.{LinkDuty, Sent, TokenDuty, PlaceDuty, Duty}
use Rattle.ring_machine.proofs.Acting.{Acting, good, here, back, from_now, NoRenewal}

-- the slot has no content
pub record IsBare (t : Slot) : Type 0 where
  pub untouched : Untouched t
  pub empty : IsEmpty t.held

no_claim : (t : Slot) → IsBare t → HasClaim t.held t.flight → ⊥
no_claim t bare (of_record p h) = bare.empty p h
no_claim t bare (of_flight l h) = let n = bare.untouched.flight in cc

-- t begins a session with f, or makes whole what f offered
pub record Begins (c : Settings) (w : World) (e : End) (t : Slot) (f : End) : Type 0 where
  pub far : t.far ≡ f
  pub state : (t.state ≡ Offered) ⊎ ((t.state ≡ Bound) × Tied w f e)
  pub until : t.until ≡ (w.instance e.who).reading + t.len
  pub used : is_used (slot w f).state ≡ true
  pub apart : same_who e.who f.who ≡ false
  pub alone : IsAlone f.who (w.instance e.who).slots
  pub asker : (slot w f).state ≡ Asking → AsksFor (slot w f) e.who.actor t.len
  pub agreed : Tied w f e → t.len ≡ (slot w f).len

module _ {c : Settings} {w : World} {e : End} (a : Acting c w e) (unsettled : is_settled (slot w e).state ≡ false) where
  abbrev s : Slot
  s = slot w e

  not_engaged : is_engaged s.state ≡ true → ⊥
  not_engaged h = both_ways _ unsettled (implied is_engaged is_settled refl s.state h)

  plain : Untouched s × IsEmpty s.held
  plain = (good a).plain (go (is_engaged s.state) refl)
    where
      go : (b : Bool) → is_engaged s.state ≡ b → is_engaged s.state ≡ false
      go true h = absurd (not_engaged h)
      go false h = h

  fresh_token : (t : Slot) (sent : List Frame) → Untouched t → NoRenewal sent → TokenDuty w e s t (w.instance e.who).token sent
  fresh_token t sent bare none =
      let was = plain.0 in record {
        acked = let n = bare.acked in omega arith;
        version = let n = bare.held_version in omega arith;
        got = let n = bare.got in let m = a.inv.counted t.far.who in omega arith;
        held_version_rises = let n = was.held_version in omega arith;
        got_rises = let n = was.got in omega arith;
        got_still = λ h i. bare.got ∙ sym was.got;
        version_rises = omega arith;
        next_flight_rises = omega arith;
        flight = λ l h. absurd (let n = bare.flight in cc);
        sound = a.inv.tokens e.who;
        freeze = λ z h. inl h;
        mine = λ h. absurd (not_engaged h);
        theirs = λ h. absurd (not_engaged h);
        newly = λ h. bare;
      }

  fresh_place : (t : Slot) (sent : List Frame) → Untouched t → PlaceDuty c w e s t (w.instance e.who).token sent w.place
  fresh_place t sent bare = record {
    owned = here a;
    exact = back a;
    keeps = λ y p n l h. h;
    keeps_unborn = λ y p n h. h;
    gets_none = λ y p n h. h;
    flies = λ g h number p i. inl i;
    flew = λ g h number p i. inl i;
    flight = λ l h. absurd (let n = bare.flight in cc);
    mine = λ h. absurd (not_engaged h);
    theirs = λ h. absurd (not_engaged h);
    stays = λ g f p far now claim i. inl i;
  }

  -- a slot that asks, or asks no more
  pub lone_link : (t : Slot) (next : ℕ) → e.number < next → (w.instance e.who).next_session ≤ next → IsBare t → is_used t.state ≡ true →
      is_engaged t.state ≡ false →
      (is_used s.state ≡ true → t.state ≡ Asking → AskedBefore s t) → LinkDuty c w e s t next
  lone_link t next numbered counter bare used lone asks = record {
    numbered = numbered;
    counter = counter;
    used = used;
    asks = asks;
    engages = λ h. absurd (not_engaged h);
    settles = λ h. absurd (both_ways _ unsettled h);
    far = λ h. absurd (both_ways _ unsettled h);
    len = λ h. absurd (both_ways _ unsettled h);
    quiets = λ h. absurd (both_ways _ unsettled h);
    willing = λ h. absurd (both_ways _ unsettled h);
    single = λ h. absurd (both_ways _ lone (implied is_active is_engaged refl t.state h));
    far_used = λ h. absurd (both_ways _ lone h);
    apart = λ h. absurd (both_ways _ lone h);
    touched = λ h. absurd (not_touched t bare.untouched h);
    bound = λ h. absurd (both_ways _ lone (ap is_engaged h));
    asker = λ h. absurd (both_ways _ lone h);
    agreed = λ h. absurd (both_ways _ lone h);
    plain = λ h. (bare.untouched, bare.empty);
    recorded = λ p h. absurd (bare.empty p h);
    leased = λ h. absurd (both_ways _ lone (implied guards is_engaged refl t.state h));
    discharged = λ h. absurd (both_ways _ lone (ap is_engaged h));
    heir = λ h. absurd (both_ways _ lone (ap is_engaged h));
    heir_claims = λ h. absurd (both_ways _ lone (ap is_engaged h));
    claims = λ h. absurd (no_claim t bare h);
    parting = λ h. absurd (both_ways _ lone (ap is_engaged h));
    parted = λ h. absurd (both_ways _ lone (ap is_engaged h));
    freed = λ h. absurd (both_ways _ lone h);
    since = λ moment h. absurd (not_engaged h);
  }

  pub lone_duty : (t : Slot) (next : ℕ) (sent : List Frame) → e.number < next → (w.instance e.who).next_session ≤ next → IsBare t →
      is_used t.state ≡ true → is_engaged t.state ≡ false →
      (is_used s.state ≡ true → t.state ≡ Asking → AskedBefore s t) → NoRenewal sent →
      ((f : Frame) → IsMember f sent → Sent c w e s (outcome t ((w.instance e.who).token) sent w.place) f) →
      Duty c w e next (outcome t ((w.instance e.who).token) sent w.place)
  lone_duty t next sent numbered counter bare used lone asks none sends = record {
    fence = λ h. absurd (both_ways _ lone (implied guards is_engaged refl t.state h));
    link = lone_link t next numbered counter bare used lone asks;
    sends = sends;
    token = fresh_token t sent bare.untouched none;
    place = fresh_place t sent bare.untouched;
  }

  -- a slot that begins a session
  begun_link : (t : Slot) (f : End) (next : ℕ) → e.number < next → (w.instance e.who).next_session ≤ next → IsBare t → Begins c w e t f →
      LinkDuty c w e s t next
  begun_link t f next numbered counter bare b = record {
    numbered = numbered;
    counter = counter;
    used = by_state is_used refl refl;
    asks = λ h i. absurd (let en = engaged in cc (en, ap is_engaged i));
    engages = λ h. engaged;
    settles = λ h. by_state is_settled refl refl;
    far = λ h. absurd (both_ways _ unsettled h);
    len = λ h. absurd (both_ways _ unsettled h);
    quiets = λ h. absurd (both_ways _ unsettled h);
    willing = λ h. absurd (both_ways _ unsettled h);
    single = λ h. inr (λ g who active far. b.alone g.number (subst (λ y. is_active ((w.instance y).slots g.number).state ≡ true) who active)
        (subst (λ y. ((w.instance y).slots g.number).far.who ≡ f.who) who (far ∙ ap (λ (f : End). f.who) b.far)));
    far_used = λ h. subst (λ f. is_used (slot w f).state ≡ true) (sym b.far) b.used;
    apart = λ h. subst (λ (f : End). same_who e.who f.who ≡ false) (sym b.far) b.apart;
    touched = λ h. absurd (not_touched t bare.untouched h);
    bound = λ h. subst (λ f. Tied w f e) (sym b.far) (⊎_elim (λ i. absurd (cc (h, i))) (λ i. i.1) b.state);
    asker = λ h. subst (λ f. (slot w f).state ≡ Asking → AsksFor (slot w f) e.who.actor t.len) (sym b.far) b.asker;
    agreed = λ h. subst (λ f. Tied w f e → t.len ≡ (slot w f).len) (sym b.far) b.agreed;
    plain = λ h. absurd (both_ways _ h engaged);
    recorded = λ p h. absurd (bare.empty p h);
    leased = λ h. lease;
    discharged = λ h. absurd (⊎_elim (λ i. cc (h, i)) (λ i. let j = i.0 in cc (h, j)) b.state);
    heir = λ h. absurd (⊎_elim (λ i. cc (h, i)) (λ i. let j = i.0 in cc (h, j)) b.state);
    heir_claims = λ h. absurd (⊎_elim (λ i. cc (h, i)) (λ i. let j = i.0 in cc (h, j)) b.state);
    claims = λ h. absurd (no_claim t bare h);
    parting = λ h. absurd (⊎_elim (λ i. cc (h, i)) (λ i. let j = i.0 in cc (h, j)) b.state);
    parted = λ h. absurd (⊎_elim (λ i. cc (h, i)) (λ i. let j = i.0 in cc (h, j)) b.state);
    freed = λ h i. absurd (both_ways _ i (by_state guards refl refl));
    since = λ moment h. absurd (not_engaged h);
  }
    where
      by_state : (test : State → Bool) → test Offered ≡ true → test Bound ≡ true → test t.state ≡ true
      by_state test o k = ⊎_elim (λ h. ap test h ∙ o) (λ h. ap test h.0 ∙ k) b.state

      engaged : is_engaged t.state ≡ true
      engaged = by_state is_engaged refl refl

      lease : Leased (w.instance e.who).pairs w.time t.until t.len
      lease = subst (λ until. Leased (w.instance e.who).pairs w.time until t.len) (sym b.until) (from_now a t.len)

  pub begun_duty : 0 < c.answer → (t : Slot) (f : End) (next : ℕ) (sent : List Frame) → e.number < next →
      (w.instance e.who).next_session ≤ next → IsBare t → Begins c w e t f → NoRenewal sent →
      ((f : Frame) → IsMember f sent → Sent c w e s (outcome t ((w.instance e.who).token) sent w.place) f) →
      Duty c w e next (outcome t ((w.instance e.who).token) sent w.place)
  begun_duty pos t f next sent numbered counter bare b none sends = record {
    fence = λ h. let u = b.until in omega arith;
    link = begun_link t f next numbered counter bare b;
    sends = sends;
    token = fresh_token t sent bare.untouched none;
    place = fresh_place t sent bare.untouched;
  }
