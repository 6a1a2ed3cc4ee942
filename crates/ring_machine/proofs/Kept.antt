-- The duty of a deed in a session that goes on, or ends: its far end and its length stay.
use Rattle.std.proofs.Common.{◌≡◌, ℕ, ◌+◌, ◌<◌, Bool, true, false, Option, None, refl, sym, ap, ◌∙◌, subst, inl, arith}
use Rattle.std.proofs.lemmas.Bool.{both_ways}
use Rattle.ring_points.specs.Whos.{same_who}
use Rattle.fabric_lemmas.specs.Members.{IsMember}
use Rattle.ring_machine.specs.Ends.{End}
use Rattle.ring_machine.specs.Slots.{Slot, Flight, State, Asking, Bound, Parting, Discharged, Heir, Parted, HasClaim, guards, is_used, is_settled, is_engaged, is_active, is_willing}
use Rattle.ring_machine.specs.Frames.{Frame, RenewAck}
use Rattle.ring_machine.specs.World.{Settings, World, slot}
use Rattle.ring_machine.specs.Arbitration.{AnsweredBy}
use Rattle.ring_machine.specs.Effects.{Outcome}
use Rattle.ring_machine.specs.Sessions.{Tied, Touched, IsEmpty, Quiet, Closed}
use Rattle.ring_machine.specs.Leases.{Rests, Leased, SoundHeir}
use Rattle.ring_machine.specs.SoundSlots.{Freed, AsksFor}
use Rattle.ring_machine.proofs.States.{implied}
use Rattle.ring_machine.proofs.Duty.{LinkDuty, Sent, TokenDuty, PlaceDuty, Duty}
use Rattle.ring_machine.proofs.Acting.{Acting, good}

-- what a slot in this state has to have
abbrev pub InState : Settings → World → End → Slot → State → Type 0
InState c w e t Bound = Tied w t.far e
InState c w e t Discharged = AnsweredBy c w.sent e.who t.far.who × HasClaim t.held t.flight
InState c w e t Heir = SoundHeir c w e t.far t.len t.ripe × HasClaim t.held t.flight
InState c w e t Parting = IsEmpty t.held × (t.flight ≡ None)
InState c w e t Parted = IsEmpty t.held × (t.flight ≡ None) × Closed w t.far e
InState c w e t _ = Unit {0}

-- the lease of a slot that guards, s being the slot before
pub record LeaseKept (c : Settings) (w : World) (e : End) (s t : Slot) : Type 0 where
  pub leased : Leased (w.instance e.who).pairs w.time t.until t.len
  pub since : (moment : ℕ) → (guards s.state ≡ true → Leased (w.instance e.who).pairs moment s.until s.len) →
      ((stamp version : ℕ) → IsMember (RenewAck s.far e stamp version) w.sent → Rests (w.instance e.who).pairs moment stamp) →
      Leased (w.instance e.who).pairs moment t.until t.len
  pub fence : (w.instance e.who).reading < t.until + c.answer

-- a slot guards, or has come to guard no more for a reason
abbrev pub Guarding : Settings → World → End → Slot → Slot → Bool → Type 0
Guarding c w e s t true = LeaseKept c w e s t
Guarding c w e s t false = Freed c w e t.far

-- the part of the duty that differs from deed to deed
pub record KeptLink (c : Settings) (w : World) (e : End) (s t : Slot) : Type 0 where
  pub was_engaged : is_engaged s.state ≡ true
  pub engaged : is_engaged t.state ≡ true
  pub far : t.far ≡ s.far
  pub len : t.len ≡ s.len
  pub active : is_active t.state ≡ true → is_active s.state ≡ true
  pub willing : is_willing t.state ≡ true → is_willing s.state ≡ true
  pub quiets : Quiet s.state s.held s.flight → Quiet t.state t.held t.flight
  pub touched : Touched t → Tied w t.far e
  pub recorded : (p : ℕ) → t.held p ≡ true → 0 < t.held_version
  pub claims : HasClaim t.held t.flight → is_active t.state ≡ true
  pub in_state : InState c w e t t.state
  pub guarding : Guarding c w e s t (guards t.state)

module _ {c : Settings} {w : World} {e : End} (a : Acting c w e) where
  abbrev s : Slot
  s = slot w e

  pub kept_link : (t : Slot) → KeptLink c w e s t → LinkDuty c w e s t (w.instance e.who).next_session
  kept_link t k = record {
    numbered = (good a).numbered (implied is_engaged is_used refl s.state k.was_engaged);
    counter = omega arith;
    used = implied is_engaged is_used refl t.state k.engaged;
    asks = λ h i. absurd (let n = k.engaged in cc (n, ap is_engaged i));
    engages = λ h. k.engaged;
    settles = λ h. implied is_engaged is_settled refl t.state k.engaged;
    far = λ h. k.far;
    len = λ h. k.len;
    quiets = λ h q. k.quiets q;
    willing = λ h i. k.willing i;
    single = λ h. inl (k.active h);
    far_used = λ h. subst (λ f. is_used (slot w f).state ≡ true) (sym k.far) ((good a).far_used k.was_engaged);
    apart = λ h. subst (λ (f : End). same_who e.who f.who ≡ false) (sym k.far) ((good a).apart k.was_engaged);
    touched = k.touched;
    bound = λ h. subst (InState c w e t) h k.in_state;
    asker = λ h.
        subst (λ f. (slot w f).state ≡ Asking → AsksFor (slot w f) e.who.actor t.len) (sym k.far)
        (λ i. subst (AsksFor (slot w s.far) e.who.actor) (sym k.len) ((good a).asker k.was_engaged i));
    agreed = λ h. subst (λ f. Tied w f e → t.len ≡ (slot w f).len) (sym k.far) (λ tie. k.len ∙ (good a).agreed k.was_engaged tie);
    plain = λ h. absurd (both_ways _ h k.engaged);
    recorded = k.recorded;
    leased = λ h. (lease h).leased;
    discharged = λ h. subst (InState c w e t) h k.in_state;
    heir = λ h. let i : InState c w e t Heir = subst (InState c w e t) h k.in_state in i.0;
    heir_claims = λ h. let i : InState c w e t Heir = subst (InState c w e t) h k.in_state in i.1;
    claims = k.claims;
    parting = λ h. subst (InState c w e t) h k.in_state;
    parted = λ h. subst (InState c w e t) h k.in_state;
    freed = λ h u. subst (Guarding c w e s t) u k.guarding;
    since = λ moment h was acks u. (lease u).since moment was acks;
  }
    where
      lease : guards t.state ≡ true → LeaseKept c w e s t
      lease h = subst (Guarding c w e s t) h k.guarding

  pub kept_duty : (out : Outcome) → KeptLink c w e s out.slot → ((f : Frame) → IsMember f out.sent → Sent c w e s out f) →
      TokenDuty w e s out.slot out.token out.sent →
      PlaceDuty c w e s out.slot out.token out.sent out.place → Duty c w e (w.instance e.who).next_session out
  kept_duty out k sends token place = record {
    fence = λ h. let l : LeaseKept c w e s out.slot = subst (Guarding c w e s out.slot) h k.guarding in l.fence;
    link = kept_link out.slot k;
    sends = sends;
    token = token;
    place = place;
  }

  -- the lease of a slot that guarded stays
  pub lease_same : (t : Slot) → guards s.state ≡ true → t.until ≡ s.until → t.len ≡ s.len → LeaseKept c w e s t
  lease_same t g until len = record {
    leased = subst (λ (u : ℕ × ℕ). Leased (w.instance e.who).pairs w.time u.0 u.1) (λ i. (sym until i, sym len i)) ((good a).leased g);
    since = λ moment was acks. subst (λ (u : ℕ × ℕ). Leased (w.instance e.who).pairs moment u.0 u.1) (λ i. (sym until i, sym len i)) (was g);
    fence = let f = a.live.below e.number g in omega arith;
  }

  -- what the slot has in the state that it is in
  pub state_same : (st : State) → s.state ≡ st → InState c w e s st
  state_same Bound h = (good a).bound h
  state_same Discharged h = (good a).discharged h
  state_same Heir h = ((good a).heir h, (good a).heir_claims h)
  state_same Parting h = (good a).parting h
  state_same Parted h = (good a).parted h
  state_same st h = tt

  pub guarding_same : is_engaged s.state ≡ true → Guarding c w e s s (guards s.state)
  guarding_same en = go (guards s.state) refl
    where
      go : (b : Bool) → guards s.state ≡ b → Guarding c w e s s b
      go true g = lease_same s g refl refl
      go false g = (good a).freed en g

  -- a session that goes on, while a flight is given or taken
  pub bound_link : s.state ≡ Bound → (got : ℕ) (flight : Option Flight) → KeptLink c w e s (record s { got = got; flight = flight })
  bound_link bound got flight = record {
    was_engaged = ap is_engaged bound;
    engaged = ap is_engaged bound;
    far = refl;
    len = refl;
    active = λ h. h;
    willing = λ h. h;
    quiets = λ q. absurd (let n = q.deaf in cc (n, ap is_willing bound));
    touched = λ h. (good a).bound bound;
    recorded = (good a).recorded;
    claims = λ h. ap is_active bound;
    in_state = subst (InState c w e (record s { got = got; flight = flight })) (sym bound) ((good a).bound bound);
    guarding =
        subst (λ st. Guarding c w e s (record s { got = got; flight = flight }) (guards st)) (sym bound)
        (lease_same (record s { got = got; flight = flight }) (ap guards bound) refl refl);
  }
