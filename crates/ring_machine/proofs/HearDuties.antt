-- A Renew is heard: what it announces is recorded if it is newer, and a flight that it confirms stands no more.
use Rattle.std.proofs.Common.{◌≡◌, ℕ, ◌<◌, ◌≤◌, Bool, true, false, cond, ltb, leb, [], ◌∷◌, Option, None, Some, ◌⊎◌, refl, subst, inl, inr, ⊎_elim, arith}
use Rattle.std.proofs.lemmas.Bool.{both_ways, ltb-true, ltb-false, leb-false}
use Rattle.fabric_lemmas.specs.Members.{IsMember}
use Rattle.ring_machine.specs.Points.{Points}
use Rattle.ring_machine.specs.Ends.{End}
use Rattle.ring_machine.specs.Slots.{Slot, Flight, Bound, guards, is_engaged, is_active, is_willing}
use Rattle.ring_machine.specs.Tokens.{Token, Freeze}
use Rattle.ring_machine.specs.Frames.{Frame, Renew, RenewAck}
use Rattle.ring_machine.specs.World.{Settings, World, slot}
use Rattle.ring_machine.specs.Effects.{outcome, unconfirmed, renewed}
use Rattle.ring_machine.specs.Claims.{Claim, by_record, by_renew, by_flight}
use Rattle.ring_machine.specs.SoundFlights.{Pending}
use Rattle.ring_machine.specs.SoundFrames.{SoundRenew}
use Rattle.ring_machine.proofs.States.{implied}
use Rattle.ring_machine.proofs.Duty.{Sent, TokenDuty, PlaceDuty, Duty}
use Rattle.ring_machine.proofs.Acting.{Acting, good, here, back, each_of_one, frozen_more, claim_before, far_differs, freeze_mine, freeze_theirs, not_lost}
use Rattle.ring_machine.proofs.Kept.{KeptLink, kept_duty, lease_same}

-- an unconfirmed flight stood before, and is above the other's last one
pub unconfirmed_before : (got : ℕ) (flight : Option Flight) (l : Flight) → unconfirmed got flight ≡ Some l → (flight ≡ Some l) × (got < l.number)
unconfirmed_before got None l e = absurd (cc (e))
unconfirmed_before got (Some f) l e = go (leb f.number got) refl e
  where
    go : (b : Bool) → leb f.number got ≡ b → cond b None (Some f) ≡ Some l → (Some f ≡ Some l) × (got < l.number)
    go true k i = absurd (cc (i))
    go false k i = let same : f ≡ l = cc in (i, subst (λ (z : Flight). got < z.number) same (leb-false f.number got k))

-- what s records after a Renew of this version with these points: what it did, or what is newer, and no frozen point
record Recorded (w : World) (s : Slot) (version : ℕ) (points held : Points) (recorded : ℕ) : Type 0 where
  rises : s.held_version ≤ recorded
  heard : version ≤ recorded
  announced : recorded ≤ (w.instance s.far.who).token.version
  positive : (p : ℕ) → held p ≡ true → 0 < recorded
  from : (p : ℕ) → held p ≡ true → (s.held p ≡ true) ⊎ ((points p ≡ true) × (s.held_version < version))
  allowed : (z : Freeze) → (w.instance s.far.who).token.freeze ≡ Some z → z.version ≤ recorded → (p : ℕ) → held p ≡ true → z.part p ≡ true → ⊥

module _ {c : Settings} {w : World} {e : End} (a : Acting c w e) where
  abbrev s : Slot
  s = slot w e

  abbrev token : Token
  token = (w.instance e.who).token

  module _ (willing : is_willing s.state ≡ true) (stamp version got : ℕ) (points : Points) (m : IsMember (Renew s.far e stamp version got points) w.sent) where
    sound : SoundRenew w s.far e stamp version got
    sound = a.inv.frames (Renew s.far e stamp version got points) m

    abbrev ack : Frame
    ack = RenewAck e (slot w e).far stamp version

    no_renew_sent : (f g : End) (stamp version got : ℕ) (points : Points) → IsMember (Renew f g stamp version got points) (ack ∷ []) → ⊥
    no_renew_sent f g stamp version got points (inl i) = cc
    no_renew_sent f g stamp version got points (inr i) = i

    module _ (held : Points) (recorded : ℕ) (r : Recorded w s version points held recorded) where
      abbrev t : Slot
      t = record (slot w e) { state = Bound; held = held; held_version = recorded; flight = unconfirmed got (slot w e).flight }

      -- a pending flight that is unconfirmed was pending before
      pending_before : (z : Freeze) (taken : ℕ) (l : Flight) → Pending z t.flight taken l → Pending z s.flight taken l
      pending_before z taken l h = record {
        stands = (unconfirmed_before got s.flight l h.stands).0;
        taken = h.taken;
        point = h.point;
        flown = h.flown;
        frozen = h.frozen;
      }

      heard_link : KeptLink c w e s t
      heard_link =
          let engaged = implied is_willing is_engaged refl s.state willing in record {
            was_engaged = engaged;
            engaged = refl;
            far = refl;
            len = refl;
            active = λ h. implied is_willing is_active refl s.state willing;
            willing = λ h. willing;
            quiets = λ q. absurd (both_ways _ q.deaf willing);
            touched = λ h. sound.tied.mine;
            recorded = r.positive;
            claims = λ h. refl;
            in_state = sound.tied.mine;
            guarding = lease_same a t (implied is_willing guards refl s.state willing) refl refl;
          }

      heard_token : TokenDuty w e s t token (ack ∷ [])
      heard_token = record {
        acked = (good a).acked;
        version = r.announced;
        got = (good a).got;
        held_version_rises = r.rises;
        got_rises = omega arith;
        got_still = λ h i. absurd (both_ways _ i willing);
        version_rises = omega arith;
        next_flight_rises = omega arith;
        flight = λ l h. inl (unconfirmed_before got s.flight l h).0;
        sound = a.inv.tokens e.who;
        freeze = λ z h. inl h;
        mine = λ en z is k tie. frozen_more (ack ∷ []) w.sent e s.far z _ _ _ _ _ (no_renew_sent e s.far)
            (λ st v m. ⊎_elim (λ (i : RenewAck s.far e st v ≡ ack). let same : e ≡ s.far = cc in far_differs a en same) (λ i. i) m) (freeze_mine a z is en tie);
        theirs = λ en z is tie. let old = freeze_theirs a z is en tie in record {
          renews = λ st v theirs points m. old.renews st v theirs points (⊎_elim (λ i. absurd (cc)) (λ i. i) m);
          confirms = λ st v theirs points m le l h. old.confirms st v theirs points (⊎_elim (λ i. absurd (cc)) (λ i. i) m) le l (pending_before z _ l h);
          acks = λ st v k le l h. ⊎_elim
              (λ (i : RenewAck e s.far st v ≡ ack).
              let same : v ≡ version = cc in
              let confirmed = old.confirms stamp version got points m (omega arith) l (pending_before z _ l h) in
              let lt = (unconfirmed_before got s.flight l h.stands).1 in omega arith)
              (λ i. old.acks st v i le l (pending_before z _ l h)) k;
          settled = λ le l h. old.settled le l (pending_before z _ l h);
          recorded = r.allowed z is;
        };
        newly = λ h. absurd (both_ways _ h (implied is_willing is_engaged refl s.state willing));
      }

      heard_place : PlaceDuty c w e s t token (ack ∷ []) w.place
      heard_place = record {
        owned = here a;
        exact = back a;
        keeps = λ y p n l h. h;
        keeps_unborn = λ y p n h. h;
        gets_none = λ y p n h. h;
        flies = λ g h number p i. inl i;
        flew = λ g h number p i. inl i;
        flight = λ l h. a.inv.flights e s.far l refl (unconfirmed_before got s.flight l h).0 (not_lost a s.far);
        mine = λ en p h. mine p h;
        theirs = λ en p h. inl (claim_before (ack ∷ []) w.sent s.far e (slot w s.far) s.got p (no_renew_sent e s.far) h);
        stays = λ g f p far now claim i. inl i;
      }
        where
          mine : (p : ℕ) → Claim (ack ∷ w.sent) e s.far t (slot w s.far).got p → Claim w.sent e s.far s (slot w s.far).got p
          mine p (by_record h) =
              ⊎_elim (λ (i : s.held p ≡ true). by_record i)
              (λ (i : (points p ≡ true) × (s.held_version < version)). by_renew willing stamp version got points m i.1 i.0) (r.from p h)
          mine p (by_renew h st v theirs pts k lt i) =
              by_renew willing st v theirs pts (⊎_elim (λ j. absurd (cc)) (λ j. j) k) (let le = r.rises in omega arith) i
          mine p (by_flight l h le i) = by_flight l (unconfirmed_before got s.flight l h).0 le i

      recorded_duty : Duty c w e (w.instance e.who).next_session (outcome t token (ack ∷ []) w.place)
      recorded_duty = kept_duty a (outcome t token (ack ∷ []) w.place) heard_link
          (each_of_one (Sent c w e s (outcome t token (ack ∷ []) w.place)) ack (record {
            own = refl;
            far = refl;
            was_willing = willing;
            willing = refl;
            sound = record { tied = record { mine = sound.tied.theirs; theirs = sound.tied.mine }; rests = sound.rests; recorded = omega arith };
            recorded = r.heard;
          }))
          heard_token heard_place

    heard_by : (b : Bool) → ltb s.held_version version ≡ b →
        Duty c w e (w.instance e.who).next_session (outcome (renewed s version got points b) token (ack ∷ []) w.place)
    heard_by true i =
        let lt = ltb-true s.held_version version i in
        recorded_duty points version (record {
          rises = omega arith;
          heard = omega arith;
          announced = sound.announced;
          positive = λ p h. omega arith;
          from = λ p h. inr (h, lt);
          allowed = λ z is le p h.
              (freeze_theirs a z is (implied is_willing is_engaged refl s.state willing) sound.tied.mine).renews stamp version got
              points m le p h;
        })
    heard_by false i =
        let le = ltb-false s.held_version version i in
        recorded_duty s.held s.held_version (record {
          rises = omega arith;
          heard = le;
          announced = (good a).version;
          positive = (good a).recorded;
          from = λ p h. inl h;
          allowed = λ z is le p h. (freeze_theirs a z is (implied is_willing is_engaged refl s.state willing) sound.tied.mine).recorded le p h;
        })

    pub renew_heard_duty : Duty c w e (w.instance e.who).next_session
        (outcome (renewed s version got points (ltb s.held_version version)) token (ack ∷ []) w.place)
    renew_heard_duty = heard_by (ltb s.held_version version) refl
