-- A Renew is sent: it announces what is owned and not frozen.
use Rattle.std.proofs.Common.{◌≡◌, ℕ, true, not, [], ◌∷◌, Option, Some, ◌⊎◌, refl, sym, ap, ◌∙◌, inl, inr, ⊎_elim, arith}
use Rattle.std.proofs.lemmas.Bool.{and_parts}
use Rattle.fabric_lemmas.specs.Members.{IsMember}
use Rattle.ring_machine.specs.Points.{Points}
use Rattle.ring_machine.specs.Ends.{End}
use Rattle.ring_machine.specs.Slots.{Slot, Bound, is_used, is_engaged}
use Rattle.ring_machine.specs.Tokens.{Token, Freeze, frozen, announced}
use Rattle.ring_machine.specs.Frames.{Frame, Renew, RenewAck}
use Rattle.ring_machine.specs.World.{Settings, World, At, slot}
use Rattle.ring_machine.specs.Effects.{outcome}
use Rattle.ring_machine.specs.Claims.{Claim, by_record, by_renew, by_flight}
use Rattle.ring_machine.proofs.Duty.{Sent, TokenDuty, PlaceDuty, Duty}
use Rattle.ring_machine.proofs.Acting.{Acting, good, here, each_of_one, frozen_more, claim_before, far_differs, freeze_mine, freeze_theirs}
use Rattle.ring_machine.proofs.Shrunk.{not_less, not_undone, place_shrunk, link_same}

module _ {c : Settings} {w : World} {e : End} (a : Acting c w e) where
  abbrev s : Slot
  s = slot w e

  abbrev token : Token
  token = (w.instance e.who).token

  -- what is announced is owned, and is not frozen
  announced_owned : (p : ℕ) → announced token p ≡ true → w.place p ≡ At e.who
  announced_owned p h = here a p (and_parts (token.ranges p) (not (frozen token.freeze p)) h).0

  announced_free : (z : Freeze) → token.freeze ≡ Some z → (p : ℕ) → announced token p ≡ true → z.part p ≡ true → ⊥
  announced_free z is p h k =
      let free = (and_parts (token.ranges p) (not (frozen token.freeze p)) h).1 in
      let same : frozen token.freeze p ≡ z.part p = ap (λ (o : Option Freeze). frozen o p) is in
      cc

  module _ (bound : s.state ≡ Bound) where
    abbrev renew : Frame
    renew = Renew e (slot w e).far (w.instance e.who).reading (w.instance e.who).token.version (slot w e).got (announced (w.instance e.who).token)

    -- of the Renews now sent, the one from e is of what is announced
    renew_cases : {X : Type 0} (stamp version got : ℕ) (points : Points) → IsMember (Renew e s.far stamp version got points) (renew ∷ w.sent) →
        (version ≡ token.version → got ≡ s.got → points ≡ announced token → X) → (IsMember (Renew e s.far stamp version got points) w.sent → X) → X
    renew_cases stamp version got points m new old = ⊎_elim
        (λ (i : Renew e s.far stamp version got points ≡ renew).
        let e1 : version ≡ token.version = cc in let e2 : got ≡ s.got = cc in let e3 : points ≡ announced token = cc in new e1 e2 e3)
        old m

    not_to_me : (stamp version got : ℕ) (points : Points) → IsMember (Renew s.far e stamp version got points) (renew ∷ []) → ⊥
    not_to_me stamp version got points m =
        ⊎_elim
        (λ (i : Renew s.far e stamp version got points ≡ renew). let same : e ≡ s.far = cc in far_differs a (ap is_engaged bound) same)
        (λ i. i) m

    no_ack_sent : (f g : End) (stamp version : ℕ) → IsMember (RenewAck f g stamp version) (renew ∷ []) → ⊥
    no_ack_sent f g stamp version (inl i) = cc
    no_ack_sent f g stamp version (inr i) = i

    renew_token : TokenDuty w e s s token (renew ∷ [])
    renew_token = record {
      acked = (good a).acked;
      version = (good a).version;
      got = (good a).got;
      held_version_rises = omega arith;
      got_rises = omega arith;
      got_still = λ h i. refl;
      version_rises = omega arith;
      next_flight_rises = omega arith;
      flight = λ l h. inl h;
      sound = a.inv.tokens e.who;
      freeze = λ z h. inl h;
      mine = λ en z is k tie. let old = freeze_mine a z is en tie in record {
        renews = λ stamp version got points m le p h r. renew_cases stamp version got points m
            (λ e1 e2 e3. announced_free z is p (ap (λ (f : Points). f p) (sym e3) ∙ h) r)
            (λ m. old.renews stamp version got points m le p h r);
        confirms = λ stamp version got points m le l pending. renew_cases stamp version got points m
            (λ e1 e2 e3. let t = pending.taken in omega arith)
            (λ m. old.confirms stamp version got points m le l pending);
        acks = λ stamp version m le l pending. ⊎_elim (λ i. absurd (cc)) (λ m. old.acks stamp version m le l pending) m;
        settled = old.settled;
        recorded = old.recorded;
      };
      theirs = λ en z is tie. frozen_more (renew ∷ []) w.sent s.far e z _ _ _ _ _ not_to_me (no_ack_sent e s.far) (freeze_theirs a z is en tie);
      newly = λ h. absurd (cc (h, ap is_engaged bound));
    }

    renew_place : PlaceDuty c w e s s token (renew ∷ []) w.place
    renew_place =
        let still = place_shrunk a s.state s.until s.ripe s.held s.flight token [] (not_less s) (not_undone token) (λ g h. absurd h) (λ h. h) in record {
          owned = still.owned;
          exact = still.exact;
          keeps = still.keeps;
          keeps_unborn = still.keeps_unborn;
          gets_none = still.gets_none;
          flies = still.flies;
          flew = still.flew;
          flight = still.flight;
          mine = λ en p h. claim_before (renew ∷ []) w.sent e s.far s (slot w s.far).got p not_to_me h;
          theirs = λ en p h. theirs p h;
          stays = λ g f p far now claim i. inl i;
        }
      where
        theirs : (p : ℕ) → Claim (renew ∷ w.sent) s.far e (slot w s.far) s.got p → Claim w.sent s.far e (slot w s.far) s.got p ⊎ (w.place p ≡ At e.who)
        theirs p (by_record r) = inl (by_record r)
        theirs p (by_flight l i le r) = inl (by_flight l i le r)
        theirs p (by_renew h stamp version got points m lt r) = renew_cases stamp version got points m
            (λ e1 e2 e3. inr (announced_owned p (ap (λ (f : Points). f p) (sym e3) ∙ r)))
            (λ m. inl (by_renew h stamp version got points m lt r))

    pub renew_sent_duty : Duty c w e (w.instance e.who).next_session (outcome s token (renew ∷ []) w.place)
    renew_sent_duty = record {
      fence = λ g. a.live.below e.number g;
      link = link_same a (ap is_used bound);
      sends = each_of_one (Sent c w e s (outcome s token (renew ∷ []) w.place)) renew (record {
        own = refl;
        far = refl;
        sound = record {
          tied = record { mine = record { engaged = ap is_engaged bound; far = refl }; theirs = (good a).bound bound };
          rests = record { taken = w.time; reading = a.inv.present e.who a.live.running; no_later = omega arith };
          announced = omega arith;
          took = omega arith;
        };
      });
      token = renew_token;
      place = renew_place;
    }
