-- The ring comes back: all its points are at one instance, and whoever was born is dead.
use Rattle.std.proofs.Common.{◌≡◌, ℕ, true, Some, refl, sym, ap, ◌∙◌, false, Bool}
use Rattle.std.proofs.lemmas.Bool.{cond_both}
use Rattle.ring_points.specs.declared.who.Who.{Who}
use Rattle.ring_points.specs.declared.who.Ruling.TheVariants.{Granted, Taken, Refused}
use Rattle.ring_machine.specs.Points.{is_point}
use Rattle.ring_machine.specs.Ends.{End}
use Rattle.ring_machine.specs.Slots.{Flight, of_record, of_flight, is_used, is_active, is_willing, is_engaged}
use Rattle.ring_machine.specs.Frames.{Frame, Hello, Offer, Take, Renew, RenewAck, Transfer, Gone, Accuse, Ruled, RoundClaim, Kept}
use Rattle.ring_machine.specs.World.{Settings, Instance, World, Place, At, InFlight, Outside, Live, Dead, slot}
use Rattle.ring_machine.specs.Events.{come_back}
use Rattle.ring_machine.specs.Claims.{Claim, by_record, by_renew, by_flight, claimant_dead}
use Rattle.ring_machine.specs.Leases.{SoundHeir}
use Rattle.ring_machine.specs.SoundSlots.{SoundSlot}
use Rattle.ring_machine.specs.SoundFlights.{IsWhole}
use Rattle.ring_machine.specs.SoundFrames.{SoundFrame}
use Rattle.ring_machine.specs.Invariant.{Invariant}
use Rattle.ring_machine.proofs.Later.{Later, later_refl, tied_later, both_tied_later, closed_later, freed_later, hello_later, offer_later, renew_later, ack_later, gone_later}
use Rattle.ring_machine.proofs.States.{implied}

module _ {c : Settings} {w : World} (inv : Invariant c w) (x : Who) where
  abbrev back : World
  back = come_back w x

  -- where each point is
  placed : (p : ℕ) (P : Place → Type 0) → (is_point p ≡ true → P (At x)) → (is_point p ≡ false → P Outside) → P (back.place p)
  placed p P on off = cond_both (is_point p) (At x) Outside P on off

  none_flies : (e f : End) (number p : ℕ) → back.place p ≡ InFlight e f number → ⊥
  none_flies e f number p = placed p (λ o. o ≡ InFlight e f number → ⊥) (λ i j. cc (j)) (λ i j. cc (j))

  all_whole : (e : End) (number : ℕ) (part : ℕ → Bool) → IsWhole back.place e number part
  all_whole e number part g h p same flies = absurd (none_flies g h number p flies)

  pub back_later : Later c w back
  back_later = let l = later_refl c w in record {
    time = l.time;
    sent = l.sent;
    pairs = l.pairs;
    dies = l.dies;
    versions = l.versions;
    next_flights = l.next_flights;
    uses = l.uses;
    asks = l.asks;
    engages = l.engages;
    settles = l.settles;
    far = l.far;
    len = l.len;
    willing = l.willing;
    quiets = l.quiets;
    still = l.still;
    held_versions = l.held_versions;
    gots = l.gots;
  }

  module _ (none : (y : Who) → Live c (w.instance y) → ⊥) where
    -- who has a slot is dead
    dead : (e : End) → is_used (slot w e).state ≡ true → Dead c (w.instance e.who)
    dead e used = record {
      born = λ h. let blank = ap (λ (i : Instance). is_used (i.slots e.number).state) (inv.blank e.who h) in cc (used, blank);
      not_live = none e.who;
    }

    -- who claims something has a slot
    claimant : (e f : End) (p : ℕ) → Claim w.sent e f (slot w e) (slot w f).got p → is_used (slot w e).state ≡ true
    claimant e f p (by_record r) = implied is_active is_used refl (slot w e).state ((inv.slots e).claims (of_record p r))
    claimant e f p (by_renew h stamp version got points m lt r) = implied is_willing is_used refl (slot w e).state h
    claimant e f p (by_flight l i le r) = implied is_active is_used refl (slot w e).state ((inv.slots e).claims (of_flight l i))

    heir_back : (e f : End) (len ripe : ℕ) → SoundHeir c w e f len ripe → SoundHeir c back e f len ripe
    heir_back e f len ripe r = record {
      answered = r.answered;
      keeps = r.keeps;
      since = r.since;
      begun = r.begun;
      reading = r.reading;
      waits = r.waits;
      lease = r.lease;
      acks = r.acks;
    }

    slot_back : (e : End) → SoundSlot c back e (slot back e)
    slot_back e =
        let s = inv.slots e in
        record {
          numbered = s.numbered;
          far_used = s.far_used;
          apart = s.apart;
          touched = λ h. tied_later back_later (slot w e).far e (s.touched h);
          bound = λ h. tied_later back_later (slot w e).far e (s.bound h);
          asker = s.asker;
          agreed = λ h tie. s.agreed h (record { engaged = tie.engaged; far = tie.far });
          plain = s.plain;
          recorded = s.recorded;
          leased = s.leased;
          discharged = s.discharged;
          heir = λ h. heir_back e (slot w e).far (slot w e).len (slot w e).ripe (s.heir h);
          heir_claims = s.heir_claims;
          claims = s.claims;
          parting = s.parting;
          parted = λ h. let k = s.parted h in (k.0, k.1, closed_later back_later (slot w e).far e k.2);
          acked = s.acked;
          version = s.version;
          got = s.got;
          freed = λ h g. freed_later back_later e (slot w e).far (s.freed h g);
        }

    frame_back : (f : Frame) → SoundFrame c w f → SoundFrame c back f
    frame_back (Hello e node len) h = hello_later back_later e node len h
    frame_back (Offer f e len) h = offer_later back_later f e len h
    frame_back (Take e f) h = both_tied_later back_later e f h
    frame_back (Renew f e stamp version got points) h = renew_later back_later f e stamp version got h
    frame_back (RenewAck e f stamp version) h = ack_later back_later e f stamp version h
    frame_back (Transfer e f number part) h = record {
      tied = both_tied_later back_later e f h.tied;
      transferable = record {
        numbered = h.transferable.numbered;
        flying = λ p lives wi lt i. absurd (lives (dead f (implied is_engaged is_used refl (slot w f).state h.tied.theirs.engaged)));
        whole = all_whole e number part;
        same = h.transferable.same;
        last = h.transferable.last;
      };
    }
    frame_back (Gone e f got bound) h = gone_later back_later e f got h
    frame_back (Accuse y z) h = h
    frame_back (Ruled a y z Granted) h = record { kept = h.kept; no_cross = h.no_cross }
    frame_back (Ruled a y z Taken) h = (h.0, record { kept = h.1.kept; no_cross = h.1.no_cross })
    frame_back (Ruled a y z Refused) h = h
    frame_back (RoundClaim y z round) h = h
    frame_back (Kept a y round z) h = record { kept = h.kept; is_open = h.is_open }

    -- a session with a flight is one of two that are dead
    lost : (e f : End) (l : Flight) → (slot w e).far ≡ f → (slot w e).flight ≡ Some l → Dead c (w.instance e.who) × Dead c (w.instance f.who)
    lost e f l far is =
        let active = (inv.slots e).claims (of_flight l is) in
        let used = (inv.slots e).far_used (implied is_active is_engaged refl (slot w e).state active) in
        (dead e (implied is_active is_used refl (slot w e).state active), dead f (ap (λ f. is_used (slot w f).state) (sym far) ∙ used))

    pub back_keeps : Invariant c back
    back_keeps = record {
      owned = λ y p l. absurd (none y l);
      exact = λ y p l. absurd (none y l);
      unborn_place = λ y p h.
          placed p (λ o. o ≡ At y → (y ≡ x) × (is_point p ≡ true)) (λ i j. let same : x ≡ y = cc (j) in (sym same, i)) (λ i j. absurd (cc (j)));
      whole_ring = λ p h q. placed p (λ o. o ≡ At x) (λ i. refl) (λ i. absurd (cc (q, i)));
      inside = λ p h. placed p (λ o. o ≡ Outside → ⊥) (λ i j. cc (j)) (λ i j. cc (h, i));
      not_started = inv.not_started;
      no_zeroth = inv.no_zeroth;
      blank = inv.blank;
      clocks = inv.clocks;
      present = inv.present;
      slots = slot_back;
      frames = λ f m. frame_back f (inv.frames f m);
      single = inv.single;
      backed = λ e f p far claim. claimant_dead (dead e (claimant e f p claim));
      flights = λ e f l far is stands. absurd (stands (lost e f l far is));
      flown = λ e f number p i. absurd (none_flies e f number p i);
      counted = inv.counted;
      tokens = inv.tokens;
      freezes = λ f e z is tied.
          let k = inv.freezes f e z is (record {
            mine = record { engaged = tied.mine.engaged; far = tied.mine.far };
            theirs = record { engaged = tied.theirs.engaged; far = tied.theirs.far };
          }) in
          record { renews = k.renews; confirms = k.confirms; acks = k.acks; settled = k.settled; recorded = k.recorded };
    }
