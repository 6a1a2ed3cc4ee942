-- What only arbitrators do changes their tables and sends their answers: a world after it, and what is left to show of it.
use Rattle.std.proofs.Common.{◌≡◌, ℕ, Bool, true, false, List, ◌++◌, Option, refl, inl, ⊎_elim}
use Rattle.std.proofs.lemmas.Bool.{both_ways}
use Rattle.ring_points.specs.declared.who.Who.{Who}
use Rattle.ring_points.specs.declared.who.Ruling.TheVariants.{Granted, Taken, Refused}
use Rattle.fabric_lemmas.specs.Members.{IsMember}
use Rattle.ring_machine.specs.Ends.{End}
use Rattle.ring_machine.specs.Frames.{Frame, Hello, Offer, Take, Renew, RenewAck, Transfer, Gone, Accuse, Ruled, RoundClaim, Kept}
use Rattle.ring_machine.specs.World.{Settings, World, slot}
use Rattle.ring_machine.specs.Claims.{Claim, by_record, by_renew, by_flight}
use Rattle.ring_machine.specs.Leases.{SoundHeir}
use Rattle.ring_machine.specs.SoundSlots.{SoundSlot}
use Rattle.ring_machine.specs.SoundFrames.{SoundRuling, SoundKept, SoundFrame}
use Rattle.ring_machine.specs.Invariant.{Invariant}
use Rattle.ring_machine.proofs.Lists.{IsMember-append_right, IsMember-append_cases}
use Rattle.ring_machine.proofs.Later.{Later, later_refl, tied_later, both_tied_later, closed_later, heir_by_later, answered_by_later, freed_later, backed_later, hello_later, offer_later, renew_later, ack_later, gone_later, open_later}

-- an arbitrator's answer
abbrev pub is_answer : Frame → Bool
is_answer (Ruled a to victim ruling) = true
is_answer (Kept a victim round claimer) = true
is_answer (Hello from node len) = false
is_answer (Offer from to len) = false
is_answer (Take from to) = false
is_answer (Renew from to stamp version got points) = false
is_answer (RenewAck from to stamp version) = false
is_answer (Transfer from to number part) = false
is_answer (Gone from to got bound) = false
is_answer (Accuse from victim) = false
is_answer (RoundClaim from victim round) = false

module _ {c : Settings} {w : World} (inv : Invariant c w) (first_accuser : ℕ → Who → Option Who) (first_claimer : ℕ → Who → ℕ → Option Who)
    (answers : List Frame) (are : (f : Frame) → IsMember f answers → is_answer f ≡ true) where
  abbrev pub arbitrated : World
  arbitrated = record w { first_accuser = first_accuser; first_claimer = first_claimer; sent = answers ++ w.sent }

  pub arbitrated_later : Later c w arbitrated
  arbitrated_later =
      let still = later_refl c w in record {
        time = still.time;
        sent = λ f m. IsMember-append_right f answers w.sent m;
        pairs = still.pairs;
        dies = still.dies;
        versions = still.versions;
        next_flights = still.next_flights;
        uses = still.uses;
        asks = still.asks;
        engages = still.engages;
        settles = still.settles;
        far = still.far;
        len = still.len;
        willing = still.willing;
        quiets = still.quiets;
        still = still.still;
        held_versions = still.held_versions;
        gots = still.gots;
      }

  -- what was known of each answer of before is known still
  pub record TablesStay : Type 0 where
    pub granted : (a : ℕ) (x y : Who) → SoundRuling w a x y x → SoundRuling arbitrated a x y x
    pub taken : (a : ℕ) (x y z : Who) → SoundRuling w a x y z → SoundRuling arbitrated a x y z
    pub kept : (a : ℕ) (y : Who) (round : ℕ) (x : Who) → SoundKept c w a y round x → SoundKept c arbitrated a y round x

  old_frame : TablesStay → (f : Frame) → SoundFrame c w f → SoundFrame c arbitrated f
  old_frame t (Hello e node len) h = hello_later arbitrated_later e node len h
  old_frame t (Offer f e len) h = offer_later arbitrated_later f e len h
  old_frame t (Take e f) h = both_tied_later arbitrated_later e f h
  old_frame t (Renew f e stamp version got points) h = renew_later arbitrated_later f e stamp version got h
  old_frame t (RenewAck e f stamp version) h = ack_later arbitrated_later e f stamp version h
  old_frame t (Transfer e f number part) h = record { tied = both_tied_later arbitrated_later e f h.tied; transferable = h.transferable }
  old_frame t (Gone e f got bound) h = gone_later arbitrated_later e f got h
  old_frame t (Accuse u z) h = h
  old_frame t (Ruled b u z Granted) h = t.granted b u z h
  old_frame t (Ruled b u z Taken) h = (h.0, t.taken b u z h.0 h.1)
  old_frame t (Ruled b u z Refused) h = h
  old_frame t (RoundClaim u z round) h = open_later arbitrated_later z round h
  old_frame t (Kept b z round u) h = t.kept b z round u h

  -- a frame that is no answer was sent before
  sent_before : (f : Frame) → is_answer f ≡ false → IsMember f arbitrated.sent → IsMember f w.sent
  sent_before f h m = ⊎_elim (λ new. absurd (both_ways _ h (are f new))) (λ old. old) (IsMember-append_cases f answers w.sent m)

  heir_still : (e f : End) (len ripe : ℕ) → SoundHeir c w e f len ripe → SoundHeir c arbitrated e f len ripe
  heir_still e f len ripe r = record {
    answered = answered_by_later arbitrated_later e.who f.who r.answered;
    keeps = heir_by_later arbitrated_later e.who f.who r.keeps;
    since = r.since;
    begun = r.begun;
    reading = r.reading;
    waits = r.waits;
    lease = r.lease;
    acks = λ stamp version m. r.acks stamp version (sent_before (RenewAck e f stamp version) refl m);
  }

  claim_before : (e f : End) (p : ℕ) → Claim arbitrated.sent e f (slot w e) (slot w f).got p → Claim w.sent e f (slot w e) (slot w f).got p
  claim_before e f p (by_record r) = by_record r
  claim_before e f p (by_renew h stamp version got points m lt r) =
      by_renew h stamp version got points (sent_before (Renew f e stamp version got points) refl m) lt r
  claim_before e f p (by_flight l i le r) = by_flight l i le r

  slot_still : (e : End) → SoundSlot c arbitrated e (slot w e)
  slot_still e = let s = inv.slots e in record {
    numbered = s.numbered;
    far_used = s.far_used;
    apart = s.apart;
    touched = λ h. tied_later arbitrated_later (slot w e).far e (s.touched h);
    bound = λ h. tied_later arbitrated_later (slot w e).far e (s.bound h);
    asker = s.asker;
    agreed = λ h t. s.agreed h (record { engaged = t.engaged; far = t.far });
    plain = s.plain;
    recorded = s.recorded;
    leased = s.leased;
    discharged = λ h. let k = s.discharged h in (answered_by_later arbitrated_later e.who (slot w e).far.who k.0, k.1);
    heir = λ h. heir_still e (slot w e).far (slot w e).len (slot w e).ripe (s.heir h);
    heir_claims = s.heir_claims;
    claims = s.claims;
    parting = s.parting;
    parted = λ h. let k = s.parted h in (k.0, k.1, closed_later arbitrated_later (slot w e).far e k.2);
    acked = s.acked;
    version = s.version;
    got = s.got;
    freed = λ h g. freed_later arbitrated_later e (slot w e).far (s.freed h g);
  }

  -- with that, and with each new answer sound, the invariant is kept
  pub arbitrated_keeps : TablesStay → ((f : Frame) → IsMember f answers → SoundFrame c arbitrated f) → Invariant c arbitrated
  arbitrated_keeps t new = record {
    owned = inv.owned;
    exact = inv.exact;
    unborn_place = inv.unborn_place;
    whole_ring = inv.whole_ring;
    inside = inv.inside;
    not_started = inv.not_started;
    no_zeroth = inv.no_zeroth;
    blank = inv.blank;
    clocks = inv.clocks;
    present = inv.present;
    slots = slot_still;
    frames = λ f m. ⊎_elim (λ n. new f n) (λ o. old_frame t f (inv.frames f o)) (IsMember-append_cases f answers w.sent m);
    single = inv.single;
    backed = λ e f p far k. backed_later arbitrated_later e.who f.who p (λ o. inl o) (inv.backed e f p far (claim_before e f p k));
    flights = inv.flights;
    flown = inv.flown;
    counted = inv.counted;
    tokens = inv.tokens;
    freezes = λ f e z is tied.
        let k = inv.freezes f e z is (record {
          mine = record { engaged = tied.mine.engaged; far = tied.mine.far };
          theirs = record { engaged = tied.theirs.engaged; far = tied.theirs.far };
        }) in
        record {
          renews = λ stamp version got points m. k.renews stamp version got points (sent_before (Renew f e stamp version got points) refl m);
          confirms = λ stamp version got points m. k.confirms stamp version got points (sent_before (Renew f e stamp version got points) refl m);
          acks = λ stamp version m. k.acks stamp version (sent_before (RenewAck e f stamp version) refl m);
          settled = k.settled;
          recorded = k.recorded;
        };
  }
