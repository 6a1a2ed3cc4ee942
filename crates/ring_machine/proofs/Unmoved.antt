-- Events in which no slot changes, no point moves and nothing is sent: an instance starts, leaves or stops, or time passes.
use Rattle.std.proofs.Common.{◌≡◌, ℕ, ◌≤◌, true, false, Some, refl, sym, ap, ◌∙◌, subst, inl, arith}
use Rattle.ring_points.specs.declared.who.Who.{Who}
use Rattle.ring_points.specs.declared.who.Ruling.TheVariants.{Granted, Taken, Refused}
use Rattle.fabric_lemmas.specs.Members.{IsMember}
use Rattle.ring_machine.specs.Ends.{End}
use Rattle.ring_machine.specs.Slots.{Slot, Flight, Asking, guards, is_used, is_settled, is_engaged, is_active, is_willing}
use Rattle.ring_machine.specs.Tokens.{Freeze}
use Rattle.ring_machine.specs.Frames.{Frame, Hello, Offer, Take, Renew, RenewAck, Transfer, Gone, Accuse, Ruled, RoundClaim, Kept}
use Rattle.ring_machine.specs.World.{Settings, Instance, World, Dead, slot}
use Rattle.ring_machine.specs.Sessions.{Tied, BothTied, Quiet}
use Rattle.ring_machine.specs.Claims.{Claim, Backed}
use Rattle.ring_machine.specs.Leases.{Leased, SoundHeir}
use Rattle.ring_machine.specs.SoundSlots.{AsksFor, SoundSlot}
use Rattle.ring_machine.specs.SoundFlights.{Lost, SoundFlight, FrozenTo, SoundFreeze}
use Rattle.ring_machine.specs.SoundFrames.{Transferable, SoundFrame}
use Rattle.ring_machine.specs.Invariant.{Invariant}
use Rattle.ring_machine.proofs.Later.{Later, AskedBefore, tied_later, both_tied_later, closed_later, freed_later, rests_later, leased_later, backed_later, hello_later, offer_later, renew_later, ack_later, gone_later, open_later}

-- slots stay, and what else an instance has only grows
pub record Unmoved (c : Settings) (w : World) (time : ℕ) (instance : Who → Instance) : Type 0 where
  pub time_passes : w.time ≤ time
  pub dies : (x : Who) → Dead c (w.instance x) → Dead c (instance x)
  pub pairs : (x : Who) (q : ℕ × ℕ) → IsMember q (w.instance x).pairs → IsMember q (instance x).pairs
  pub slots : (e : End) → (instance e.who).slots e.number ≡ slot w e
  pub counters : (x : Who) → (w.instance x).next_session ≤ (instance x).next_session
  pub versions : (x : Who) → (w.instance x).token.version ≤ (instance x).token.version
  pub next_flights : (x : Who) → (w.instance x).token.next_flight ≤ (instance x).token.next_flight
  pub freezes : (x : Who) (z : Freeze) → (instance x).token.freeze ≡ Some z → (w.instance x).token.freeze ≡ Some z

module _ {c : Settings} {w : World} (inv : Invariant c w) {time : ℕ} (starts : ℕ → ℕ) {instance : Who → Instance} (u : Unmoved c w time instance) where
  abbrev pub unmoved : World
  unmoved = record w { time = time; starts = starts; instance = instance }

  -- what holds of a slot holds of it still
  keep : (P : Slot → Type 0) (e : End) → P (slot w e) → P (slot unmoved e)
  keep P e h = subst P (sym (u.slots e)) h

  keep_both : (P : Slot → Slot → Type 0) (e f : End) → P (slot w e) (slot w f) → P (slot unmoved e) (slot unmoved f)
  keep_both P e f h = subst (λ (T : Type 0). T) (λ i. P (sym (u.slots e) i) (sym (u.slots f) i)) h

  pub unmoved_later : Later c w unmoved
  unmoved_later = record {
    time = u.time_passes;
    sent = λ f m. m;
    pairs = u.pairs;
    dies = u.dies;
    versions = u.versions;
    next_flights = u.next_flights;
    uses = λ e. keep (λ s. is_used (slot w e).state ≡ true → is_used s.state ≡ true) e (λ h. h);
    asks = λ e.
        keep (λ s. is_used (slot w e).state ≡ true → s.state ≡ Asking → AskedBefore (slot w e) s) e
        (λ h i. record { asking = i; far = refl; len = refl });
    engages = λ e. keep (λ s. is_engaged (slot w e).state ≡ true → is_engaged s.state ≡ true) e (λ h. h);
    settles = λ e. keep (λ s. is_settled (slot w e).state ≡ true → is_settled s.state ≡ true) e (λ h. h);
    far = λ e. keep (λ s. is_settled (slot w e).state ≡ true → s.far ≡ (slot w e).far) e (λ h. refl);
    len = λ e. keep (λ s. is_settled (slot w e).state ≡ true → s.len ≡ (slot w e).len) e (λ h. refl);
    quiets = λ e.
        keep
        (λ s. is_settled (slot w e).state ≡ true → Quiet (slot w e).state (slot w e).held (slot w e).flight → Quiet s.state s.held s.flight)
        e (λ h q. q);
    willing = λ e. keep (λ s. is_settled (slot w e).state ≡ true → is_willing s.state ≡ true → is_willing (slot w e).state ≡ true) e (λ h i. i);
    still = λ e. keep (λ s. is_settled (slot w e).state ≡ true → is_willing (slot w e).state ≡ false → s.got ≡ (slot w e).got) e (λ h i. refl);
    held_versions = λ e. keep (λ s. (slot w e).held_version ≤ s.held_version) e (omega arith);
    gots = λ e. keep (λ s. (slot w e).got ≤ s.got) e (omega arith);
  }

  tied_before : (e f : End) → Tied unmoved e f → Tied w e f
  tied_before e f t = record {
    engaged = subst (λ (s : Slot). is_engaged s.state ≡ true) (u.slots e) t.engaged;
    far = ap (λ (s : Slot). s.far) (sym (u.slots e)) ∙ t.far;
  }

  heir_unmoved : (e f : End) (len ripe : ℕ) → SoundHeir c w e f len ripe → SoundHeir c unmoved e f len ripe
  heir_unmoved e f len ripe r = record {
    answered = r.answered;
    keeps = r.keeps;
    since = r.since;
    begun = r.begun;
    reading = u.pairs e.who (r.since, r.begun) r.reading;
    waits = r.waits;
    lease =
        keep (λ s. guards s.state ≡ true → Leased (instance f.who).pairs r.since s.until s.len) f
        (λ g. leased_later unmoved_later f.who r.since r.since (slot w f).until (slot w f).len (omega arith) (r.lease g));
    acks = λ stamp version m. rests_later unmoved_later f.who r.since r.since stamp (omega arith) (r.acks stamp version m);
  }

  pub slots_unmoved : (e : End) → SoundSlot c unmoved e (slot unmoved e)
  slots_unmoved e =
      let s = inv.slots e in
      keep (SoundSlot c unmoved e) e (record {
        numbered = λ h. let n = s.numbered h in let m = u.counters e.who in omega arith;
        far_used = λ h. unmoved_later.uses (slot w e).far (s.far_used h);
        apart = s.apart;
        touched = λ h. tied_later unmoved_later (slot w e).far e (s.touched h);
        bound = λ h. tied_later unmoved_later (slot w e).far e (s.bound h);
        asker = λ h. keep (λ f. f.state ≡ Asking → AsksFor f e.who.actor (slot w e).len) (slot w e).far (s.asker h);
        agreed = λ h tie. s.agreed h (tied_before (slot w e).far e tie) ∙ ap (λ (f : Slot). f.len) (sym (u.slots (slot w e).far));
        plain = s.plain;
        recorded = s.recorded;
        leased = λ g. leased_later unmoved_later e.who w.time time (slot w e).until (slot w e).len u.time_passes (s.leased g);
        discharged = s.discharged;
        heir = λ h. heir_unmoved e (slot w e).far (slot w e).len (slot w e).ripe (s.heir h);
        heir_claims = s.heir_claims;
        claims = s.claims;
        parting = s.parting;
        parted = λ h. let k = s.parted h in (k.0, k.1, closed_later unmoved_later (slot w e).far e k.2);
        acked = let n = s.acked in let m = unmoved_later.held_versions (slot w e).far in omega arith;
        version = let n = s.version in let m = u.versions (slot w e).far.who in omega arith;
        got = let n = s.got in let m = u.next_flights (slot w e).far.who in omega arith;
        freed = λ h g. freed_later unmoved_later e (slot w e).far (s.freed h g);
      })

  pub frames_unmoved : (f : Frame) → IsMember f w.sent → SoundFrame c unmoved f
  frames_unmoved f m = go f (inv.frames f m)
    where
      go : (f : Frame) → SoundFrame c w f → SoundFrame c unmoved f
      go (Hello e node len) h = hello_later unmoved_later e node len h
      go (Offer f e len) h = offer_later unmoved_later f e len h
      go (Take e f) h = both_tied_later unmoved_later e f h
      go (Renew f e stamp version got points) h = renew_later unmoved_later f e stamp version got h
      go (RenewAck e f stamp version) h = ack_later unmoved_later e f stamp version h
      go (Transfer e f number part) h = record {
        tied = both_tied_later unmoved_later e f h.tied;
        transferable = let t = h.transferable in
            keep_both
            (λ s r. Transferable c (instance f.who) (instance e.who).token.next_flight (is_willing r.state) w.place s.flight r.got e f number part)
            e f (record {
              numbered = let n = t.numbered in let m = u.next_flights e.who in omega arith;
              flying = λ p lives wi lt i. t.flying p (λ dead. lives (u.dies f.who dead)) wi lt i;
              whole = t.whole;
              same = t.same;
              last = t.last;
            });
      }
      go (Gone e f got bound) h = gone_later unmoved_later e f got h
      go (Accuse x y) h = h
      go (Ruled a x y Granted) h = record { kept = h.kept; no_cross = h.no_cross }
      go (Ruled a x y Taken) h = (h.0, record { kept = h.1.kept; no_cross = h.1.no_cross })
      go (Ruled a x y Refused) h = h
      go (RoundClaim x y round) h = open_later unmoved_later y round h
      go (Kept a y round x) h = record { kept = h.kept; is_open = open_later unmoved_later y round h.is_open }

  pub backed_unmoved : (e f : End) (p : ℕ) → (slot unmoved e).far ≡ f → Claim w.sent e f (slot unmoved e) (slot unmoved f).got p →
      Backed c unmoved e.who f.who p
  backed_unmoved e f p = keep_both (λ s t. s.far ≡ f → Claim w.sent e f s t.got p → Backed c unmoved e.who f.who p) e f
      (λ far claim. backed_later unmoved_later e.who f.who p (λ o. inl o) (inv.backed e f p far claim))

  pub flights_unmoved : (e f : End) (l : Flight) → (slot unmoved e).far ≡ f → (slot unmoved e).flight ≡ Some l → (Lost c unmoved e f → ⊥) →
      SoundFlight (instance e.who).token.next_flight w.place (slot unmoved f).got e f l
  flights_unmoved e f l = keep_both (λ s t. s.far ≡ f → s.flight ≡ Some l → (Lost c unmoved e f → ⊥) → SoundFlight (instance e.who).token.next_flight w.place t.got e f l) e f
      (λ far is stands.
      let r = inv.flights e f l far is (λ lost. stands (u.dies e.who lost.0, u.dies f.who lost.1)) in
      record { numbered = let n = r.numbered in let m = u.next_flights e.who in omega arith; flying = r.flying; whole = r.whole })

  pub freezes_unmoved : (f e : End) (z : Freeze) → (instance f.who).token.freeze ≡ Some z → BothTied unmoved f e → SoundFreeze unmoved f e z
  freezes_unmoved f e z is tied = keep_both (λ s t. FrozenTo w.sent f e z s.got s.acked t.flight t.held_version t.held) f e
      (inv.freezes f e z (u.freezes f.who z is) (record { mine = tied_before f e tied.mine; theirs = tied_before e f tied.theirs }))

  pub single_unmoved : (e f : End) → e.who ≡ f.who → is_active (slot unmoved e).state ≡ true → is_active (slot unmoved f).state ≡ true →
      (slot unmoved e).far.who ≡ (slot unmoved f).far.who → e ≡ f
  single_unmoved e f who = keep_both (λ s t. is_active s.state ≡ true → is_active t.state ≡ true → s.far.who ≡ t.far.who → e ≡ f) e f (inv.single e f who)
