-- After a deed each frame is sound, and each flight.
use Rattle.std.proofs.Common.{◌≡◌, ℕ, ◌<◌, ◌≤◌, true, Some, ◌⊎◌, refl, sym, ap, ◌∙◌, subst, inl, inr, ⊎_elim, arith}
use Rattle.std.proofs.lemmas.Bool.{both_ways}
use Rattle.ring_points.specs.declared.who.Who.{Who}
use Rattle.ring_points.specs.declared.who.Ruling.TheVariants.{Granted, Taken, Refused}
use Rattle.fabric_lemmas.specs.Members.{IsMember}
use Rattle.ring_machine.specs.Points.{Points}
use Rattle.ring_machine.specs.Ends.{End}
use Rattle.ring_machine.specs.Slots.{Slot, Flight, Asking, of_flight, is_used, is_settled, is_engaged, is_active, is_willing}
use Rattle.ring_machine.specs.Frames.{Frame, Hello, Offer, Take, Renew, RenewAck, Transfer, Gone, Accuse, Ruled, RoundClaim, Kept}
use Rattle.ring_machine.specs.World.{Settings, Instance, World, InFlight, Dead, slot}
use Rattle.ring_machine.specs.Effects.{Outcome}
use Rattle.ring_machine.specs.Sessions.{Tied, BothTied, Closed, ClosedTo, elsewhere, over}
use Rattle.ring_machine.specs.SoundFlights.{IsWhole, Lost, SoundFlight}
use Rattle.ring_machine.specs.SoundFrames.{SoundHello, SoundOffer, SoundRenew, SoundAck, Transferable, SoundTransfer, SoundGone, SoundRuling, SoundFrame}
use Rattle.ring_machine.proofs.Whos.{apart_ends}
use Rattle.ring_machine.proofs.States.{implied}
use Rattle.ring_machine.proofs.Later.{tied_later, both_tied_later, closed_later, hello_later, offer_later, renew_later, ack_later, gone_later, open_later}
use Rattle.ring_machine.proofs.Duty.{Deeded, SentHello, SentOffer, SentTake, SentRenew, SentAck, SentTransfer, SentGone}
use Rattle.ring_machine.proofs.Stepped.{next_world, slot_cases, own_slot, other_slot, own_instance, other_instance, sent_cases, later, new_tie, far_apart}

-- who is closed to its tied far end wants no Renew of it
pub closed_deaf : (w : World) (h g : End) → Tied w h g → is_willing (slot w h).state ≡ true → Closed w h g → ⊥
closed_deaf w h g tie wi (elsewhere s n) = n tie.far
closed_deaf w h g tie wi (over s q) = both_ways _ q.deaf wi

module _ {c : Settings} {w : World} {e : End} {next : ℕ} {out : Outcome} (d : Deeded c w e next out) where
  abbrev t : Slot
  t = out.slot

  -- who wants a Renew of its far end wanted it before
  willing_before : (h g : End) → is_willing (slot (next_world d) h).state ≡ true → Tied w h g → is_willing (slot w h).state ≡ true
  willing_before h g wi tie = (later d).willing h (implied is_engaged is_settled refl (slot w h).state tie.engaged) wi

  -- an old flight flies on, unless its taker has it, or will never take it
  fly_on : (g h : End) (number p : ℕ) → (slot w g).far ≡ h → w.place p ≡ InFlight g h number → (slot (next_world d) h).got < number →
      (out.place p ≡ InFlight g h number) ⊎ ((g ≡ e) × (Dead c (w.instance (slot w e).far.who) ⊎ Closed w (slot w e).far e))
  fly_on g h number p far i lt = ⊎_elim (λ a. inl a)
      (λ r. ⊎_elim
      (λ (a : BothTied w g e × (number ≤ t.got)).
      let b : e ≡ h = sym a.0.mine.far ∙ far in
      let k : (slot (next_world d) h).got ≡ t.got = ap (λ (h : End). (slot (next_world d) h).got) (sym b) ∙ ap (λ (s : Slot). s.got) (own_slot d) in
      let le = a.1 in absurd (omega arith))
      (λ a. inr a)
      r)
      (d.duty.place.flies g h number p i)

  -- a number below the counter is of an old flight
  whole_after : (g : End) (number : ℕ) (part : Points) → number < (w.instance g.who).token.next_flight → IsWhole w.place g number part →
      IsWhole out.place g number part
  whole_after g number part lt whole u h p who i = ⊎_elim
      (λ old. whole u h p who old)
      (λ new.
      absurd
      (let own : e.who ≡ g.who = ap (λ (g : End). g.who) (sym new.0) ∙ who in let le = new.1 in let same = ap (λ (y : Who). (w.instance y).token.next_flight) own in omega arith))
      (d.duty.place.flew u h number p i)

  transfer_after : (g h : End) (number : ℕ) (part : Points) → SoundTransfer c w g h number part → SoundTransfer c (next_world d) g h number part
  transfer_after g h number part r = record {
    tied = both_tied_later (later d) g h r.tied;
    transferable =
        let f = r.transferable in record {
          numbered = let a = f.numbered in let b = (later d).next_flights g.who in omega arith;
          flying = λ p lives wi lt i.
              let before : Dead c (w.instance h.who) → ⊥ = λ a. lives ((later d).dies h.who a) in
              let was = willing_before h g wi r.tied.theirs in
              let le = (later d).gots h in
              ⊎_elim (λ a. a)
              (λ a. absurd (
              let far : h ≡ (slot w e).far = sym r.tied.mine.far ∙ ap (λ (g : End). (slot w g).far) a.0 in
              ⊎_elim
              (λ (b : Dead c (w.instance (slot w e).far.who)). before (subst (λ (h : End). Dead c (w.instance h.who)) (sym far) b))
              (λ (b : Closed w (slot w e).far e).
              closed_deaf w h g r.tied.theirs was (subst (λ (u : End × End). Closed w u.0 u.1) (λ i. (sym far i, sym a.0 i)) b))
              a.1))
              (fly_on g h number p r.tied.mine.far (f.flying p before was (omega arith) i) lt);
          whole = whole_after g number part f.numbered f.whole;
          same =
              slot_cases d
              (λ g s. number < (w.instance g.who).token.next_flight → ((l : Flight) → (slot w g).flight ≡ Some l → l.number ≡ number → (p : ℕ) → l.part p ≡ true → part p ≡ true) →
              (l : Flight) → s.flight ≡ Some l → l.number ≡ number → (p : ℕ) → l.part p ≡ true → part p ≡ true)
              (λ lt old l is is_number.
              ⊎_elim (λ (a : (slot w e).flight ≡ Some l). old l a is_number)
              (λ (a : (w.instance e.who).token.next_flight ≤ l.number). absurd (omega arith)) (d.duty.token.flight l is))
              (λ g m lt old. old)
              g f.numbered f.same;
          last =
              slot_cases d
              (λ g s.
              number < (w.instance g.who).token.next_flight → ((l : Flight) → (slot w g).flight ≡ Some l → number ≤ l.number) →
              (l : Flight) → s.flight ≡ Some l → number ≤ l.number)
              (λ lt old l is.
              ⊎_elim (λ (a : (slot w e).flight ≡ Some l). old l a)
              (λ (a : (w.instance e.who).token.next_flight ≤ l.number). omega arith) (d.duty.token.flight l is))
              (λ g m lt old. old)
              g f.numbered f.last;
        };
  }

  ruling_after : (a : ℕ) (x y z : Who) → SoundRuling w a x y z → SoundRuling (next_world d) a x y z
  ruling_after a x y z r = record {
    kept = r.kept;
    no_cross = λ h. r.no_cross (⊎_elim
        (λ m. inl (⊎_elim (λ new. absurd (d.duty.sends (Ruled a y x Granted) new)) (λ old. old) (sent_cases d _ m)))
        (λ m. inr (⊎_elim (λ new. absurd (d.duty.sends (Ruled a y x Taken) new)) (λ old. old) (sent_cases d _ m)))
        h);
  }

  old_frame : (f : Frame) → SoundFrame c w f → SoundFrame c (next_world d) f
  old_frame (Hello g node len) h = hello_later (later d) g node len h
  old_frame (Offer f g len) h = offer_later (later d) f g len h
  old_frame (Take f g) h = both_tied_later (later d) f g h
  old_frame (Renew f g stamp version got points) h = renew_later (later d) f g stamp version got h
  old_frame (RenewAck f g stamp version) h = ack_later (later d) f g stamp version h
  old_frame (Transfer f g number part) h = transfer_after f g number part h
  old_frame (Gone f g got bound) h = gone_later (later d) f g got h
  old_frame (Accuse x y) h = h
  old_frame (Ruled a x y Granted) h = ruling_after a x y x h
  old_frame (Ruled a x y Taken) h = (h.0, ruling_after a x y h.0 h.1)
  old_frame (Ruled a x y Refused) h = h
  old_frame (RoundClaim x y round) h = open_later (later d) y round h
  old_frame (Kept a y round x) h = record { kept = h.kept; is_open = open_later (later d) y round h.is_open }

  new_transfer : (g : End) (number : ℕ) (part : Points) → BothTied w e g →
      Transferable c (w.instance g.who) out.token.next_flight (is_willing (slot w g).state) out.place t.flight (slot w g).got e g number
      part → SoundTransfer c (next_world d) e g number part
  new_transfer g number part tied r =
      let apart = far_apart d g tied.mine in
      let their_slot : slot w g ≡ slot (next_world d) g = sym (other_slot d g (apart_ends e g apart)) in
      let their_instance : w.instance g.who ≡ (next_world d).instance g.who = sym (other_instance d g.who apart) in
      let counter : out.token.next_flight ≡ ((next_world d).instance e.who).token.next_flight =
      sym (ap (λ (i : Instance). i.token.next_flight) (own_instance d)) in
      let my_slot : t ≡ slot (next_world d) e = sym (own_slot d) in
      record {
        tied = both_tied_later (later d) e g tied;
        transferable =
            subst (λ (T : Type 0). T)
            (λ i.
            Transferable c (their_instance i) (counter i) (is_willing (their_slot i).state) out.place (my_slot i).flight
            (their_slot i).got e g number part)
            r;
      }

  new_frame : (f : Frame) → IsMember f out.sent → SoundFrame c (next_world d) f
  new_frame (Hello g node len) m =
      let h : SentHello e t g node len = d.duty.sends (Hello g node len) m in
      subst (λ g. SoundHello (next_world d) g node len) (sym h.own)
      (subst (λ (s : Slot). (is_used s.state ≡ true) → (s.state ≡ Asking → s.far.who.actor ≡ node) → (s.state ≡ Asking → s.len ≡ len) → SoundHello (next_world d) e node len) (own_slot d)
      (λ a b k. record { used = a; asks_node = b; asks_length = k }) d.duty.link.used h.asks_node h.asks_length)
  new_frame (Offer f g len) m =
      let h : SentOffer e t f g len = d.duty.sends (Offer f g len) m in
      subst (λ f. SoundOffer (next_world d) f g len) (sym h.own) (record {
        tied = new_tie d g h.engaged h.far;
        length = ap (λ (s : Slot). s.len) (own_slot d) ∙ h.length;
      })
  new_frame (Take f g) m =
      let h : SentTake w e t f g = d.duty.sends (Take f g) m in
      subst (λ f. BothTied (next_world d) f g) (sym h.own) (record { mine = new_tie d g h.engaged h.far; theirs = tied_later (later d) g e h.back })
  new_frame (Renew f g stamp version got points) m =
      let h : SentRenew w e (slot w e) f g stamp version got = d.duty.sends (Renew f g stamp version got points) m in
      subst (λ f. SoundRenew (next_world d) f g stamp version got) (sym h.own) (renew_later (later d) e g stamp version got h.sound)
  new_frame (RenewAck f g stamp version) m =
      let h : SentAck w e (slot w e) t f g stamp version = d.duty.sends (RenewAck f g stamp version) m in
      let r = ack_later (later d) e g stamp 0 h.sound in
      subst (λ f. SoundAck (next_world d) f g stamp version) (sym h.own) (record {
        tied = r.tied;
        rests = r.rests;
        recorded = subst (λ (s : Slot). version ≤ s.held_version) (sym (own_slot d)) h.recorded;
      })
  new_frame (Transfer f g number part) m =
      let h : SentTransfer c w e (slot w e) out f g number part = d.duty.sends (Transfer f g number part) m in
      subst (λ f. SoundTransfer c (next_world d) f g number part) (sym h.own) (new_transfer g number part h.tied h.transferable)
  new_frame (Gone f g got bound) m =
      let h : SentGone w e t f g got = d.duty.sends (Gone f g got bound) m in
      subst (λ f. SoundGone (next_world d) f g got) (sym h.own) (record {
        closed = subst (λ (s : Slot). ClosedTo g s.far s.state s.held s.flight) (sym (own_slot d)) h.closed;
        took = ⊎_elim (λ a. inl (subst (λ (s : Slot). s.far ≡ g → s.got ≤ got) (sym (own_slot d)) a)) (λ a. inr (closed_later (later d) g e a)) h.took;
        used = (later d).uses g h.used;
      })
  new_frame (Accuse x y) m = d.duty.sends (Accuse x y) m
  new_frame (Ruled a x y r) m = absurd (d.duty.sends (Ruled a x y r) m)
  new_frame (RoundClaim x y round) m = open_later (later d) y round (d.duty.sends (RoundClaim x y round) m)
  new_frame (Kept a y round x) m = absurd (d.duty.sends (Kept a y round x) m)

  pub frames_after : (f : Frame) → IsMember f (next_world d).sent → SoundFrame c (next_world d) f
  frames_after f m = ⊎_elim (λ new. new_frame f new) (λ old. old_frame f (d.inv.frames f old)) (sent_cases d f m)

  own_flight : (h : End) (l : Flight) → t.far ≡ h → t.flight ≡ Some l → (Lost c (next_world d) e h → ⊥) →
      SoundFlight ((next_world d).instance e.who).token.next_flight out.place (slot (next_world d) h).got e h l
  own_flight h l far is stands =
      let r = d.duty.place.flight l is in
      let active = d.duty.link.claims (of_flight l is) in
      let apart = d.duty.link.apart (implied is_active is_engaged refl t.state active) in
      let counter : out.token.next_flight ≡ ((next_world d).instance e.who).token.next_flight =
      sym (ap (λ (i : Instance). i.token.next_flight) (own_instance d)) in
      let got : (slot w t.far).got ≡ (slot (next_world d) h).got =
      sym (ap (λ (s : Slot). s.got) (other_slot d t.far (apart_ends e t.far apart))) ∙ ap (λ (h : End). (slot (next_world d) h).got) far in
      subst (λ (T : Type 0). T) (λ i. SoundFlight (counter i) out.place (got i) e (far i) l) r

  other_flight : (g h : End) (l : Flight) → (e ≡ g → ⊥) → (slot w g).far ≡ h → (slot w g).flight ≡ Some l → (Lost c (next_world d) g h → ⊥) →
      SoundFlight ((next_world d).instance g.who).token.next_flight out.place (slot (next_world d) h).got g h l
  other_flight g h l n far is stands =
      let r = d.inv.flights g h l far is (λ lost. stands ((later d).dies g.who lost.0, (later d).dies h.who lost.1)) in record {
        numbered = let a = r.numbered in let b = (later d).next_flights g.who in omega arith;
        flying = λ lt p i. let le = (later d).gots h in ⊎_elim (λ a. a) (λ a. absurd (n (sym a.0))) (fly_on g h l.number p far (r.flying (omega arith) p i) lt);
        whole = whole_after g l.number l.part r.numbered r.whole;
      }

  pub flights_after : (g h : End) (l : Flight) → (slot (next_world d) g).far ≡ h → (slot (next_world d) g).flight ≡ Some l →
      (Lost c (next_world d) g h → ⊥) →
      SoundFlight ((next_world d).instance g.who).token.next_flight out.place (slot (next_world d) h).got g h l
  flights_after g h l =
      slot_cases d
      (λ g s. s.far ≡ h → s.flight ≡ Some l → (Lost c (next_world d) g h → ⊥) → SoundFlight ((next_world d).instance g.who).token.next_flight out.place (slot (next_world d) h).got g h l)
      (own_flight h l) (λ g n. other_flight g h l n) g

  pub flown_after : (g h : End) (number p : ℕ) → out.place p ≡ InFlight g h number → number < ((next_world d).instance g.who).token.next_flight
  flown_after g h number p i = ⊎_elim
      (λ old. let a = d.inv.flown g h number p old in let b = (later d).next_flights g.who in omega arith)
      (λ new.
      subst (λ (g : End). number < ((next_world d).instance g.who).token.next_flight) (sym new.0)
      (subst (λ (i : Instance). number < i.token.next_flight) (sym (own_instance d)) new.2))
      (d.duty.place.flew g h number p i)
