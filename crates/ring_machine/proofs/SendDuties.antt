-- Deeds that only send.
use Rattle.std.proofs.Common.{◌≡◌, ℕ, ◌≤◌, true, false, [], ◌∷◌, Option, Some, ◌⊎◌, refl, sym, ap, subst, inl, inr, ⊎_elim, arith}
use Rattle.fabric_lemmas.specs.Members.{IsMember}
use Rattle.ring_machine.specs.Ends.{End}
use Rattle.ring_machine.specs.Slots.{Slot, Flight, Asking, Offered, Bound, Parting, is_used, is_engaged, is_settled, is_willing, is_tallying}
use Rattle.ring_machine.specs.Frames.{Frame, Hello, Offer, Take, Renew, Transfer, Gone, Accuse, RoundClaim, ends_of}
use Rattle.ring_machine.specs.World.{Settings, World, slot}
use Rattle.ring_machine.specs.Arbitration.{IsOpen}
use Rattle.ring_machine.specs.Guards.{Came, IsUnknown, other_session, abandoned, parted}
use Rattle.ring_machine.specs.Sessions.{Tied, BothTied, Closed, ClosedTo, elsewhere, over}
use Rattle.ring_machine.specs.SoundFrames.{SoundOffer, SoundRenew, SoundTransfer, SoundGone}
use Rattle.ring_machine.specs.Invariant.{Invariant}
use Rattle.ring_machine.specs.Effects.{outcome}
use Rattle.ring_machine.proofs.Whos.{end_cases}
use Rattle.ring_machine.proofs.States.{implied}
use Rattle.ring_machine.proofs.Duty.{Sent, Duty}
use Rattle.ring_machine.proofs.Acting.{Acting, good, is_renewal, each_of_one, not_lost}
use Rattle.ring_machine.proofs.Shrunk.{sends_duty}

-- both ends of a frame of a session have or had a slot
pub record AreUsed (w : World) (f e : End) : Type 0 where
  pub sender : is_used (slot w f).state ≡ true
  pub receiver : is_used (slot w e).state ≡ true

module _ {c : Settings} {w : World} (inv : Invariant c w) where
  -- what is tied has a used far end
  tied_used : (f e : End) → Tied w f e → AreUsed w f e
  tied_used f e t = record {
    sender = implied is_engaged is_used refl (slot w f).state t.engaged;
    receiver = subst (λ e. is_used (slot w e).state ≡ true) t.far ((inv.slots f).far_used t.engaged);
  }

  pub gone_used : (f e : End) (got : ℕ) → SoundGone w f e got → AreUsed w f e
  gone_used f e got r = record { sender = by_closed r.closed; receiver = r.used }
    where
      by_closed : Closed w f e → is_used (slot w f).state ≡ true
      by_closed (elsewhere h n) = implied is_settled is_used refl (slot w f).state h
      by_closed (over h q) = implied is_settled is_used refl (slot w f).state h

  frame_used : (frame : Frame) → IsMember frame w.sent → (f e : End) → ends_of frame ≡ Some (f, e) → AreUsed w f e
  frame_used frame m f e i = go frame m i
    where
      both : End → End → Option (End × End)
      both g h = Some (g, h)

      same : (g h : End) → AreUsed w g h → both g h ≡ both f e → AreUsed w f e
      same g h r i = let p : (u : End × End) × (u ≡ (f, e)) × AreUsed w u.0 u.1 = ((g, h), cc, r) in subst (λ (u : End × End). AreUsed w u.0 u.1) p.1 p.2

      go : (frame : Frame) → IsMember frame w.sent → ends_of frame ≡ Some (f, e) → AreUsed w f e
      go (Offer g h len) m i = let r : SoundOffer w g h len = inv.frames (Offer g h len) m in same g h (tied_used g h r.tied) i
      go (Take g h) m i = let r : BothTied w g h = inv.frames (Take g h) m in same g h (tied_used g h r.mine) i
      go (Renew g h stamp version got points) m i =
          let r : SoundRenew w g h stamp version got = inv.frames (Renew g h stamp version got points) m in
          same g h (tied_used g h r.tied.mine) i
      go (Transfer g h number part) m i =
          let r : SoundTransfer c w g h number part = inv.frames (Transfer g h number part) m in same g h (tied_used g h r.tied.mine) i
      go (Gone g h got bound) m i = let r : SoundGone w g h got = inv.frames (Gone g h got bound) m in same g h (gone_used g h got r) i
      go frame m i = absurd (cc (i))

  -- of a frame that came, both ends are used
  pub came_used : (f e : End) → Came w.sent f e → AreUsed w f e
  came_used f e came = frame_used came.frame came.was_sent f e came.ends

module _ {c : Settings} {w : World} {e : End} (a : Acting c w e) where
  abbrev s : Slot
  s = slot w e

  -- one frame that is no renewal is sent
  sends_one : (f : Frame) → is_used s.state ≡ true → is_renewal f ≡ false →
      Sent c w e s (outcome s ((w.instance e.who).token) (f ∷ []) w.place) f →
      Duty c w e (w.instance e.who).next_session (outcome s ((w.instance e.who).token) (f ∷ []) w.place)
  sends_one f used is sound = sends_duty a (f ∷ []) used
      (each_of_one (λ g. is_renewal g ≡ false) f is)
      (each_of_one (Sent c w e s (outcome s ((w.instance e.who).token) (f ∷ []) w.place)) f sound)

  pub hello_again : s.state ≡ Asking →
      Duty c w e (w.instance e.who).next_session (outcome s ((w.instance e.who).token) (Hello e s.far.who.actor s.len ∷ []) w.place)
  hello_again h = sends_one (Hello e s.far.who.actor s.len) (ap is_used h) refl (record { own = refl; asks_node = λ i. refl; asks_length = λ i. refl })

  pub offer_again : s.state ≡ Offered → Duty c w e (w.instance e.who).next_session (outcome s ((w.instance e.who).token) (Offer e s.far s.len ∷ []) w.place)
  offer_again h = sends_one (Offer e s.far s.len) (ap is_used h) refl (record { own = refl; engaged = ap is_engaged h; far = refl; length = refl })

  pub take_again : s.state ≡ Bound → Duty c w e (w.instance e.who).next_session (outcome s ((w.instance e.who).token) (Take e s.far ∷ []) w.place)
  take_again h = sends_one (Take e s.far) (ap is_used h) refl (record { own = refl; engaged = ap is_engaged h; far = refl; back = (good a).bound h })

  pub flight_again : s.state ≡ Bound → (l : Flight) → s.flight ≡ Some l →
      Duty c w e (w.instance e.who).next_session (outcome s ((w.instance e.who).token) (Transfer e s.far l.number l.part ∷ []) w.place)
  flight_again h l is = sends_one (Transfer e s.far l.number l.part) (ap is_used h) refl (record {
    own = refl;
    far = refl;
    tied = record { mine = record { engaged = ap is_engaged h; far = refl }; theirs = (good a).bound h };
    transferable = let r = a.inv.flights e s.far l refl is (not_lost a s.far) in record {
      numbered = r.numbered;
      flying = λ p lives wi lt i. r.flying lt p i;
      whole = r.whole;
      same = λ k i n p j. let same : k ≡ l = cc in subst (λ (k : Flight). k.part p ≡ true) same j;
      last = λ k i. let same : k ≡ l = cc in subst (λ (k : Flight). l.number ≤ k.number) (sym same) (omega arith);
    };
  })

  pub gone_again : s.state ≡ Parting → Duty c w e (w.instance e.who).next_session (outcome s ((w.instance e.who).token) (Gone e s.far s.got true ∷ []) w.place)
  gone_again h =
      let parting = (good a).parting h in
      sends_one (Gone e s.far s.got true) (ap is_used h) refl (record {
        own = refl;
        closed = over (ap is_settled h) (record { deaf = ap is_willing h; empty = parting.0; landed = parting.1 });
        took = inl (λ i. omega arith);
        used = (good a).far_used (ap is_engaged h);
      })

  pub accuse_again : is_tallying s.state ≡ true →
      Duty c w e (w.instance e.who).next_session (outcome s ((w.instance e.who).token) (Accuse e.who s.far.who ∷ []) w.place)
  accuse_again h =
      let engaged = implied is_tallying is_engaged refl s.state h in
      sends_one (Accuse e.who s.far.who) (implied is_tallying is_used refl s.state h) refl ((good a).apart engaged)

  -- a round that is open is claimed
  pub round_claimed : (round : ℕ) → is_tallying s.state ≡ true → IsOpen c w.sent s.far.who round →
      Duty c w e (w.instance e.who).next_session (outcome s ((w.instance e.who).token) (RoundClaim e.who s.far.who round ∷ []) w.place)
  round_claimed round h opened = sends_one (RoundClaim e.who s.far.who round) (implied is_tallying is_used refl s.state h) refl opened

  -- what is unknown here is denied
  pub unknown_denied : (from : End) → Came w.sent from e → IsUnknown s from →
      Duty c w e (w.instance e.who).next_session (outcome s ((w.instance e.who).token) (Gone e from 0 false ∷ []) w.place)
  unknown_denied from came unknown =
      let used = came_used a.inv from e came in
      sends_one (Gone e from 0 false) used.receiver refl (record { own = refl; closed = closed unknown; took = took unknown; used = used.sender })
    where
      closed : IsUnknown s from → ClosedTo from s.far s.state s.held s.flight
      closed (other_session settled n) = elsewhere settled n
      closed (abandoned h) = let k = (good a).plain (ap is_engaged h) in over (ap is_settled h) (record {
        deaf = ap is_willing h;
        empty = k.1;
        landed = k.0.flight;
      })
      closed (parted h) = let k = (good a).parted h in over (ap is_settled h) (record { deaf = ap is_willing h; empty = k.0; landed = k.1 })

      took : IsUnknown s from → (s.far ≡ from → s.got ≤ 0) ⊎ Closed w from e
      took (other_session settled n) = inl (λ i. absurd (n i))
      took (abandoned h) = inl (λ i. let k = ((good a).plain (ap is_engaged h)).0.got in omega arith)
      took (parted h) = ⊎_elim (λ i. inr (subst (λ f. Closed w f e) i ((good a).parted h).2)) (λ i. inl (λ j. absurd (i j))) (end_cases s.far from)
