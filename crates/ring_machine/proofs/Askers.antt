-- What frames can come to a slot that still asks.
use Rattle.std.proofs.Common.{◌≡◌, ◌∙◌, ℕ, true, Option, Some, refl, sym, ap, subst}
use Rattle.fabric_lemmas.specs.Members.{IsMember}
use Rattle.ring_machine.specs.Ends.{End}
use Rattle.ring_machine.specs.Slots.{Asking, is_engaged}
use Rattle.ring_machine.specs.Frames.{Frame, Hello, Offer, Take, Renew, RenewAck, Transfer, Gone, Accuse, Ruled, RoundClaim, Kept, ends_of}
use Rattle.ring_machine.specs.World.{Settings, World, slot}
use Rattle.ring_machine.specs.Sessions.{BothTied}
use Rattle.ring_machine.specs.SoundSlots.{AsksFor}
use Rattle.ring_machine.specs.SoundFrames.{SoundOffer, SoundRenew, SoundTransfer}
use Rattle.ring_machine.specs.Invariant.{Invariant}

-- an Offer of the node that it asks, with a length that is no longer than it asked for; or a Gone
abbrev pub ToAsker : World → End → End → Frame → Type 0
ToAsker w f e (Offer g h len) = AsksFor (slot w e) f.who.actor len
ToAsker w f e (Gone g h got bound) = Unit {0}
ToAsker w f e frame = ⊥

module _ {c : Settings} {w : World} (inv : Invariant c w) where
  pub to_asker : (frame : Frame) → IsMember frame w.sent → (f e : End) → ends_of frame ≡ Some (f, e) → (slot w e).state ≡ Asking → ToAsker w f e frame
  to_asker frame m f e i asks = go frame m i
    where
      both : End → End → Option (End × End)
      both g h = Some (g, h)

      -- the ends that a frame names are these
      pair : (g h : End) → both g h ≡ both f e → (u : End × End) × (u ≡ (f, e)) × (u.0 ≡ g) × (u.1 ≡ h)
      pair g h i = ((g, h), cc (i), refl, refl)

      from_is : (g h : End) → both g h ≡ both f e → g ≡ f
      from_is g h i = let p = pair g h i in sym p.2 ∙ ap (λ (u : End × End). u.0) p.1

      to_is : (g h : End) → both g h ≡ both f e → h ≡ e
      to_is g h i = let p = pair g h i in sym p.3 ∙ ap (λ (u : End × End). u.1) p.1

      -- an end that asks is not tied
      never : (g h : End) → BothTied w g h → both g h ≡ both f e → ⊥
      never g h t i =
          let engaged : is_engaged (slot w e).state ≡ true = subst (λ h. is_engaged (slot w h).state ≡ true) (to_is g h i) t.theirs.engaged in
          cc (engaged, asks)

      -- an end that is offered to has asked for that
      offered : (g h : End) (len : ℕ) → SoundOffer w g h len → both g h ≡ both f e → AsksFor (slot w e) f.who.actor len
      offered g h len r i =
          let to : (slot w g).far ≡ e = r.tied.far ∙ to_is g h i in
          let asker : AsksFor (slot w (slot w g).far) g.who.actor (slot w g).len =
          (inv.slots g).asker r.tied.engaged (subst (λ h. (slot w h).state ≡ Asking) (sym to) asks) in
          let near : AsksFor (slot w e) g.who.actor (slot w g).len = subst (λ h. AsksFor (slot w h) g.who.actor (slot w g).len) to asker in
          let far : AsksFor (slot w e) f.who.actor (slot w g).len =
          subst (λ (from : End). AsksFor (slot w e) from.who.actor (slot w g).len) (from_is g h i) near in
          subst (λ k. AsksFor (slot w e) f.who.actor k) r.length far

      go : (frame : Frame) → IsMember frame w.sent → ends_of frame ≡ Some (f, e) → ToAsker w f e frame
      go (Hello g node len) m i = absurd (cc (i))
      go (Offer g h len) m i = let r : SoundOffer w g h len = inv.frames (Offer g h len) m in offered g h len r i
      go (Take g h) m i = let r : BothTied w g h = inv.frames (Take g h) m in absurd (never g h r i)
      go (Renew g h stamp version got points) m i =
          let r : SoundRenew w g h stamp version got = inv.frames (Renew g h stamp version got points) m in absurd (never g h r.tied i)
      go (RenewAck g h stamp version) m i = absurd (cc (i))
      go (Transfer g h number part) m i = let r : SoundTransfer c w g h number part = inv.frames (Transfer g h number part) m in absurd (never g h r.tied i)
      go (Gone g h got bound) m i = tt
      go (Accuse x y) m i = absurd (cc (i))
      go (Ruled a x y ruling) m i = absurd (cc (i))
      go (RoundClaim x y round) m i = absurd (cc (i))
      go (Kept a y round x) m i = absurd (cc (i))
