-- A live instance in a world that keeps the invariant: what is known there, before it does a deed of e.
use Rattle.std.proofs.Common.{◌≡◌, ℕ, ◌+◌, Bool, true, false, List, [], ◌∷◌, ◌++◌, Option, Some, refl, sym, subst, inl, inr, ⊎_elim, arith}
use Rattle.fabric_lemmas.specs.Members.{IsMember}
use Rattle.ring_machine.specs.Points.{Points}
use Rattle.ring_machine.specs.Ends.{End}
use Rattle.ring_machine.specs.Slots.{Slot, Flight, is_engaged}
use Rattle.ring_machine.specs.Tokens.{Freeze}
use Rattle.ring_machine.specs.Frames.{Frame, Hello, Offer, Take, Renew, RenewAck, Transfer, Gone, Accuse, Ruled, RoundClaim, Kept, answer_if}
use Rattle.ring_machine.specs.World.{Settings, World, At, Live, slot}
use Rattle.ring_machine.specs.Sessions.{Tied}
use Rattle.ring_machine.specs.Claims.{Claim, by_record, by_renew, by_flight}
use Rattle.ring_machine.specs.Leases.{Leased}
use Rattle.ring_machine.specs.SoundSlots.{SoundSlot}
use Rattle.ring_machine.specs.SoundFlights.{Lost, FrozenTo, SoundFreeze}
use Rattle.ring_machine.specs.Invariant.{Invariant}
use Rattle.ring_machine.proofs.Lists.{IsMember-append_cases}
use Rattle.ring_machine.proofs.Whos.{apart_ends}

pub record Acting (c : Settings) (w : World) (e : End) : Type 0 where
  pub inv : Invariant c w
  pub live : Live c (w.instance e.who)

-- it is a Renew or its acknowledgement
abbrev pub is_renewal : Frame → Bool
is_renewal (Renew from to stamp version got points) = true
is_renewal (RenewAck from to stamp version) = true
is_renewal (Hello from node len) = false
is_renewal (Offer from to len) = false
is_renewal (Take from to) = false
is_renewal (Transfer from to number part) = false
is_renewal (Gone from to got bound) = false
is_renewal (Accuse from victim) = false
is_renewal (Ruled a to victim ruling) = false
is_renewal (RoundClaim from victim round) = false
is_renewal (Kept a victim round claimer) = false

-- what holds of the one frame that is sent holds of each
pub each_of_one : (P : Frame → Type 0) (f : Frame) → P f → (g : Frame) → IsMember g (f ∷ []) → P g
each_of_one P f h g (inl i) = subst P (sym i) h
each_of_one P f h g (inr m) = absurd m

pub each_of_answer : (P : Frame → Type 0) (bound : Bool) (f : Frame) → (bound ≡ true → P f) → (g : Frame) → IsMember g (answer_if bound f) → P g
each_of_answer P true f h g m = each_of_one P f (h refl) g m
each_of_answer P false f h g m = absurd m

-- no Renew and no acknowledgement is among the frames
abbrev pub NoRenewal : List Frame → Type 0
NoRenewal sent = (g : Frame) → IsMember g sent → is_renewal g ≡ false

pub no_renew : (sent : List Frame) → NoRenewal sent → (f e : End) (stamp version got : ℕ) (points : Points) →
    IsMember (Renew f e stamp version got points) sent → ⊥
no_renew sent none f e stamp version got points m = cc (none _ m)

pub no_ack : (sent : List Frame) → NoRenewal sent → (f e : End) (stamp version : ℕ) → IsMember (RenewAck f e stamp version) sent → ⊥
no_ack sent none f e stamp version m = cc (none _ m)

-- a freeze is sound against frames that do not concern it
pub frozen_more : (sent before : List Frame) (f e : End) (z : Freeze) (got acked : ℕ) (flight : Option Flight) (held_version : ℕ) (held : Points) →
    ((stamp version theirs : ℕ) (points : Points) → IsMember (Renew f e stamp version theirs points) sent → ⊥) →
    ((stamp version : ℕ) → IsMember (RenewAck e f stamp version) sent → ⊥) →
    FrozenTo before f e z got acked flight held_version held → FrozenTo (sent ++ before) f e z got acked flight held_version held
frozen_more sent before f e z got acked flight held_version held renew ack r = record {
  renews = λ stamp version theirs points m. r.renews stamp version theirs points (old stamp version theirs points m);
  confirms = λ stamp version theirs points m. r.confirms stamp version theirs points (old stamp version theirs points m);
  acks = λ stamp version m. r.acks stamp version (⊎_elim (λ k. absurd (ack stamp version k)) (λ k. k) (IsMember-append_cases _ sent before m));
  settled = r.settled;
  recorded = r.recorded;
}
  where
    old : (stamp version theirs : ℕ) (points : Points) → IsMember (Renew f e stamp version theirs points) (sent ++ before) →
        IsMember (Renew f e stamp version theirs points) before
    old stamp version theirs points m = ⊎_elim (λ k. absurd (renew stamp version theirs points k)) (λ k. k) (IsMember-append_cases _ sent before m)

-- a claim that no new Renew makes is one of before
pub claim_before : (sent before : List Frame) (e f : End) (s : Slot) (got p : ℕ) →
    ((stamp version theirs : ℕ) (points : Points) → IsMember (Renew f e stamp version theirs points) sent → ⊥) →
    Claim (sent ++ before) e f s got p → Claim before e f s got p
claim_before sent before e f s got p none (by_record r) = by_record r
claim_before sent before e f s got p none (by_renew h stamp version theirs points m lt r) =
    by_renew h stamp version theirs points (⊎_elim (λ k. absurd (none stamp version theirs points k)) (λ k. k) (IsMember-append_cases _ sent before m)) lt r
claim_before sent before e f s got p none (by_flight l is le r) = by_flight l is le r

module _ {c : Settings} {w : World} {e : End} (a : Acting c w e) where
  abbrev s : Slot
  s = slot w e

  pub good : SoundSlot c w e (slot w e)
  good = a.inv.slots e

  pub here : (p : ℕ) → (w.instance e.who).token.ranges p ≡ true → w.place p ≡ At e.who
  here p h = a.inv.owned e.who p a.live h

  pub back : (p : ℕ) → w.place p ≡ At e.who → (w.instance e.who).token.ranges p ≡ true
  back p h = a.inv.exact e.who p a.live h

  -- no flight of a live instance is lost
  pub not_lost : (f : End) → Lost c w e f → ⊥
  not_lost f lost = lost.0.not_live a.live

  -- the lease of a slot that begins now
  pub from_now : (len : ℕ) → Leased (w.instance e.who).pairs w.time ((w.instance e.who).reading + len) len
  from_now len = record {
    stamp = (w.instance e.who).reading;
    rests = record { taken = w.time; reading = a.inv.present e.who a.live.running; no_later = omega arith };
    within = omega arith;
  }

  -- the far end of a session is another instance's
  pub far_differs : is_engaged s.state ≡ true → e ≡ s.far → ⊥
  far_differs en = apart_ends e s.far (good.apart en)

  -- the freezes at both sides of the session
  pub freeze_mine : (z : Freeze) → (w.instance e.who).token.freeze ≡ Some z → is_engaged s.state ≡ true → Tied w s.far e → SoundFreeze w e s.far z
  freeze_mine z is en tie = a.inv.freezes e s.far z is (record { mine = record { engaged = en; far = refl }; theirs = tie })

  pub freeze_theirs : (z : Freeze) → (w.instance s.far.who).token.freeze ≡ Some z → is_engaged s.state ≡ true → Tied w s.far e → SoundFreeze w s.far e z
  freeze_theirs z is en tie = a.inv.freezes s.far e z is (record { mine = tie; theirs = record { engaged = en; far = refl } })
