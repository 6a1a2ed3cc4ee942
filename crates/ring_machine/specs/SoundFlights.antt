-- The invariant on flights and freezes.
use Rattle.std.specs.Prelude.{◌≡◌, ℕ, ◌<◌, ◌≤◌, true, List, Option, Some}
use Rattle.fabric_lemmas.specs.Members.{IsMember}
use Rattle.ring_machine.specs.Points.{Points}
use Rattle.ring_machine.specs.Ends.{End}
use Rattle.ring_machine.specs.Slots.{Flight}
use Rattle.ring_machine.specs.Tokens.{Token, Freeze}
use Rattle.ring_machine.specs.Frames.{Frame, Renew, RenewAck}
use Rattle.ring_machine.specs.World.{Settings, World, Place, InFlight, Dead, slot}

-- the points on their way under this number of e's instance are among the part
abbrev pub IsWhole : (ℕ → Place) → End → ℕ → Points → Type 0
IsWhole place e number part = (g h : End) (p : ℕ) → g.who ≡ e.who → place p ≡ InFlight g h number → part p ≡ true

-- both sides of the session are dead; if the ring came back since, what flew between them is elsewhere
abbrev pub Lost : Settings → World → End → End → Type 0
Lost c w e f = Dead c (w.instance e.who) × Dead c (w.instance f.who)

-- a flight that stands at e, for f: its points are on their way until f takes it. got is the last flight that f took
pub record SoundFlight (next_flight : ℕ) (place : ℕ → Place) (got : ℕ) (e f : End) (l : Flight) : Type 0 where
  pub numbered : l.number < next_flight
  pub flying : got < l.number → (p : ℕ) → l.part p ≡ true → place p ≡ InFlight e f l.number
  pub whole : IsWhole place e l.number l.part

-- the frozen part is owned, since a version that was announced
pub record SoundToken (token : Token) (z : Freeze) : Type 0 where
  pub positive : 0 < z.version
  pub version : z.version ≤ token.version
  pub part : (p : ℕ) → z.part p ≡ true → token.ranges p ≡ true

-- a flight that stands at the far end though it was taken here, with a point that is frozen here
pub record Pending (z : Freeze) (flight : Option Flight) (got : ℕ) (l : Flight) : Type 0 where
  pub stands : flight ≡ Some l
  pub taken : l.number ≤ got
  pub point : ℕ
  pub flown : l.part point ≡ true
  pub frozen : z.part point ≡ true

-- the freeze z of f's instance, against the claims of e in its session with f. got and acked are those of f's slot,
-- the others those of e's
pub record FrozenTo (sent : List Frame) (f e : End) (z : Freeze) (got acked : ℕ) (flight : Option Flight) (held_version : ℕ) (held : Points) : Type 0 where
  -- a Renew of the freeze's version or a later one lacks the part
  pub renews : (stamp version theirs : ℕ) (points : Points) → IsMember (Renew f e stamp version theirs points) sent → z.version ≤ version →
      (p : ℕ) → points p ≡ true → z.part p ≡ true → ⊥
  -- it confirms each pending flight
  pub confirms : (stamp version theirs : ℕ) (points : Points) → IsMember (Renew f e stamp version theirs points) sent → z.version ≤ version →
      (l : Flight) → Pending z flight got l → l.number ≤ theirs
  -- its acknowledgement says that no flight is pending
  pub acks : (stamp version : ℕ) → IsMember (RenewAck e f stamp version) sent → z.version ≤ version → (l : Flight) → Pending z flight got l → ⊥
  pub settled : z.version ≤ acked → (l : Flight) → Pending z flight got l → ⊥
  -- a record of that version lacks the part
  pub recorded : z.version ≤ held_version → (p : ℕ) → held p ≡ true → z.part p ≡ true → ⊥

abbrev pub SoundFreeze : World → End → End → Freeze → Type 0
SoundFreeze w f e z = FrozenTo w.sent f e z (slot w f).got (slot w f).acked (slot w e).flight (slot w e).held_version (slot w e).held
