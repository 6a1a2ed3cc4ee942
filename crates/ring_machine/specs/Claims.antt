-- The invariant on claims: why an instance may rely on a point of another.
use Rattle.std.specs.Prelude.{◌≡◌, ℕ, ◌<◌, ◌≤◌, true, false, List, Option, Some}
use Rattle.ring_points.specs.declared.who.Who.{Who}
use Rattle.ring_points.specs.Whos.{same_who}
use Rattle.fabric_lemmas.specs.Members.{IsMember}
use Rattle.ring_machine.specs.Points.{Points}
use Rattle.ring_machine.specs.Ends.{End}
use Rattle.ring_machine.specs.Slots.{Slot, State, Flight, is_willing}
use Rattle.ring_machine.specs.Frames.{Frame, Renew}
use Rattle.ring_machine.specs.World.{Settings, World, At, Dead}
use Rattle.ring_machine.specs.Arbitration.{HeirBy, AnsweredBy}

-- x can never take over from y: another is y's heir, or y is discharged from x
pub data Barred (c : Settings) (sent : List Frame) (x y : Who) : Type 0 where
  other_heir : (z : Who) → same_who z x ≡ false → HeirBy c sent z y → Barred c sent x y
  discharged : AnsweredBy c sent y x → Barred c sent x y

-- x's claim on the point p of y harms nobody: x is dead, or can never take over from y, or the point is y's
pub data Backed (c : Settings) (w : World) (x y : Who) (p : ℕ) : Type 0 where
  claimant_dead : Dead c (w.instance x) → Backed c w x y p
  barred : Barred c w.sent x y → Backed c w x y p
  of_owner : w.place p ≡ At y → Backed c w x y p

-- e claims the point p of f, or may come to: by its record, by a newer Renew that it would take, or by a flight that
-- f has taken. got is the last flight that f took from e
pub data ClaimBy (sent : List Frame) (e f : End) (state : State) (held : Points) (held_version : ℕ) (flight : Option Flight) (got p : ℕ) : Type 0 where
  by_record : held p ≡ true → ClaimBy sent e f state held held_version flight got p
  by_renew : is_willing state ≡ true → (stamp version theirs : ℕ) (points : Points) → IsMember (Renew f e stamp version theirs points) sent →
      held_version < version → points p ≡ true → ClaimBy sent e f state held held_version flight got p
  by_flight : (l : Flight) → flight ≡ Some l → l.number ≤ got → l.part p ≡ true → ClaimBy sent e f state held held_version flight got p

abbrev pub Claim : List Frame → End → End → Slot → ℕ → ℕ → Type 0
Claim sent e f s got p = ClaimBy sent e f s.state s.held s.held_version s.flight got p
