-- The invariant on sessions: who is with whom, and for whom nothing is left in it.
use Rattle.std.specs.Prelude.{◌≡◌, ℕ, ◌<◌, true, false, Option, None, Some}
use Rattle.ring_machine.specs.Points.{Points}
use Rattle.ring_machine.specs.Ends.{End}
use Rattle.ring_machine.specs.Slots.{Slot, State, Flight, is_engaged, is_settled, is_willing}
use Rattle.ring_machine.specs.World.{World, slot}

-- e has or had a session with f
pub record Tied (w : World) (e f : End) : Type 0 where
  pub engaged : is_engaged (slot w e).state ≡ true
  pub far : (slot w e).far ≡ f

-- each has or had a session with the other
pub record BothTied (w : World) (e f : End) : Type 0 where
  pub mine : Tied w e f
  pub theirs : Tied w f e

-- something of the session's content came or went
pub data TouchedBy (flight : Option Flight) (held_version got acked : ℕ) : Type 0 where
  flew : (f : Flight) → flight ≡ Some f → TouchedBy flight held_version got acked
  heard : 0 < held_version → TouchedBy flight held_version got acked
  took : 0 < got → TouchedBy flight held_version got acked
  was_heard : 0 < acked → TouchedBy flight held_version got acked

abbrev pub Touched : Slot → Type 0
Touched s = TouchedBy s.flight s.held_version s.got s.acked

pub record Untouched (s : Slot) : Type 0 where
  pub flight : s.flight ≡ None
  pub held_version : s.held_version ≡ 0
  pub got : s.got ≡ 0
  pub acked : s.acked ≡ 0

abbrev pub IsEmpty : Points → Type 0
IsEmpty points = (p : ℕ) → points p ≡ true → ⊥

-- it claims nothing, and never will
pub record Quiet (state : State) (held : Points) (flight : Option Flight) : Type 0 where
  pub deaf : is_willing state ≡ false
  pub empty : IsEmpty held
  pub landed : flight ≡ None

-- it claims nothing of e, and never will: it is with another end, or it is quiet
pub data ClosedTo (e : End) (far : End) (state : State) (held : Points) (flight : Option Flight) : Type 0 where
  elsewhere : is_settled state ≡ true → (far ≡ e → ⊥) → ClosedTo e far state held flight
  over : is_settled state ≡ true → Quiet state held flight → ClosedTo e far state held flight

-- f is closed to e
abbrev pub Closed : World → End → End → Type 0
Closed w f e = ClosedTo e (slot w f).far (slot w f).state (slot w f).held (slot w f).flight
