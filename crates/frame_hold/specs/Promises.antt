-- What the links below are given, and what they never are.
use Rattle.std.specs.Prelude.{◌≡◌, ℕ, ◌+◌, ◌≤◌, ◌^◌, ◌⊎◌, Bool, false, List, [], ◌∷◌, ◌++◌, map, Option, Some, if◌then◌else◌}
use Rattle.edge_io.specs.Edge.{Grew}
use Rattle.edge_io.specs.declared.datagram.Datagram.{Datagram}
use Rattle.frame_hold.specs.declared.holding.Owed.{Owed}
use Rattle.frame_hold.specs.Kept.{free_of, held_of}
use Rattle.frame_hold.specs.Waits.{frame_waits}

-- a datagram that was to be given, and whether it was
abbrev pub Try : Type 0
Try = Datagram × Bool

abbrev pub went : List Try → List Datagram
went [] = []
went (t ∷ ts) = if t.1 then t.0 ∷ went ts else went ts

abbrev pub lost : List Try → ℕ
lost [] = 0
lost (t ∷ ts) = if t.1 then lost ts else lost ts + 1

-- All of these were to be given to links, in this order. Each that was left out is a failure of the links.
pub record Given (all : List Datagram) (old new : Option (List Datagram)) (before now : ℕ) : Type 0 where
  pub tries : List Try
  pub whole : map (λ t. t.0) tries ≡ all
  pub sent : Grew old new (went tries)
  pub failed : (before + lost tries ≤ now) ⊎ (2 ^ 64 ≤ now + 1)

-- What the actor may send was given to links, and the others wait still; or all wait still, for want of memory.
abbrev pub LetsOut : ℕ → List Owed → List Datagram → List Datagram → Option (List Datagram) → Option (List Datagram) → ℕ → ℕ → Type 0
LetsOut actor owed held stays old new before now =
    (Given (free_of actor owed held) old new before now × (stays ≡ held_of actor owed held)) ⊎ (stays ≡ held)

-- none of them waits for one of these numbers
abbrev pub NoneWaits : List Owed → List Datagram → Type 0
NoneWaits owed [] = Unit {0}
NoneWaits owed (d ∷ ds) = (frame_waits owed d.bytes ≡ false) × NoneWaits owed ds

-- never before its done: what the links below were given more waited for no number that was open then
abbrev pub NeverBeforeDone : List Owed → Option (List Datagram) → Option (List Datagram) → Type 0
NeverBeforeDone owed old new =
    (sent : List Datagram) → old ≡ Some sent → (given : List Datagram) × (new ≡ Some (sent ++ given)) × NoneWaits owed given
