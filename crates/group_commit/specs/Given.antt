-- What links are given of the frames that waited.
use Rattle.std.specs.Prelude.{◌≡◌, ℕ, ◌+◌, ◌≤◌, ◌^◌, ◌⊎◌, Bool, List, [], ◌∷◌, map, Option, if◌then◌else◌}
use Rattle.edge_io.specs.Edge.{Grew}
use Rattle.edge_io.specs.declared.datagram.Datagram.{Datagram}

-- a datagram that was given, and whether the links sent it
abbrev pub Try : Type 0
Try = Datagram × Bool

abbrev pub went : List Try → List Datagram
went [] = []
went (t ∷ ts) = if t.1 then t.0 ∷ went ts else went ts

abbrev pub lost : List Try → ℕ
lost [] = 0
lost (t ∷ ts) = if t.1 then lost ts else lost ts + 1

-- All of these were given to links, once and in this order. Each that they did not send is counted as lost.
pub record Given (all : List Datagram) (old new : Option (List Datagram)) (before now : ℕ) : Type 0 where
  pub tries : List Try
  pub whole : map (λ t. t.0) tries ≡ all
  pub sent : Grew old new (went tries)
  pub counted : (before + lost tries ≤ now) ⊎ (2 ^ 64 ≤ now + 1)
