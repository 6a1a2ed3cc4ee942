-- Where actors stand.
use Rattle.std.specs.Prelude.{◌≡◌, ℕ, ◌+◌, ◌<◌, List, Option, Some, None, slice_get}
use Rattle.ring_points.specs.Whos.{arbiter_actor}
use Rattle.fabric_lemmas.specs.Maps.{at}

-- it stands at this place, with this value
pub record IsAt {X : Type 0} (number place : ℕ) (es : List (ℕ × X)) : Type 0 where
  pub value : X
  pub here : slice_get es place ≡ Some (number, value)
  pub found : at number es ≡ Some value

-- its place, or none where it is not in the list
abbrev pub IsPlaceOf : {X : Type 0} → ℕ → List (ℕ × X) → Option ℕ → Type 0
IsPlaceOf number es None = at number es ≡ None
IsPlaceOf number es (Some place) = IsAt number place es

-- the place of the arbitrator of this actor among so many, or none where it is none of them
abbrev pub IsSeatPlace : ℕ → ℕ → Option ℕ → Type 0
IsSeatPlace count actor None = arbiter_actor 0 < actor → arbiter_actor count < actor
IsSeatPlace count actor (Some place) = (actor ≡ arbiter_actor (place + 1)) × (place < count)
