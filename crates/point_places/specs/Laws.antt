-- What holds of the definitions of places and lines.
use Rattle.std.specs.Prelude.{◌≡◌, ℕ, Bool, IsTrue, List}
use Rattle.ring_points.specs.declared.who.Who.{Who}
use Rattle.fabric_terms.specs.Places.{Place}
use Rattle.point_places.specs.Order.{is_same}
use Rattle.point_places.specs.Lines.{IsText}

-- places that the order does not tell apart are equal
abbrev pub SamePlaces : Type 0
SamePlaces = (a b : Place) → IsTrue (is_same a b) → a ≡ b

-- the places and holders have one text
abbrev pub OneText : Type 0
OneText = (place : ℕ → Place) (held : Who → ℕ → Bool) (text other : List ℕ) → IsText place held text → IsText place held other → text ≡ other
