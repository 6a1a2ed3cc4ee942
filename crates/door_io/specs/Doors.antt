-- What comes at a door and what is said to its clients, where the door tells.
use Rattle.std.specs.Prelude.{◌≡◌, ◌≢◌, ℕ, ◌≤◌, Bool, true, false, List, [], ◌∷◌, ◌++◌, take, Option, Some, None}
use Rattle.edge_io.specs.Edge.{Grew}
use Rattle.door_io.specs.declared.door.Said.{Said}
use Rattle.door_io.specs.declared.door.Said.TheVariants as said

-- what comes at a door: a line of a client without its line feed, None for one that is too long; the end of a client
pub data Arrived : Type 0 where
  Asked : (client : ℕ) (line : Option (List ℕ)) → Arrived
  Gone : (client : ℕ) → Arrived

-- what came by one call, the line in this buffer
abbrev pub came : Said → List ℕ → List Arrived
came (said.Line client count) into = Asked client (Some (take count into)) ∷ []
came (said.TooLong client) into = Asked client None ∷ []
came (said.Gone client) into = Gone client ∷ []
came said.Quiet into = []

-- the most bytes of a line, without its line feed
abbrev pub most_asked : ℕ
most_asked = 4096

abbrev pub FitsBuffer : Said → Type 0
FitsBuffer (said.Line client count) = count ≤ most_asked
FitsBuffer _ = Unit {0}

-- where the door tells what is to come, this came first, and the rest is still to come
abbrev pub GivesFirst : {A : Type 0} → Option (List A) → List A → Option (List A) → Type 0
GivesFirst {A} old these new =
    (all : List A) → old ≡ Some all → (rest : List A) × (all ≡ these ++ rest) × (new ≡ Some rest)

-- A text was said to a client as a whole, or the client was dropped. A client that was dropped before hears nothing.
pub record SaysOrDrops (client : ℕ) (text : List ℕ) (answered answered' : ℕ → Option (List ℕ))
    (dropped dropped' : ℕ → Bool) : Type 0 where
  pub whole : dropped' client ≡ false → Grew (answered client) (answered' client) text
  pub nothing : dropped' client ≡ true → answered' client ≡ answered client
  pub stays : dropped client ≡ true → dropped' client ≡ true
  pub others : (other : ℕ) → other ≢ client → (answered' other ≡ answered other) × (dropped' other ≡ dropped other)
