-- What comes at a page: heads of requests, as far as they have come.
use Rattle.std.specs.Prelude.{ℕ, ◌≤◌, List, [], ◌∷◌, take, Option, Some, None}

-- a client whose head has grown, and all of the head that has come
pub record Grown : Type 0 where
  pub client : ℕ
  pub head : List ℕ

-- the most bytes of a head
abbrev pub most_head : ℕ
most_head = 2048

-- what came by one call, the head at the front of this buffer
abbrev pub grown : Option (ℕ × ℕ) → List ℕ → List Grown
grown None into = []
grown (Some (client, count)) into = record { client = client; head = take count into } ∷ []

abbrev pub FitsHead : Option (ℕ × ℕ) → Type 0
FitsHead None = Unit {0}
FitsHead (Some (client, count)) = count ≤ most_head
