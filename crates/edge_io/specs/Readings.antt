-- What a clock gives.
use Rattle.std.specs.Prelude.{◌≡◌, ℕ, List, [], ◌∷◌, Option, Some, None, Bool, false, nat_lt}

-- the next of the readings to come
abbrev pub next_reading : List ℕ → ℕ
next_reading [] = 0
next_reading (reading ∷ rest) = reading

-- what is to come after it: the last reading comes again and again
abbrev pub readings_after : List ℕ → List ℕ
readings_after [] = []
readings_after (reading ∷ []) = reading ∷ []
readings_after (reading ∷ next ∷ rest) = next ∷ rest

-- where it tells the readings to come, this was the next of them
abbrev pub Gives : Option (List ℕ) → ℕ → Option (List ℕ) → Type 0
Gives old reading new = (readings : List ℕ) → old ≡ Some readings → (reading ≡ next_reading readings) × (new ≡ Some (readings_after readings))

-- the reading is less than the last one; the first reading is no fall
abbrev pub is_fall : Option ℕ → ℕ → Bool
is_fall None reading = false
is_fall (Some last) reading = nat_lt reading last
