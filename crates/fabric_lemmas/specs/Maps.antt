-- Maps from numbers, as lists that rise by number.
use Rattle.std.specs.Prelude.{ℕ, ◌+◌, Bool, true, false, not, List, [], ◌∷◌, Option, Some, None, ◌==◌, nat_lt, nat_le, ◌&&◌, filter, if◌then◌else◌}

-- what stands at the number, if something does
abbrev pub at : {X : Type 0} → ℕ → List (ℕ × X) → Option X
at k [] = None
at k (e ∷ es) = if e.0 == k then Some e.1 else at k es

abbrev pub put_here : {X : Type 0} → ℕ → X → ℕ × X → List (ℕ × X) → List (ℕ × X) → Bool → Bool → List (ℕ × X)
put_here k x e es behind true same = (k, x) ∷ e ∷ es
put_here k x e es behind false true = (k, x) ∷ es
put_here k x e es behind false false = e ∷ behind

-- with this value at the number
abbrev pub put : {X : Type 0} → ℕ → X → List (ℕ × X) → List (ℕ × X)
put k x [] = (k, x) ∷ []
put k x (e ∷ es) = put_here k x e es (put k x es) (nat_lt k e.0) (k == e.0)

-- with nothing at the number
abbrev pub without : {X : Type 0} → ℕ → List (ℕ × X) → List (ℕ × X)
without k es = filter (λ e. not (e.0 == k)) es

-- the numbers rise, from this one on
abbrev pub rises_from : {X : Type 0} → ℕ → List (ℕ × X) → Bool
rises_from low [] = true
rises_from low (e ∷ es) = nat_le low e.0 && rises_from (e.0 + 1) es

abbrev pub rises : {X : Type 0} → List (ℕ × X) → Bool
rises es = rises_from 0 es

-- the map of these entries, where the first at a number counts
abbrev pub map_of : {X : Type 0} → List (ℕ × X) → List (ℕ × X)
map_of [] = []
map_of (e ∷ es) = put e.0 e.1 (map_of es)
