-- A list that is mapped in place, from its first item on.
use Rattle.std.proofs.Common.{◌≡◌, ℕ, ◌+◌, ◌<◌, List, ◌++◌, length, map, take, drop, set, get_or}
use Rattle.std.proofs.lemmas.List.{get_or_default}
use Rattle.std.proofs.lemmas.List.Edits.{map_over_more}

-- one more item is mapped
pub mapped_next : {X : Type 0} (f : X → X) (xs ys : List X) (i : ℕ) (d r : X) → i < length xs → i < length ys → ys ≡ map f (take i xs) ++ drop i xs
    → r ≡ f (get_or ys i d) → set ys i r ≡ map f (take (i + 1) xs) ++ drop (i + 1) xs
mapped_next f xs ys i d r inside within done is =
    rw is (map_over_more f xs ys i (get_or ys i d) inside done (get_or_default ys i d (get_or ys i d) within))
