-- Maps over changed lists.
use Rattle.std.proofs.Common.{◌≡◌, ℕ, zero, suc, List, [], ◌∷◌, refl, ap, Some}
use Rattle.std.specs.Prelude.{map, slice_get, slice_set}

pub map-set : {X Y : Type 0} (f : X → Y) (xs : List X) (i : ℕ) (x : X) → map f (slice_set xs i x) ≡ slice_set (map f xs) i (f x)
map-set f [] i x = refl
map-set f (q ∷ xs) zero x = refl
map-set f (q ∷ xs) (suc i) x = ap (λ r. f q ∷ r) (map-set f xs i x)

pub set_same : {X : Type 0} (xs : List X) (i : ℕ) (x : X) → slice_get xs i ≡ Some x → slice_set xs i x ≡ xs
set_same [] i x e = refl
set_same (q ∷ xs) zero x e = let s : x ≡ q = cc in ap (λ y. y ∷ xs) s
set_same (q ∷ xs) (suc i) x e = ap (λ r. q ∷ r) (set_same xs i x e)
