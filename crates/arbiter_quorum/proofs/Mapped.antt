-- Searches of a list whose elements are mapped.
use Rattle.std.proofs.Common.{◌≡◌, Bool, true, false, List, [], ◌∷◌, map, refl}
use Rattle.std.specs.List.{list_any, find}
use Rattle.std.specs.Prelude.{option_map}

pub list_any_map : {X Y : Type 0} (p : Y → Bool) (f : X → Y) (xs : List X) → list_any p (map f xs) ≡ list_any (λ x. p (f x)) xs
list_any_map p f [] = refl
list_any_map p f (x ∷ xs) = let later = list_any_map p f xs in cc

find_map-by : {X Y : Type 0} (p : Y → Bool) (f : X → Y) (x : X) (xs : List X) → find p (map f xs) ≡ option_map f (find (λ x. p (f x)) xs) → (b : Bool) → p (f x) ≡ b → find p (map f (x ∷ xs)) ≡ option_map f (find (λ x. p (f x)) (x ∷ xs))
find_map-by p f x xs later true is = rw is refl
find_map-by p f x xs later false is = rw is later

pub find_map : {X Y : Type 0} (p : Y → Bool) (f : X → Y) (xs : List X) → find p (map f xs) ≡ option_map f (find (λ x. p (f x)) xs)
find_map p f [] = refl
find_map p f (x ∷ xs) = find_map-by p f x xs (find_map p f xs) (p (f x)) refl
