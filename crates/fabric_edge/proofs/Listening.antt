-- An actor that listens has a socket.
use Rattle.std.proofs.Common.{◌≡◌, Bool, true, ◌||◌, List, [], ◌∷◌, map, ap, sym, refl, ◌∙◌, is_some}
use Rattle.std.specs.List.{list_any, position}
use Rattle.edge_io.proofs.Positions.{position-is_some}

any_of_map : {X Y : Type 0} (f : X → Y) (p : Y → Bool) (xs : List X) → list_any p (map f xs) ≡ list_any (λ x. p (f x)) xs
any_of_map f p [] = refl
any_of_map f p (x ∷ xs) = ap (λ b. p (f x) || b) (any_of_map f p xs)

-- an element whose image passes is found
pub found_by_image : {X Y : Type 0} (f : X → Y) (p : Y → Bool) (xs : List X) → list_any p (map f xs) ≡ true → is_some (position (λ x. p (f x)) xs) ≡ true
found_by_image f p xs some = position-is_some (λ x. p (f x)) xs (sym (any_of_map f p xs) ∙ some)
