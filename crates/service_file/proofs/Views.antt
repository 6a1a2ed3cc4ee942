-- The entries of an array and the keys of an object, as the code and the definitions see them.
use Rattle.std.proofs.Common.{◌≡◌, List, [], ◌∷◌, map, Option, String, Global, string_bytes, refl, ap}
use Rattle.std.specs.List.{cons_option, filter_map}
use Rattle.std.specs.Map.{keys_of}
use Rattle.std.proofs.lemmas.List.Folds.{list_all-map}
use Rattle.serde_json.specs.View.{members_view}
use Rattle.serde_json.specs.declared.value.Value.{Value}
use Rattle.fabric_config.proofs.Items.{elements_view, length_view}
use Rattle.service_file.specs.Keys.{keys}

pub keys_view : (es : List (String Global × Value)) → keys (members_view es) ≡ map string_bytes (keys_of es)
keys_view [] = refl
keys_view (e ∷ es) = ap (λ ks. string_bytes e.0 ∷ ks) (keys_view es)

pub filter_map-map : {X Y Z : Type 0} (f : Y → Option Z) (g : X → Y) (xs : List X) → filter_map f (map g xs) ≡ filter_map (λ x. f (g x)) xs
filter_map-map f g [] = refl
filter_map-map f g (x ∷ xs) = ap (λ zs. cons_option (f (g x)) zs) (filter_map-map f g xs)

pub ruleset views = (elements_view, length_view, keys_view, list_all-map, filter_map-map)
