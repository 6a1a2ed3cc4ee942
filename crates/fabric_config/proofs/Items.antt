-- The entries of an array, as the code and the definitions see them.
use Rattle.std.proofs.Common.{◌≡◌, List, [], ◌∷◌, length, map, refl, ap, ◌∙◌}
use Rattle.std.proofs.lemmas.List.{length-map}
use Rattle.serde_json.specs.Data.{Data}
use Rattle.serde_json.specs.View.{view, items_of, items_view}
use Rattle.serde_json.specs.declared.value.Value.{Value}
use Rattle.fabric_config.specs.Entries.{elements}

elements_items : (ds : List Data) → elements (items_of ds) ≡ ds
elements_items [] = refl
elements_items (d ∷ ds) = ap (λ es. d ∷ es) (elements_items ds)

pub elements_view : (vs : List Value) → elements (items_view vs) ≡ map view vs
elements_view vs = elements_items (map view vs)

pub length_view : (vs : List Value) → length (elements (items_view vs)) ≡ length vs
length_view vs = ap length (elements_view vs) ∙ length-map vs view

pub ruleset items = (elements_view, length_view)
