-- A line has no float.
use Rattle.std.proofs.Common.{◌≡◌, Bool, false, List, [], ◌∷◌, ◌||◌, map, refl}
use Rattle.serde_json.specs.Data.{Data}
use Rattle.serde_json.specs.View.{items_of}
use Rattle.serde_json.specs.Written.{has_float, items_have_float}
use Rattle.service_file.specs.declared.settings.ServiceSettings.{ServiceSettings}
use Rattle.again_choice.specs.declared.choice.Choice.{Choice}
use Rattle.again_choice.specs.Lines.{declared_data, line_data, whole}

items_without : {X : Type 0} (f : X → Data) → ((x : X) → has_float (f x) ≡ false) → (xs : List X) → items_have_float (items_of (map f xs)) ≡ false
items_without f h [] = refl
items_without f h (x ∷ xs) = either (has_float (f x)) _ (h x) (items_without f h xs)
  where
    either : (a b : Bool) → a ≡ false → b ≡ false → (a || b) ≡ false
    either a b p q = rw p q

pub no_float : (settings : ServiceSettings) (choice : Choice) → has_float (line_data settings choice) ≡ false
no_float settings choice =
    let joins = items_without whole (λ n. refl) settings.join in
    let partitions = items_without declared_data (λ d. refl) choice.partitions in
    rw joins (rw partitions refl)
