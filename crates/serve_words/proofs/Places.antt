-- The words that are split, where the words are a form.
use Rattle.std.proofs.Common.{◌≡◌, ◌==◌, ◌⊎◌, inl, inr, ℕ, Bool, true, false, List, [], ◌∷◌, Option, None, arith, refl, sym, subst, codes, is_some}
use Rattle.std.specs.Prelude.{if◌then◌else◌}
use Rattle.std.specs.List.{list_all}
use Rattle.std.specs.Str.{bytes_eq}
use Rattle.std.proofs.lemmas.Slice.Eq.{bytes_eq-Decides}
use Rattle.std.proofs.lemmas.Bool.Decides.{nat_tests}
use Rattle.text_fields.specs.Fields.{◌>>=◌}
use Rattle.text_fields.specs.Numbers.{number_in}
use Rattle.serve_words.specs.Forms.{Form, again_form, ask_form, check_form, form_of, number_of, with_file, with_values}
use Rattle.serve_words.specs.Forms.{arbiter_form, node_form}
use Rattle.serve_words.specs.Options.{Text, begins_with_hyphen, hyphen, is_place}
use Rattle.serve_words.specs.Splits.{front, is_short}

-- a number has no hyphen in front
plain_number : {A : Type 0} (lo hi : ℕ) (w : Text) (next : ℕ → Option A) → is_some (number_of lo hi w >>= next) ≡ true → begins_with_hyphen w ≡ false
unfolding number_in
plain_number lo hi [] next some = refl
plain_number {A} lo hi (b ∷ bs) next some = go (b == hyphen) refl
  where
    go : (t : Bool) → (b == hyphen) ≡ t → begins_with_hyphen (b ∷ bs) ≡ false
    go false e = e
    go true e =
        let is : b ≡ hyphen = grind (arith, nat_tests) in
        let none : is_some (number_of lo hi (hyphen ∷ bs) >>= next) ≡ true = subst (λ c. is_some (number_of lo hi (c ∷ bs) >>= next) ≡ true) is some in
        cc

-- the words of a test that is passed
passed : {A : Type 0} (t : Bool) (x : Option A) → is_some (if t then None else x) ≡ true → (t ≡ false) × (is_some x ≡ true)
passed true x some = cc
passed false x some = (refl, some)

-- the words of a form with a file: a number, and a name that does not begin with a hyphen
file_places : {A : Type 0} (lo hi : ℕ) (n f : Text) (next : ℕ → Option A)
    → is_some (if begins_with_hyphen f then None else (number_of lo hi n >>= next)) ≡ true
    → (begins_with_hyphen n ≡ false) × (begins_with_hyphen f ≡ false)
file_places lo hi n f next some =
    let p = passed (begins_with_hyphen f) (number_of lo hi n >>= next) some in
    (plain_number lo hi n next p.1, p.0)

node_places : (f : Text) (ws : List Text) → is_some (with_file node_form f ws) ≡ true → list_all is_place (front (codes "node" ∷ f ∷ ws)) ≡ true
node_places f [] some = cc
node_places f (g ∷ ws) some = let p = file_places 1 _ f g _ some in rw (p.0, p.1) refl

arbiter_places : (f : Text) (ws : List Text) → is_some (with_file arbiter_form f ws) ≡ true → list_all is_place (front (codes "arbiter" ∷ f ∷ ws)) ≡ true
arbiter_places f [] some = cc
arbiter_places f (g ∷ ws) some = let p = file_places 1 _ f g _ some in rw (p.0, p.1) refl

check_places : (f : Text) (ws : List Text) → is_some (check_form f ws) ≡ true → list_all is_place (front (codes "check" ∷ f ∷ ws)) ≡ true
check_places f [] some = let p = passed (begins_with_hyphen f) _ some in rw p.0 refl
check_places f (g ∷ ws) some = cc

ask_places : (f : Text) (ws : List Text) → is_some (ask_form f ws) ≡ true → list_all is_place (front (codes "ask" ∷ f ∷ ws)) ≡ true
ask_places f [] some = cc
ask_places f (g ∷ ws) some = let p = passed (begins_with_hyphen f) _ some in rw p.0 refl

holds : {A : Type 0} (t : Bool) (x : Option A) → is_some (if t then x else None) ≡ true → t ≡ true
holds true x h = refl
holds false x h = cc

first_place : (g : Text) (ws : List Text) → list_all is_place (g ∷ ws) ≡ true → begins_with_hyphen g ≡ false
first_place g ws h = go (begins_with_hyphen g) refl
  where
    go : (t : Bool) → begins_with_hyphen g ≡ t → begins_with_hyphen g ≡ false
    go true e = let bad : list_all is_place (g ∷ ws) ≡ false = rw e refl in cc
    go false e = e

again_places : (f : Text) (ws : List Text) → is_some (again_form f ws) ≡ true → list_all is_place (front (codes "again" ∷ f ∷ ws)) ≡ true
again_places f [] some = cc
again_places f (g ∷ ws) some =
    let p = passed (begins_with_hyphen f) _ some in
    let folder = first_place g ws (holds (list_all is_place (g ∷ ws)) _ p.1) in
    rw (p.0, folder) refl

abbrev Fine : Text → Text → List Text → Type 0
Fine c f ws = list_all is_place (front (c ∷ f ∷ ws)) ≡ true

at : (c name f : Text) (ws : List Text) → bytes_eq c name ≡ true → Fine name f ws → Fine c f ws
at c name f ws e fine = subst (λ d. Fine d f ws) (sym ((bytes_eq-Decides c name).0 e)) fine

chosen : {A : Type 0} (t : Bool) (x y : Option A) → is_some (if t then x else y) ≡ true → ((t ≡ true) × (is_some x ≡ true)) ⊎ (is_some y ≡ true)
chosen true x y h = inl (refl, h)
chosen false x y h = inr h

by_again : (c f : Text) (ws : List Text) (t : Bool) → bytes_eq c (codes "again") ≡ t → is_some (if t then again_form f ws else None) ≡ true → Fine c f ws
by_again c f ws true e some = at c (codes "again") f ws e (again_places f ws some)
by_again c f ws false e some = cc

abbrev from_ask : Text → Text → List Text → Option Form
from_ask c f ws = if bytes_eq c (codes "ask") then ask_form f ws else (if bytes_eq c (codes "again") then again_form f ws else None)

by_ask : (c f : Text) (ws : List Text) → is_some (from_ask c f ws) ≡ true → Fine c f ws
by_ask c f ws some = elim (chosen (bytes_eq c (codes "ask")) (ask_form f ws) _ some) [
  | inl h ↦ at c (codes "ask") f ws h.0 (ask_places f ws h.1)
  | inr h ↦ by_again c f ws (bytes_eq c (codes "again")) refl h
]

abbrev from_check : Text → Text → List Text → Option Form
from_check c f ws = if bytes_eq c (codes "check") then check_form f ws else from_ask c f ws

by_check : (c f : Text) (ws : List Text) → is_some (from_check c f ws) ≡ true → Fine c f ws
by_check c f ws some = elim (chosen (bytes_eq c (codes "check")) (check_form f ws) _ some) [
  | inl h ↦ at c (codes "check") f ws h.0 (check_places f ws h.1)
  | inr h ↦ by_ask c f ws h
]

abbrev from_arbiter : Text → Text → List Text → Option Form
from_arbiter c f ws = if bytes_eq c (codes "arbiter") then with_file arbiter_form f ws else from_check c f ws

by_arbiter : (c f : Text) (ws : List Text) → is_some (from_arbiter c f ws) ≡ true → Fine c f ws
by_arbiter c f ws some = elim (chosen (bytes_eq c (codes "arbiter")) (with_file arbiter_form f ws) _ some) [
  | inl h ↦ at c (codes "arbiter") f ws h.0 (arbiter_places f ws h.1)
  | inr h ↦ by_check c f ws h
]

by_node : (c f : Text) (ws : List Text) → is_some (with_values c f ws) ≡ true → Fine c f ws
by_node c f ws some = elim (chosen (bytes_eq c (codes "node")) (with_file node_form f ws) _ some) [
  | inl h ↦ at c (codes "node") f ws h.0 (node_places f ws h.1)
  | inr h ↦ by_arbiter c f ws h
]

-- no word that is split begins with a hyphen
pub front_places : (ws : List Text) → is_some (form_of ws) ≡ true → is_short ws ≡ false → list_all is_place (front ws) ≡ true
unfolding form_of
front_places [] some short = cc
front_places (c ∷ []) some short = cc
front_places (c ∷ f ∷ ws) some short = by_node c f ws some
