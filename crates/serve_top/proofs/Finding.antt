-- The first text that is no address.
use Rattle.std.proofs.Common.{◌≡◌, ◌+◌, ◌<◌, ◌≤◌, ℕ, true, false, List, [], ◌∷◌, ◌++◌, Option, Some, None, length, get_or, map, drop, refl, ap, sym, subst, ◌∙◌, append_assoc}
use Rattle.std.specs.Prelude.{All, is_none}
use Rattle.std.specs.declared.net.SocketAddr.{SocketAddr}
use Rattle.std.proofs.Math.ListN.{drop_of_length-le}
use Rattle.std.proofs.lemmas.List.{drop_more}
use Rattle.std.proofs.lemmas.List.Elements.{All-append, All-cons, All-nil}
use Rattle.serve_edge.specs.Addresses.{ReadsAddress}
use Rattle.serve_top.specs.Addresses.{FindsBad, IsAddress}

-- behind an address it is the first of the others
pub found_on : (text : List ℕ) (texts : List (List ℕ)) → IsAddress text → (found : Option (List ℕ)) → FindsBad texts found → FindsBad (text ∷ texts) found
found_on text texts good None all = All-cons IsAddress text texts good all
found_on text texts good (Some bad) first = record {
  good = text ∷ first.good;
  rest = first.rest;
  all = ap (λ ts. text ∷ ts) first.all;
  before = All-cons IsAddress text first.good good first.before;
  none = first.none;
}

-- it is the first of all
pub found_here : (text : List ℕ) (texts : List (List ℕ)) → ReadsAddress text None → FindsBad (text ∷ texts) (Some text)
found_here text texts none = record { good = []; rest = texts; all = refl; before = All-nil IsAddress; none = none }

-- those in front are addresses
pub found_right : (xs ys : List (List ℕ)) → All IsAddress xs → (found : Option (List ℕ)) → FindsBad ys found → FindsBad (xs ++ ys) found
found_right xs ys good None all = All-append IsAddress xs ys good all
found_right xs ys good (Some bad) first = record {
  good = xs ++ first.good;
  rest = first.rest;
  all = ap (λ zs. xs ++ zs) first.all ∙ sym (append_assoc xs first.good (bad ∷ first.rest));
  before = All-append IsAddress xs first.good good first.before;
  none = first.none;
}

-- A loop looks at one item after another.

left_at : {X : Type 0} (xs : List X) (i : ℕ) (x : X) → i < length xs → x ≡ get_or xs i x → drop i xs ≡ x ∷ drop (i + 1) xs
left_at xs i x within is = drop_more xs i x within ∙ ap (λ y. y ∷ drop (i + 1) xs) (sym is)

-- an address is passed
pub passes : {X : Type 0} (at : X → List ℕ) (xs : List X) (i : ℕ) (x : X) → i < length xs → x ≡ get_or xs i x → IsAddress (at x) → (found : Option (List ℕ)) → FindsBad (map at (drop (i + 1) xs)) found → FindsBad (map at (drop i xs)) found
passes at xs i x within is good found finds =
    subst (λ ys. FindsBad (map at ys) found) (sym (left_at xs i x within is)) (found_on (at x) (map at (drop (i + 1) xs)) good found finds)

-- a text that is none is found
pub halts : {X : Type 0} (at : X → List ℕ) (xs : List X) (i : ℕ) (x : X) → i < length xs → x ≡ get_or xs i x → ReadsAddress (at x) None → FindsBad (map at (drop i xs)) (Some (at x))
halts at xs i x within is none =
    subst (λ ys. FindsBad (map at ys) (Some (at x))) (sym (left_at xs i x within is)) (found_here (at x) (map at (drop (i + 1) xs)) none)

-- nothing is left
pub ends : {X : Type 0} (at : X → List ℕ) (xs : List X) (i : ℕ) → length xs ≤ i → FindsBad (map at (drop i xs)) None
ends at xs i over = subst (λ ys. FindsBad (map at ys) None) (sym (drop_of_length-le xs over)) (All-nil IsAddress)

-- what the test of a text says of it

pub is_address : (text : List ℕ) (read : Option SocketAddr) → ReadsAddress text read → is_none read ≡ false → IsAddress text
is_address text None reads some = cc
is_address text (Some address) reads some = (address, reads)

pub is_no_address : (text : List ℕ) (read : Option SocketAddr) → ReadsAddress text read → is_none read ≡ true → ReadsAddress text None
is_no_address text None reads none = reads
is_no_address text (Some address) reads none = cc
