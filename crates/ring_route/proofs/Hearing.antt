-- The entry of a node that is heard again stands where the search finds it.
use Rattle.std.proofs.Common.{◌≡◌, ℕ, zero, suc, ◌+◌, ◌<◌, ◌≤◌, ◌==◌, Bool, true, false, List, [], ◌∷◌, ◌++◌, length, refl, sym, ap, ◌∙◌, arith, get_or, set, nat_le, nat_lt, Some, None, position}
use Rattle.std.specs.List.{list_any, position_or_len}
use Rattle.std.proofs.lemmas.Bool.Decides.{nat_tests}
use Rattle.ring_points.specs.declared.who.Who.{Who}
use Rattle.ring_route.specs.declared.known.Known.{Known}
use Rattle.ring_route.specs.Routes.{heard_in, heard_again}

abbrev pub is_of : ℕ → Known → Bool
is_of node k = k.who.actor == node

heard_at-by : (who : Who) (point now : ℕ) (k : Known) (ks : List Known) (i : ℕ) (d : Known) → ((j : ℕ) → position_or_len (is_of who.actor) ks ≡ j → j < length ks → heard_in who point now ks ≡ set ks j (heard_again who now (get_or ks j d))) → (b : Bool) → is_of who.actor k ≡ b → position_or_len (is_of who.actor) (k ∷ ks) ≡ i → i < length (k ∷ ks) → heard_in who point now (k ∷ ks) ≡ set (k ∷ ks) i (heard_again who now (get_or (k ∷ ks) i d))
heard_at-by who point now k ks zero d later true is at inside = rw is refl
heard_at-by who point now k ks (suc i) d later true is at inside = let e : 0 ≡ suc i = rw is at at in absurd (omega arith)
heard_at-by who point now k ks zero d later false is at inside = let e : 1 + position_or_len (is_of who.actor) ks ≡ 0 = rw is at at in absurd (omega arith)
heard_at-by who point now k ks (suc i) d later false is at inside =
    let e : 1 + position_or_len (is_of who.actor) ks ≡ suc i = rw is at at in
    rw is (ap (λ (xs : List Known). k ∷ xs) (later i (omega arith) (omega arith)))

pub heard_at : (who : Who) (point now : ℕ) (ks : List Known) (i : ℕ) (d : Known) → position_or_len (is_of who.actor) ks ≡ i → i < length ks → heard_in who point now ks ≡ set ks i (heard_again who now (get_or ks i d))
heard_at who point now [] i d at inside = absurd (omega arith)
heard_at who point now (k ∷ ks) i d at inside = heard_at-by who point now k ks i d (λ j. heard_at who point now ks j d) (is_of who.actor k) refl at inside

pub found_place : (p : Known → Bool) (xs : List Known) (i : ℕ) → Some i ≡ position p xs → position_or_len p xs ≡ i
found_place p xs i e = by (nat_lt (position_or_len p xs) (length xs)) refl where
  by : (b : Bool) → nat_lt (position_or_len p xs) (length xs) ≡ b → position_or_len p xs ≡ i
  by true is = let e' : Some i ≡ Some (position_or_len p xs) = rw is at e in cc
  by false is = let e' : Some i ≡ None = rw is at e in absurd (cc)

-- the later instance counts
pub heard_later : (who : Who) (point now : ℕ) (ks : List Known) (i : ℕ) (d : Known) → Some i ≡ position (is_of who.actor) ks → i < length ks → (get_or ks i d).who.instance ≤ who.instance → set ks i (record { who = who; point = (get_or ks i d).point; heard = now }) ≡ heard_in who point now ks
heard_later who point now ks i d at inside le =
    let newer : nat_le (get_or ks i d).who.instance who.instance ≡ true = grind (arith, nat_tests) in
    rw (heard_at who point now ks i d (found_place (is_of who.actor) ks i at) inside, newer) refl

set_same : (ks : List Known) (i : ℕ) (d : Known) → i < length ks → set ks i (get_or ks i d) ≡ ks
set_same [] i d inside = absurd (omega arith)
set_same (k ∷ ks) zero d inside = refl
set_same (k ∷ ks) (suc i) d inside = ap (λ (xs : List Known). k ∷ xs) (set_same ks i d (omega arith))

-- a lower instance changes nothing
pub heard_older : (who : Who) (point now : ℕ) (ks : List Known) (i : ℕ) (d : Known) → Some i ≡ position (is_of who.actor) ks → i < length ks → who.instance < (get_or ks i d).who.instance → ks ≡ heard_in who point now ks
heard_older who point now ks i d at inside lt =
    let older : nat_le (get_or ks i d).who.instance who.instance ≡ false = grind (arith, nat_tests) in
    rw (heard_at who point now ks i d (found_place (is_of who.actor) ks i at) inside, older) (sym (set_same ks i d inside))

pub heard_first-by : (who : Who) (point now : ℕ) (k : Known) (ks : List Known) → (b : Bool) → is_of who.actor k ≡ b → list_any (is_of who.actor) (k ∷ ks) ≡ false → (list_any (is_of who.actor) ks ≡ false → heard_in who point now ks ≡ ks ++ record { who = who; point = point; heard = now } ∷ []) → heard_in who point now (k ∷ ks) ≡ (k ∷ ks) ++ record { who = who; point = point; heard = now } ∷ []
heard_first-by who point now k ks true is none later = let e : true ≡ false = rw is at none in absurd (cc)
heard_first-by who point now k ks false is none later =
    let e : list_any (is_of who.actor) ks ≡ false = rw is at none in
    rw is (ap (λ (xs : List Known). k ∷ xs) (later e))

pub heard_first : (who : Who) (point now : ℕ) (ks : List Known) → list_any (is_of who.actor) ks ≡ false → heard_in who point now ks ≡ ks ++ record { who = who; point = point; heard = now } ∷ []
heard_first who point now [] none = refl
heard_first who point now (k ∷ ks) none = heard_first-by who point now k ks (is_of who.actor k) refl none (heard_first who point now ks)

any_is-by : (p : Known → Bool) (x : Known) (xs : List Known) → list_any p xs ≡ nat_lt (position_or_len p xs) (length xs) → (b : Bool) → p x ≡ b → list_any p (x ∷ xs) ≡ nat_lt (position_or_len p (x ∷ xs)) (length (x ∷ xs))
any_is-by p x xs later true is = rw is (grind (arith, nat_tests))
any_is-by p x xs later false is = rw (is, later) (grind (arith, nat_tests))

any_is : (p : Known → Bool) (xs : List Known) → list_any p xs ≡ nat_lt (position_or_len p xs) (length xs)
any_is p [] = refl
any_is p (x ∷ xs) = any_is-by p x xs (any_is p xs) (p x) refl

pub absent : (p : Known → Bool) (xs : List Known) → None ≡ position p xs → false ≡ list_any p xs
absent p xs e = by (nat_lt (position_or_len p xs) (length xs)) refl where
  by : (b : Bool) → nat_lt (position_or_len p xs) (length xs) ≡ b → false ≡ list_any p xs
  by true is = let e' : None ≡ Some (position_or_len p xs) = rw is at e in absurd (cc)
  by false is = sym (any_is p xs ∙ is)
