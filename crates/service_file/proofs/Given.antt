-- What a function gives of the entries of a list, and numbers of which none comes twice.
use Rattle.std.proofs.Common.{◌≡◌, ◌≢◌, ℕ, suc, ◌≤◌, ◌&&◌, ◌==◌, Bool, true, false, not, List, [], ◌∷◌, length, Option, Some, None, arith, refl}
use Rattle.std.specs.Prelude.{All}
use Rattle.std.specs.List.{AllPairs, cons_option, filter_map, list_any}
use Rattle.std.proofs.lemmas.Bool.Decides.{nat_tests}
use Rattle.std.proofs.lemmas.List.Elements.{All-cons}
use Rattle.std.proofs.lemmas.List.Kept.{AllPairs-cons}
use Rattle.service_file.specs.Entries.{are_apart}

pub both_true : (a b : Bool) → (a && b) ≡ true → (a ≡ true) × (b ≡ true)
both_true true b e = (refl, e)
both_true false b e = absurd (cc)

pub no_more_given : {X Y : Type 0} (f : X → Option Y) (xs : List X) → length (filter_map f xs) ≤ length xs
no_more_given f [] = omega arith
no_more_given {Y = Y} f (x ∷ xs) = by (f x) (no_more_given f xs)
  where
    by : (o : Option Y) → length (filter_map f xs) ≤ length xs → length (cons_option o (filter_map f xs)) ≤ suc (length xs)
    by None h = omega (arith, h)
    by (Some y) h = omega (arith, h)

-- what holds of each value that is given holds of all
pub all_given : {X Y : Type 0} (P : Y → Type 0) (f : X → Option Y) (xs : List X) → ((x : X) (y : Y) → f x ≡ Some y → P y)
    → All P (filter_map f xs)
all_given P f [] h = λ k d within. absurd (omega arith)
all_given {Y = Y} P f (x ∷ xs) h = by (f x) refl (all_given P f xs h)
  where
    by : (o : Option Y) → f x ≡ o → All P (filter_map f xs) → All P (cons_option o (filter_map f xs))
    by None e rest = rest
    by (Some y) e rest = All-cons P y (filter_map f xs) (h x y e) rest

none_is : (n : ℕ) (ns : List ℕ) → list_any (λ m. m == n) ns ≡ false → All (λ m. n ≢ m) ns
none_is n [] e = λ k d within. absurd (omega arith)
none_is n (m ∷ ms) e = by (m == n) refl (list_any (λ k. k == n) ms) refl e (none_is n ms)
  where
    differs : (m == n) ≡ false → n ≢ m
    differs h = grind (arith, nat_tests, h)

    by : (b : Bool) → (m == n) ≡ b → (c : Bool) → list_any (λ k. k == n) ms ≡ c → list_any (λ k. k == n) (m ∷ ms) ≡ false
        → (list_any (λ k. k == n) ms ≡ false → All (λ k. n ≢ k) ms) → All (λ k. n ≢ k) (m ∷ ms)
    by true h c g none rest = let never : true ≡ false = rw h at none in absurd (cc)
    by false h true g none rest = let never : true ≡ false = rw (h, g) at none in absurd (cc)
    by false h false g none rest = All-cons (λ k. n ≢ k) m ms (differs h) (rest g)

pub numbers_apart : (ns : List ℕ) → are_apart ns ≡ true → AllPairs (λ m n. m ≢ n) ns
numbers_apart [] e = λ i j d h k. absurd (omega arith)
numbers_apart (n ∷ ns) e = by (list_any (λ m. m == n) ns) refl e (numbers_apart ns)
  where
    by : (b : Bool) → list_any (λ m. m == n) ns ≡ b → (not b && are_apart ns) ≡ true
        → (are_apart ns ≡ true → AllPairs (λ m k. m ≢ k) ns) → AllPairs (λ m k. m ≢ k) (n ∷ ns)
    by true h f rest = absurd (cc)
    by false h f rest = AllPairs-cons (λ m k. m ≢ k) n ns (none_is n ns h) (rest f)
