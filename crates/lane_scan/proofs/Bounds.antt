-- The least and the greatest of lists of lanes.
use Rattle.std.proofs.Common.{◌≡◌, ℕ, zero, suc, inl, inr, ◌+◌, ◌-◌, ◌%◌, ◌^◌, ◌<◌, ◌≤◌, Bool, true, false, min, max, List, [], ◌∷◌, ◌++◌, length, take, refl, sym, ap, ◌∙◌, arith, nat_lt, get_or, add-one}
use Rattle.std.proofs.Math.Seq.{take-suc}
use lib.Lanes.{zip2, sel_l}
use Rattle.std.proofs.lemmas.Bool.Decides.{nat_tests}
use Rattle.std.proofs.lemmas.Bool.{cases_lt}
use Rattle.std.proofs.lemmas.List.{length-map}
use Rattle.lane_scan.specs.Spans.{least_of, greatest_of, turned}

pub least_of_le : (xs : List ℕ) → least_of xs ≤ 2 ^ 64 - 1
least_of_le [] = omega arith
least_of_le (x ∷ xs) = let h = least_of_le xs in omega arith

pub least_of-append : (xs ys : List ℕ) → least_of (xs ++ ys) ≡ min (least_of xs) (least_of ys)
least_of-append [] ys = let h = least_of_le ys in omega arith
least_of-append (x ∷ xs) ys = let h = least_of-append xs ys in omega arith

pub greatest_of-append : (xs ys : List ℕ) → greatest_of (xs ++ ys) ≡ max (greatest_of xs) (greatest_of ys)
greatest_of-append [] ys = omega arith
greatest_of-append (x ∷ xs) ys = let h = greatest_of-append xs ys in omega arith

turned-sel_l : (ms : List Bool) (xs ys : List ℕ) → turned (sel_l ms xs ys) ≡ sel_l ms (turned xs) (turned ys)
turned-sel_l [] xs ys = refl
turned-sel_l (m ∷ ms) [] ys = refl
turned-sel_l (m ∷ ms) (x ∷ xs) [] = refl
turned-sel_l (true ∷ ms) (x ∷ xs) (y ∷ ys) = ap (λ zs. (x + 2 ^ 63) % 2 ^ 64 ∷ zs) (turned-sel_l ms xs ys)
turned-sel_l (false ∷ ms) (x ∷ xs) (y ∷ ys) = ap (λ zs. (y + 2 ^ 63) % 2 ^ 64 ∷ zs) (turned-sel_l ms xs ys)

least_of-lesser : (xs ys : List ℕ) → length xs ≡ length ys → least_of (sel_l (zip2 nat_lt xs ys) xs ys) ≡ min (least_of xs) (least_of ys)
least_of-lesser [] [] h = refl
least_of-lesser [] (y ∷ ys) h = absurd (omega arith)
least_of-lesser (x ∷ xs) [] h = absurd (omega arith)
least_of-lesser (x ∷ xs) (y ∷ ys) h =
    let later = least_of-lesser xs ys (omega arith) in grind (arith, nat_tests)

greatest_of-greater : (xs ys : List ℕ) → length xs ≡ length ys → greatest_of (sel_l (zip2 nat_lt xs ys) ys xs) ≡ max (greatest_of xs) (greatest_of ys)
greatest_of-greater [] [] h = refl
greatest_of-greater [] (y ∷ ys) h = absurd (omega arith)
greatest_of-greater (x ∷ xs) [] h = absurd (omega arith)
greatest_of-greater (x ∷ xs) (y ∷ ys) h =
    let later = greatest_of-greater xs ys (omega arith) in grind (arith, nat_tests)

pub length-turned : (xs : List ℕ) → length (turned xs) ≡ length xs
length-turned xs = length-map xs (λ x. (x + 2 ^ 63) % 2 ^ 64)

-- what a selection by the comparison of turned lanes gives
pub least_selected : (xs ys : List ℕ) → length xs ≡ 8 → length ys ≡ 8 → least_of (turned (sel_l (zip2 nat_lt (turned xs) (turned ys)) xs ys)) ≡ min (least_of (turned xs)) (least_of (turned ys))
least_selected xs ys a b =
    ap least_of (turned-sel_l (zip2 nat_lt (turned xs) (turned ys)) xs ys)
    ∙ least_of-lesser (turned xs) (turned ys) (length-turned xs ∙ a ∙ sym (length-turned ys ∙ b))

pub greatest_selected : (xs ys : List ℕ) → length xs ≡ 8 → length ys ≡ 8 → greatest_of (turned (sel_l (zip2 nat_lt (turned xs) (turned ys)) ys xs)) ≡ max (greatest_of (turned xs)) (greatest_of (turned ys))
greatest_selected xs ys a b =
    ap greatest_of (turned-sel_l (zip2 nat_lt (turned xs) (turned ys)) ys xs)
    ∙ greatest_of-greater (turned xs) (turned ys) (length-turned xs ∙ a ∙ sym (length-turned ys ∙ b))

pub least_of-more : (xs : List ℕ) (i : ℕ) → i < length xs → least_of (take (i + 1) xs) ≡ min (least_of (take i xs)) (get_or xs i 0)
least_of-more xs i h =
    let le = least_of_le (take i xs) in
    rw (add-one, take-suc xs i 0 h) (least_of-append (take i xs) (get_or xs i 0 ∷ []) ∙ omega arith)

pub greatest_of-more : (xs : List ℕ) (i : ℕ) → i < length xs → greatest_of (take (i + 1) xs) ≡ max (greatest_of (take i xs)) (get_or xs i 0)
greatest_of-more xs i h =
    rw (add-one, take-suc xs i 0 h) (greatest_of-append (take i xs) (get_or xs i 0 ∷ []) ∙ omega arith)

-- ---- each is below or above all, and is one of them
pub least_of-le-get_or : (xs : List ℕ) (k : ℕ) → k < length xs → least_of xs ≤ get_or xs k 0
least_of-le-get_or [] k h = absurd (omega arith)
least_of-le-get_or (x ∷ xs) zero h = omega arith
least_of-le-get_or (x ∷ xs) (suc k) h = let later = least_of-le-get_or xs k (omega arith) in omega arith

pub greatest_of-ge-get_or : (xs : List ℕ) (k : ℕ) → k < length xs → get_or xs k 0 ≤ greatest_of xs
greatest_of-ge-get_or [] k h = absurd (omega arith)
greatest_of-ge-get_or (x ∷ xs) zero h = omega arith
greatest_of-ge-get_or (x ∷ xs) (suc k) h = let later = greatest_of-ge-get_or xs k (omega arith) in omega arith

-- some place has this number
pub record StandsAt (xs : List ℕ) (n : ℕ) : Type 0 where
  pub place : ℕ
  pub inside : place < length xs
  pub is : get_or xs place 0 ≡ n

stands_later : (x : ℕ) (xs : List ℕ) (n m : ℕ) → StandsAt xs n → n ≡ m → StandsAt (x ∷ xs) m
stands_later x xs n m s e = record { place = suc s.place; inside = omega (arith, s.inside); is = s.is ∙ e }

pub least_of_stands : (xs : List ℕ) → 0 < length xs → ((k : ℕ) → get_or xs k 0 < 2 ^ 64) → StandsAt xs (least_of xs)
least_of_stands [] some fit = absurd (omega arith)
least_of_stands (x ∷ []) some fit = let small : x < 2 ^ 64 = fit 0 in record { place = 0; inside = omega arith; is = omega arith }
least_of_stands (x ∷ y ∷ ys) some fit = elim (cases_lt (least_of (y ∷ ys)) x) [
  | inl later ↦ stands_later x (y ∷ ys) (least_of (y ∷ ys)) (min x (least_of (y ∷ ys))) (least_of_stands (y ∷ ys) (omega arith) (λ k. fit (suc k))) (omega arith)
  | inr here ↦ record { place = 0; inside = omega arith; is = omega arith }
]

pub greatest_of_stands : (xs : List ℕ) → 0 < length xs → StandsAt xs (greatest_of xs)
greatest_of_stands [] some = absurd (omega arith)
greatest_of_stands (x ∷ []) some = record { place = 0; inside = omega arith; is = omega arith }
greatest_of_stands (x ∷ y ∷ ys) some = elim (cases_lt x (greatest_of (y ∷ ys))) [
  | inl later ↦ stands_later x (y ∷ ys) (greatest_of (y ∷ ys)) (max x (greatest_of (y ∷ ys))) (greatest_of_stands (y ∷ ys) (omega arith)) (omega arith)
  | inr here ↦ record { place = 0; inside = omega arith; is = omega arith }
]
