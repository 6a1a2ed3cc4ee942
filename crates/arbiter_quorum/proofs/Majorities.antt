-- Counted answers are no more than the arbitrators, and two majorities of them share one.
use Rattle.std.proofs.Common.{◌≡◌, ℕ, zero, suc, ◌+◌, ◌<◌, ◌≤◌, ◌==◌, ◌⊎◌, inl, inr, Bool, true, false, cond, ◌&&◌, List, [], ◌∷◌, ◌++◌, length, length-append, refl, ◌∙◌, arith, IsTrue}
use Rattle.std.specs.Prelude.{nat_le, count_by}
use Rattle.std.proofs.lemmas.List.Sums.{sum_by-cons}
use Rattle.std.proofs.lemmas.List.Folds.{list_any-append}
use Rattle.std.proofs.lemmas.Bool.Decides.{nat_tests}
use Rattle.arbiter_quorum.specs.Tallies.{is_majority, has_answered}
use Rattle.arbiter_quorum.specs.Laws.{IsShared}
use Rattle.arbiter_quorum.specs.Counted.{are_counted, has_given, count_given}

-- how many answers of arbitrators up to m are such
abbrev pub count_up : {A : Type 0} → ℕ → (A → Bool) → List (ℕ × A) → ℕ
count_up m p answers = count_by (λ answer. nat_le answer.0 m && p answer.1) answers

count_up-cons : {A : Type 0} (m : ℕ) (p : A → Bool) (answer : ℕ × A) (answers : List (ℕ × A)) → count_up m p (answer ∷ answers) ≡ cond (nat_le answer.0 m && p answer.1) 1 0 + count_up m p answers
count_up-cons m p answer answers = sum_by-cons (λ a. cond (nat_le a.0 m && p a.1) 1 0) answer answers

count_up-none : {A : Type 0} (n : ℕ) (p : A → Bool) (answers : List (ℕ × A)) → IsTrue (are_counted n answers) → count_up 0 p answers ≡ 0
count_up-none n p [] h = refl
count_up-none n p (answer ∷ answers) h =
    let later = count_up-none n p answers in
    let here = count_up-cons 0 p answer answers in
    grind (arith, nat_tests, later, here)

count_up-all : {A : Type 0} (n : ℕ) (p : A → Bool) (answers : List (ℕ × A)) → IsTrue (are_counted n answers) → count_up n p answers ≡ count_given p answers
count_up-all n p [] h = refl
count_up-all n p (answer ∷ answers) h =
    let later = count_up-all n p answers in
    let here = count_up-cons n p answer answers in
    let given = sum_by-cons (λ a. cond (p a.1) 1 0) answer answers in
    grind (arith, nat_tests, later, here, given)

-- one that has not answered adds nothing
count_up-absent : {A : Type 0} (m : ℕ) (p : A → Bool) (answers : List (ℕ × A)) → has_answered (suc m) answers ≡ false → count_up (suc m) p answers ≡ count_up m p answers
count_up-absent m p [] h = refl
count_up-absent m p (answer ∷ answers) h =
    let later = count_up-absent m p answers in
    let here = count_up-cons m p answer answers in
    let next = count_up-cons (suc m) p answer answers in
    grind (arith, nat_tests, later, here, next)

-- the next arbitrator has given such an answer, which adds one, or adds none
abbrev IsNext : {A : Type 0} → ℕ → (A → Bool) → List (ℕ × A) → Type 0
IsNext m p answers = (IsTrue (has_given (suc m) p answers) × (count_up (suc m) p answers ≡ count_up m p answers + 1)) ⊎ (count_up (suc m) p answers ≡ count_up m p answers)

next_here : {A : Type 0} (n m : ℕ) (p : A → Bool) (answer : ℕ × A) (answers : List (ℕ × A)) → IsTrue (are_counted n (answer ∷ answers)) → answer.0 == suc m ≡ true → (b : Bool) → p answer.1 ≡ b → IsNext m p (answer ∷ answers)
next_here n m p answer answers h is true given =
    let later = count_up-absent m p answers in
    let here = count_up-cons m p answer answers in
    let next = count_up-cons (suc m) p answer answers in
    inl (grind (arith, nat_tests), grind (arith, nat_tests, later, here, next))
next_here n m p answer answers h is false given =
    let later = count_up-absent m p answers in
    let here = count_up-cons m p answer answers in
    let next = count_up-cons (suc m) p answer answers in
    inr (grind (arith, nat_tests, later, here, next))

next_later : {A : Type 0} (m : ℕ) (p : A → Bool) (answer : ℕ × A) (answers : List (ℕ × A)) → answer.0 == suc m ≡ false → IsNext m p answers → IsNext m p (answer ∷ answers)
next_later m p answer answers other (inl given) =
    let here = count_up-cons m p answer answers in
    let next = count_up-cons (suc m) p answer answers in
    inl (grind (arith, nat_tests), grind (arith, nat_tests, here, next))
next_later m p answer answers other (inr same) =
    let here = count_up-cons m p answer answers in
    let next = count_up-cons (suc m) p answer answers in
    inr (grind (arith, nat_tests, here, next))

next_by : {A : Type 0} (n m : ℕ) (p : A → Bool) (answer : ℕ × A) (answers : List (ℕ × A)) → IsTrue (are_counted n (answer ∷ answers)) → IsNext m p answers → (b : Bool) → answer.0 == suc m ≡ b → IsNext m p (answer ∷ answers)
next_by n m p answer answers h later true is = next_here n m p answer answers h is (p answer.1) refl
next_by n m p answer answers h later false is = next_later m p answer answers is later

count_up-next : {A : Type 0} (n m : ℕ) (p : A → Bool) (answers : List (ℕ × A)) → IsTrue (are_counted n answers) → IsNext m p answers
count_up-next n m p [] h = inr refl
count_up-next n m p (answer ∷ answers) h =
    next_by n m p answer answers h (count_up-next n m p answers (grind (arith, nat_tests))) (answer.0 == suc m) refl

shared_next : {A : Type 0} (m : ℕ) (p q : A → Bool) (xs ys : List (ℕ × A)) → IsNext m p xs → IsNext m q ys → count_up m p xs + count_up m q ys ≤ m → IsShared p xs q ys ⊎ (count_up (suc m) p xs + count_up (suc m) q ys ≤ suc m)
shared_next m p q xs ys (inl given) (inl other) few = inl (suc m, given.0, other.0)
shared_next m p q xs ys (inl given) (inr same) few = inr (omega arith)
shared_next m p q xs ys (inr same) (inl given) few = inr (omega arith)
shared_next m p q xs ys (inr same) (inr other) few = inr (omega arith)

shared_up : {A : Type 0} (n m : ℕ) (p q : A → Bool) (xs ys : List (ℕ × A)) → IsTrue (are_counted n xs) → IsTrue (are_counted n ys) → IsShared p xs q ys ⊎ (count_up m p xs + count_up m q ys ≤ m)
shared_up n zero p q xs ys h k = let a = count_up-none n p xs h in let b = count_up-none n q ys k in inr (omega arith)
shared_up n (suc m) p q xs ys h k = elim (shared_up n m p q xs ys h k) [
  | inl found ↦ inl found
  | inr few ↦ shared_next m p q xs ys (count_up-next n m p xs h) (count_up-next n m q ys k) few
]

pub two_majorities : {A : Type 0} (n : ℕ) (xs ys : List (ℕ × A)) (p q : A → Bool) → IsTrue (are_counted n xs) → IsTrue (are_counted n ys) → IsTrue (is_majority n (count_given p xs)) → IsTrue (is_majority n (count_given q ys)) → IsShared p xs q ys
two_majorities n xs ys p q h k i j = elim (shared_up n n p q xs ys h k) [
  | inl found ↦ found
  | inr few ↦ absurd (too_many (count_up-all n p xs h) (count_up-all n q ys k) few)
] where
  too_many : count_up n p xs ≡ count_given p xs → count_up n q ys ≡ count_given q ys → count_up n p xs + count_up n q ys ≤ n → ⊥
  too_many d e few = grind (arith, nat_tests)

count_given-all : {A : Type 0} (answers : List (ℕ × A)) → count_given (λ _. true) answers ≡ length answers
count_given-all [] = refl
count_given-all (answer ∷ answers) = sum_by-cons (λ _. 1) answer answers ∙ omega (arith, count_given-all answers)

-- there are no more counted answers than arbitrators
pub few_counted : {A : Type 0} (n : ℕ) (answers : List (ℕ × A)) → IsTrue (are_counted n answers) → length answers ≤ n
few_counted {A} n answers h =
    let none : List (ℕ × A) = [] in
    elim (shared_up n n (λ _. true) (λ _. true) answers none h refl) [
      | inl found ↦ absurd (cc found.2)
      | inr few ↦ omega (arith, few, count_up-all n (λ _. true) answers h, count_given-all answers)
    ]

-- the answer of one that has not answered may be counted too
pub are_counted-push : {A : Type 0} (n a : ℕ) (x : A) (answers : List (ℕ × A)) → 1 ≤ a → a ≤ n → has_answered a answers ≡ false → IsTrue (are_counted n answers) → IsTrue (are_counted n (answers ++ (a, x) ∷ []))
are_counted-push n a x [] from to new h = grind (arith, nat_tests)
are_counted-push {A = A} n a x (answer ∷ answers) from to new h =
    let later = are_counted-push n a x answers from to in
    let both = list_any-append (λ (y : ℕ × A). y.0 == answer.0) answers ((a, x) ∷ []) in
    grind (arith, nat_tests, later, both)

pub room_for_one : {A : Type 0} (n a : ℕ) (x : A) (answers : List (ℕ × A)) → 1 ≤ a → a ≤ n → has_answered a answers ≡ false → IsTrue (are_counted n answers) → length answers < n
room_for_one n a x answers from to new h = omega (arith, few_counted n (answers ++ (a, x) ∷ []) (are_counted-push n a x answers from to new h), length-append answers ((a, x) ∷ []))
