-- The names that a mask marks are those in its range.
use Rattle.std.proofs.Common.{◌≡◌, ◌==◌, ℕ, zero, suc, ◌+◌, ◌-◌, ◌<◌, ◌≤◌, ◌↔◌, Bool, true, false, cond, IsTrue, List, [], ◌∷◌, ◌++◌, filter, length, map, take, arith, refl, ap, sym, ◌∙◌}
use Rattle.std.specs.List.{slice_index, slice_index_or}
use Rattle.std.proofs.lemmas.Bool.{both_ways, eqb-true}
use Rattle.std.proofs.lemmas.List.{append-nil, append_assoc, take_all}
use Rattle.lane_scan.specs.Masks.{bit_of, is_between}
use Rattle.ring_points.specs.Limits.{most_listed_names}
use Rattle.ring_points.specs.declared.interval.Interval.{Interval}
use Rattle.name_rules.specs.Names.{is_within, point_of}
use Rattle.name_service.specs.Stores.{Marks, marked, name_if}
use Rattle.name_rules.proofs.Order.{unless}

pub take-none : {A : Type 0} (xs : List A) → take 0 xs ≡ []
take-none [] = refl
take-none (x ∷ xs) = refl

-- a bit is 1 exactly where a test is true
alike : (n : ℕ) (b : Bool) → (n ≡ 1) ↔ IsTrue b → (n == 1) ≡ b
alike n true both = ap (λ m. m == 1) (both.1 refl)
alike n false both = unless (n == 1) (λ e. both_ways false refl (both.0 (eqb-true n 1 e)))

point_at : (names : List (List ℕ)) (i : ℕ) → i < length names → slice_index_or (map point_of names) i 0 ≡ point_of (slice_index_or names i [])
point_at [] i l = absurd (omega arith)
point_at (n ∷ ns) zero l = refl
point_at (n ∷ ns) (suc i) l = point_at ns i (omega arith)

length-points : (names : List (List ℕ)) → length (map point_of names) ≡ length names
length-points [] = refl
length-points (n ∷ ns) = ap suc (length-points ns)

chosen : (b : Bool) (n : List ℕ) (ns : List (List ℕ)) → name_if b n ++ ns ≡ cond b (n ∷ ns) ns
chosen true n ns = refl
chosen false n ns = refl

-- the bits from number i on answer the test of each name
filtered : (range : Interval) (mask : List ℕ) (names : List (List ℕ)) (i : ℕ) → ((j : ℕ) → j < length names → (bit_of mask (i + j) == 1) ≡ is_within range (slice_index_or names j []))
    → marked mask i names ≡ filter (is_within range) names
filtered range mask [] i h = refl
filtered range mask (n ∷ ns) i h =
    ap (λ rest. name_if (bit_of mask i == 1) n ++ rest) (filtered range mask ns (i + 1) (λ j l. ap (λ (k : ℕ). bit_of mask k == 1) (one_later j) ∙ h (suc j) (omega arith)))
    ∙ chosen (bit_of mask i == 1) n (filter (is_within range) ns)
    ∙ ap (λ b. cond b (n ∷ filter (is_within range) ns) (filter (is_within range) ns)) (ap (λ (k : ℕ). bit_of mask k == 1) here ∙ h 0 (omega arith))
  where
    one_later : (j : ℕ) → i + 1 + j ≡ i + suc j
    one_later j = omega arith

    here : i ≡ i + 0
    here = omega arith

pub marked_in : (range : Interval) (points mask : List ℕ) (names : List (List ℕ)) → Marks range points mask → points ≡ map point_of names → marked mask 0 names ≡ filter (is_within range) names
marked_in range points mask names m e =
    filtered range mask names 0 (λ j l.
    let same : slice_index points j ≡ point_of (slice_index_or names j []) = ap (λ ps. slice_index_or ps j 0) e ∙ point_at names j l in
    ap (λ (k : ℕ). bit_of mask k == 1) (let at : 0 + j ≡ j = omega arith in at) ∙ alike (bit_of mask j) _ (m.each j (omega (arith, ap length e, length-points names, l))) ∙ ap (is_between range.lo range.hi) same)

-- one more name of the window
pub one_more : (mask : List ℕ) (i : ℕ) (n : List ℕ) (ns names names' all : List (List ℕ)) → i < most_listed_names → names ++ marked mask i (take (most_listed_names - i) (n ∷ ns)) ≡ all
    → names' ≡ names ++ name_if (bit_of mask i == 1) n → names' ++ marked mask (i + 1) (take (most_listed_names - (i + 1)) ns) ≡ all
one_more mask i n ns names names' all l so more =
    let behind = marked mask (i + 1) (take (most_listed_names - (i + 1)) ns) in
    let left : most_listed_names - i ≡ suc (most_listed_names - (i + 1)) = omega arith in
    ap (λ xs. xs ++ behind) more ∙ append_assoc names (name_if (bit_of mask i == 1) n) behind
    ∙ sym (ap (λ (k : ℕ). names ++ marked mask i (take k (n ∷ ns))) left) ∙ so

-- the points of the window

front : (xs ys : List ℕ) → take (length xs) (xs ++ ys) ≡ xs
front [] ys = take-none ys
front (x ∷ xs) ys = ap (λ rest. x ∷ rest) (front xs ys)

pub window_full : (points behind all : List ℕ) → length points ≡ most_listed_names → points ++ behind ≡ all → points ≡ take most_listed_names all
window_full points behind all full so = sym (front points behind) ∙ ap (λ (k : ℕ). take k (points ++ behind)) full ∙ ap (take most_listed_names) so

pub window_ended : (points all : List ℕ) → length points ≤ most_listed_names → points ++ [] ≡ all → points ≡ take most_listed_names all
window_ended points all few so = sym (take_all most_listed_names points few) ∙ ap (take most_listed_names) (sym (append-nil points) ∙ so)
