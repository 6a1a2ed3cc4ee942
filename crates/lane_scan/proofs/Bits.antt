-- The bits of a word say which of 64 points are in a range.
use Rattle.std.proofs.Common.{◌≡◌, ℕ, ◌+◌, ◌*◌, ◌/◌, ◌%◌, ◌<◌, ◌≤◌, ◌↔◌, inl, inr, Bool, true, false, cond, List, length, take, drop, min, map, refl, sym, subst, ap, ◌∙◌, arith, get_or, set, nat_le, leb-true, le-leb}
use lib.Lanes.{chunk}
use Rattle.std.specs.Bool.{Decides}
use Rattle.std.specs.Int.{bit_at}
use Rattle.std.proofs.lemmas.Bool.{cases_lt}
use Rattle.std.proofs.lemmas.Bool.Decides.{Decides-and, Decides-like, Decides-at}
use Rattle.std.proofs.lemmas.Grind.{get_or-set_at}
use Rattle.std.proofs.lemmas.List.{get_or-map, get_or_past, get_or-set_other, length-map, length-take, length-drop, take_all, drop_all}
use Rattle.std.proofs.lemmas.Simd.{bit_mask_l, get_or-chunk}
use Rattle.lane_scan.specs.Masks.{IsIn, is_between, mask_of}

-- what split_at at the lesser of 64 and the length leaves
pub take_fit : (n : ℕ) (xs : List ℕ) → take (min (length xs) n) xs ≡ take n xs
take_fit n xs = elim (cases_lt (length xs) n) [
  | inl short ↦ let few : min (length xs) n ≡ length xs = omega arith in rw few (take_all (length xs) xs (omega arith) ∙ sym (take_all n xs (omega arith)))
  | inr long ↦ let all : min (length xs) n ≡ n = omega arith in rw all refl
]

pub drop_fit : (n : ℕ) (xs : List ℕ) → drop (min (length xs) n) xs ≡ drop n xs
drop_fit n xs = elim (cases_lt (length xs) n) [
  | inl short ↦ let few : min (length xs) n ≡ length xs = omega arith in rw few (drop_all (length xs) xs (omega arith) ∙ sym (drop_all n xs (omega arith)))
  | inr long ↦ let all : min (length xs) n ≡ n = omega arith in rw all refl
]

-- a bit says that there is a point, and that it is in the range
bit_decides : (lo hi : ℕ) (points : List ℕ) (from j : ℕ) → j < 64 → Decides (get_or (map (is_between lo hi) (chunk from 64 points)) j false) (IsIn lo hi points (from + j))
bit_decides lo hi points from j small =
    let xs = chunk from 64 points in
    let t = is_between lo hi in
    let p = get_or points (from + j) 0 in
    elim (cases_lt (from + j) (length points)) [
      | inl inside ↦
          let there : j < length xs = omega (arith, length-take 64 (drop from points), length-drop from points) in
          let read : get_or (map t xs) j false ≡ t p = get_or-map t xs j 0 false there ∙ ap t (get_or-chunk from 64 points j 0 small) in
          let both = Decides-and (nat_le lo p) (nat_le p hi) (leb-true lo p, le-leb lo p) (leb-true p hi, le-leb p hi) in
          Decides-like (get_or (map t xs) j false) (λ h. record { inside = inside; from = h.0; to = h.1 }) (λ i. (i.from, i.to)) (Decides-at (get_or (map t xs) j false) (t p) read both)
      | inr outside ↦
          let past : length (map t xs) ≤ j = omega (arith, length-map xs t, length-take 64 (drop from points), length-drop from points) in
          let read : get_or (map t xs) j false ≡ false = get_or_past (map t xs) j false past in
          (λ e. absurd (cc), λ i. absurd (omega (arith, i.inside)))
    ]

one_if : (b : Bool) → ◌≡◌ {A = ℕ} (cond b 1 0) 1 ↔ (b ≡ true)
one_if true = (λ _. refl, λ _. refl)
one_if false = (λ e. absurd (omega arith), λ e. absurd (cc))

-- bit j of the word of the 64 points from a place on
pub word_bit : (lo hi : ℕ) (points : List ℕ) (from j : ℕ) → j < 64 → (bit_at (mask_of lo hi (chunk from 64 points)) j ≡ 1) ↔ IsIn lo hi points (from + j)
word_bit lo hi points from j small =
    let b = get_or (map (is_between lo hi) (chunk from 64 points)) j false in
    let read : bit_at (mask_of lo hi (chunk from 64 points)) j ≡ cond b 1 0 = bit_mask_l (map (is_between lo hi) (chunk from 64 points)) j in
    let d = bit_decides lo hi points from j small in
    (λ e. d.0 ((one_if b).0 (sym read ∙ e)), λ i. read ∙ (one_if b).1 (d.1 i))

-- one word more
pub masked_more : (lo hi : ℕ) (points words : List ℕ) (q word : ℕ) → q < length words → word ≡ mask_of lo hi (chunk (64 * q) 64 points) → ((i : ℕ) → i < 64 * q → (bit_at (get_or words (i / 64) 0) (i % 64) ≡ 1) ↔ IsIn lo hi points i) → (i : ℕ) → i < 64 * (q + 1) → (bit_at (get_or (set words q word) (i / 64) 0) (i % 64) ≡ 1) ↔ IsIn lo hi points i
masked_more lo hi points words q word inside is below i small = elim (cases_lt i (64 * q)) [
  | inl old ↦ rw (get_or-set_other words q (i / 64) word 0 (λ e. absurd (omega arith))) (below i old)
  | inr new ↦
      let here : i / 64 ≡ q = omega arith in
      let place : i ≡ 64 * q + i % 64 = omega arith in
      let read : get_or (set words q word) (i / 64) 0 ≡ mask_of lo hi (chunk (64 * q) 64 points) = get_or-set_at words q (i / 64) word 0 here inside ∙ is in
      let bit = word_bit lo hi points (64 * q) (i % 64) (omega arith) in
      let In : ℕ → Type 0 = λ k. IsIn lo hi points k in
      rw read ((λ e. subst In (sym place) (bit.0 e), λ h. bit.1 (subst In place h)))
]
