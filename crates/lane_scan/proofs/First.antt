-- The first place of a point in a slice, a block of eight after another.
use Rattle.std.proofs.Common.{◌≡◌, ◌≢◌, inl, inr, ℕ, ◌+◌, ◌<◌, ◌≤◌, ◌==◌, Bool, true, false, not, List, [], ◌∷◌, length, map, refl, sym, ap, ◌∙◌, arith, eqb-true, get_or}
use lib.Count.{count_trailing_zeros}
use lib.Lanes.{mask_l, chunk}
use Rattle.std.specs.List.{prefix_len}
use Rattle.std.proofs.lemmas.Bool.{eqb-false, cases_lt}
use Rattle.std.proofs.lemmas.Simd.{length-chunk, trailing_mask_l, run_in_chunk_fails, run_in_chunk_stops, none_from_empty_mask}
use Rattle.lane_scan.specs.Nearest.{IsFirst, hits_of}

hit_by : (p : ℕ → Bool) (x : ℕ) (xs : List ℕ) → (mask_l (map p xs) ≢ 0 → prefix_len (λ y. not (p y)) xs < length xs) → mask_l (map p (x ∷ xs)) ≢ 0 → (b : Bool) → p x ≡ b → prefix_len (λ y. not (p y)) (x ∷ xs) < length (x ∷ xs)
hit_by p x xs later some true is = rw is (omega arith)
hit_by p x xs later some false is =
    let inside = later (λ e. some (rw is (omega (arith, e)))) in rw is (omega arith)

-- a lane passes where the mask is not empty
hit_inside : (p : ℕ → Bool) (xs : List ℕ) → mask_l (map p xs) ≢ 0 → prefix_len (λ x. not (p x)) xs < length xs
hit_inside p [] some = absurd (some refl)
hit_inside p (x ∷ xs) some = hit_by p x xs (hit_inside p xs) some (p x) refl

pub first_in_block : (points : List ℕ) (point at bits : ℕ) → at + 8 ≤ length points → bits ≡ hits_of point (chunk at 8 points) → bits ≢ 0 → ((k : ℕ) → k < at → get_or points k 0 ≢ point) → IsFirst point points (at + count_trailing_zeros 64 bits)
first_in_block points point at bits room is some before =
    let p : ℕ → Bool = λ x. x == point in
    let xs = chunk at 8 points in
    let long = length-chunk at 8 points room in
    let r = count_trailing_zeros 64 bits in
    let counted : r ≡ prefix_len (λ x. not (p x)) xs = ap (count_trailing_zeros 64) is ∙ trailing_mask_l p 64 xs (omega arith) (omega arith) in
    let inside : prefix_len (λ x. not (p x)) xs < length xs = hit_inside p xs (λ e. some (is ∙ e)) in
    let stops = run_in_chunk_stops p points at 8 r 0 room counted (omega arith) in
    let fails = run_in_chunk_fails p points at 8 r 0 room counted in
    record {
      inside = omega arith;
      here = eqb-true (get_or points (at + r) 0) point stops;
      before = λ k small. elim (cases_lt k at) [ inl old ↦ before k old | inr new ↦ eqb-false (get_or points k 0) point (fails k new small) ];
    }

pub none_in_block : (points : List ℕ) (point at bits : ℕ) → at + 8 ≤ length points → bits ≡ hits_of point (chunk at 8 points) → bits ≡ 0 → ((k : ℕ) → k < at → get_or points k 0 ≢ point) → (k : ℕ) → k < at + 8 → get_or points k 0 ≢ point
none_in_block points point at bits room is none before k small = elim (cases_lt k at) [
  | inl old ↦ before k old
  | inr new ↦ eqb-false (get_or points k 0) point (none_from_empty_mask (λ x. x == point) points at 8 0 room (sym is ∙ none) k new small)
]
