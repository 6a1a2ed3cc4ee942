-- Lanes and blocks of lanes: masks of two comparisons, and masks of one list after another.
use Rattle.std.proofs.Common.{◌≡◌, ℕ, ◌+◌, ◌-◌, ◌*◌, ◌%◌, ◌^◌, ◌<◌, ◌≤◌, Bool, true, false, cond, ◌&&◌, List, [], ◌∷◌, ◌++◌, length, take, map, refl, sym, lit<, ap, get_or, drop-cons, ◌∙◌, arith, nat_le, bit_and, bit_or, replicate}
use lib.Lanes.{zip2, mask_l, top, chunk}
use Rattle.std.proofs.Math.Nat.{pow-suc, mul_assoc, pow-le-pow_right, mul-le-mul_right, mod-eq_of_lt}
use Rattle.std.proofs.lemmas.Nat.{or_shifted, or_comm, pow-add}
use Rattle.std.proofs.lemmas.Simd.{zip2_of_maps, zip2_splat, zip2_splat_left, mask_l-lt, length-chunk}
use Rattle.std.proofs.lemmas.List.{map-append, length-map}
use Rattle.std.proofs.lemmas.Grind.{common_steps}
use Rattle.lane_scan.specs.Masks.{is_between, mask_of}
use Rattle.std.proofs.Math.Seq.{take-add}

abbrev ones : ℕ
ones = 2 ^ 64 - 1

lane_both : (a b : Bool) → top 63 (bit_and (cond a ones 0) (cond b ones 0)) ≡ (a && b)
lane_both true true = refl
lane_both true false = refl
lane_both false true = refl
lane_both false false = refl

-- the top bits of two comparisons, joined
pub tops_of_both : (t u : ℕ → ℕ → Bool) (ws xs ys zs : List ℕ) → map (top 63) (zip2 bit_and (zip2 (λ a b. cond (t a b) ones 0) ws xs) (zip2 (λ a b. cond (u a b) ones 0) ys zs)) ≡ zip2 ◌&&◌ (zip2 t ws xs) (zip2 u ys zs)
tops_of_both t u [] xs ys zs = refl
tops_of_both t u (w ∷ ws) [] ys zs = refl
tops_of_both t u (w ∷ ws) (x ∷ xs) [] zs = refl
tops_of_both t u (w ∷ ws) (x ∷ xs) (y ∷ ys) [] = refl
tops_of_both t u (w ∷ ws) (x ∷ xs) (y ∷ ys) (z ∷ zs) =
    let here = lane_both (t w x) (u y z) in
    let later = tops_of_both t u ws xs ys zs in
    cc

pub mask_l-append : (xs ys : List Bool) → mask_l (xs ++ ys) ≡ mask_l xs + 2 ^ length xs * mask_l ys
mask_l-append [] ys = omega arith
mask_l-append (x ∷ xs) ys =
    let later = mask_l-append xs ys in
    let power = pow-suc 2 (length xs) in
    let factors = mul_assoc 2 (2 ^ length xs) (mask_l ys) in
    grind arith

-- the lanes of a block from lo to hi, as two comparisons with splats find them
pub between_is : (lo hi : ℕ) (xs : List ℕ) → length xs ≡ 8 → zip2 ◌&&◌ (zip2 nat_le (replicate 8 lo) xs) (zip2 nat_le xs (replicate 8 hi)) ≡ map (is_between lo hi) xs
between_is lo hi xs long =
    zip2_of_maps ◌&&◌ (λ x. nat_le lo x) (λ x. nat_le x hi) xs (zip2_splat_left nat_le lo 8 xs long) (zip2_splat nat_le xs 8 hi long)

length-mask : (lo hi : ℕ) (points : List ℕ) (at : ℕ) → at ≤ length points → length (map (is_between lo hi) (take at points)) ≡ at
length-mask lo hi points at inside = grind (arith, common_steps)

-- the mask of a block stands above that of the points before it
pub mask_of-take : (lo hi : ℕ) (points : List ℕ) (at n : ℕ) → at + n ≤ length points → mask_of lo hi (take (at + n) points) ≡ mask_of lo hi (take at points) + 2 ^ at * mask_of lo hi (chunk at n points)
mask_of-take lo hi points at n inside =
    let t = is_between lo hi in
    ap (λ xs. mask_l (map t xs)) (take-add at n points)
    ∙ ap mask_l (map-append t (take at points) (chunk at n points))
    ∙ mask_l-append (map t (take at points)) (map t (chunk at n points))
    ∙ ap (λ k. mask_of lo hi (take at points) + 2 ^ k * mask_of lo hi (chunk at n points)) (length-mask lo hi points at (omega arith))

-- a number of n bits is joined above one of k bits
pub or_above : (low high k n : ℕ) → low < 2 ^ k → high < 2 ^ n → k + n ≤ 64 → bit_or low (high * 2 ^ k % 2 ^ 64) ≡ low + 2 ^ k * high
or_above low high k n small fits room =
    let fewer : n + k ≤ 64 = omega arith in
    let least : 2 ^ (n + k) ≤ 2 ^ 64 = pow-le-pow_right (lit< tt) fewer in
    let split : 2 ^ (n + k) ≡ 2 ^ n * 2 ^ k = pow-add 2 n k in
    let one_more : high + 1 ≤ 2 ^ n = omega arith in
    let part : (high + 1) * 2 ^ k ≤ 2 ^ n * 2 ^ k = mul-le-mul_right (2 ^ k) one_more in
    let below : high * 2 ^ k < 2 ^ 64 = omega arith in
    ap (bit_or low) (mod-eq_of_lt below) ∙ or_comm low (high * 2 ^ k) ∙ or_shifted high k low small ∙ omega arith

pub mask_of-lt : (lo hi : ℕ) (points : List ℕ) (at : ℕ) → at ≤ length points → mask_of lo hi (take at points) < 2 ^ at
mask_of-lt lo hi points at inside = rw (length-mask lo hi points at inside) at (mask_l-lt (map (is_between lo hi) (take at points)))

chunk_one : (points : List ℕ) (at : ℕ) → at < length points → chunk at 1 points ≡ get_or points at 0 ∷ []
chunk_one points at inside = rw (drop-cons points at 0 inside) refl

-- a word takes the mask of eight points more
pub mask_of_block : (lo hi : ℕ) (points : List ℕ) (at word block : ℕ) → at + 8 ≤ length points → length points ≤ 64 → word ≡ mask_of lo hi (take at points) → block ≡ mask_of lo hi (chunk at 8 points) → bit_or word (block * 2 ^ at % 2 ^ 64) ≡ mask_of lo hi (take (at + 8) points)
mask_of_block lo hi points at word block inside room w b =
    let small = mask_of-lt lo hi points at (omega arith) in
    let long = length-chunk at 8 points inside in
    let eight : length (map (is_between lo hi) (chunk at 8 points)) ≡ 8 = length-map (chunk at 8 points) (is_between lo hi) ∙ long in
    let fits = rw eight at (mask_l-lt (map (is_between lo hi) (chunk at 8 points))) in
    let joined = or_above (mask_of lo hi (take at points)) (mask_of lo hi (chunk at 8 points)) at 8 small fits (omega arith) in
    rw (w, b) (joined ∙ sym (mask_of-take lo hi points at 8 inside))

-- a word takes one point more
pub mask_of_one : (lo hi : ℕ) (points : List ℕ) (at word : ℕ) → at < length points → length points ≤ 64 → word ≡ mask_of lo hi (take at points) → is_between lo hi (get_or points at 0) ≡ true → bit_or word (1 * 2 ^ at % 2 ^ 64) ≡ mask_of lo hi (take (at + 1) points)
mask_of_one lo hi points at word inside room w is_in =
    let small = mask_of-lt lo hi points at (omega arith) in
    let joined = or_above (mask_of lo hi (take at points)) 1 at 1 small (omega arith) (omega arith) in
    let bit : mask_of lo hi (chunk at 1 points) ≡ 1 = rw (chunk_one points at inside, is_in) refl in
    let more = mask_of-take lo hi points at 1 (omega arith) in
    rw w (joined ∙ rw bit at (sym more))

pub mask_of_none : (lo hi : ℕ) (points : List ℕ) (at word : ℕ) → at < length points → word ≡ mask_of lo hi (take at points) → is_between lo hi (get_or points at 0) ≡ false → word ≡ mask_of lo hi (take (at + 1) points)
mask_of_none lo hi points at word inside w is_out =
    let bit : mask_of lo hi (chunk at 1 points) ≡ 0 = rw (chunk_one points at inside, is_out) refl in
    let more = mask_of-take lo hi points at 1 (omega arith) in
    w ∙ (omega arith ∙ rw bit at (sym more))
