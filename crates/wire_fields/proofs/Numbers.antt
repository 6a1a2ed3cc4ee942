-- A number's bytes are the bytes that were read as the number.
use Rattle.std.proofs.Common.{◌≡◌, ℕ, zero, suc, ◌+◌, ◌*◌, ◌/◌, ◌%◌, ◌^◌, ◌<◌, ◌≤◌, List, [], ◌∷◌, ◌++◌, length, take, get_or, refl, sym, ap, subst, ◌∙◌, arith}
use Rattle.std.proofs.Math.Nat.{div-one, mod-eq_of_lt, mul-add-div_right, mul-add-mod_self_right, mul_assoc, pow-succ', one-le-pow}
use Rattle.std.proofs.lemmas.Nat.{div-mul-add}
use Rattle.std.proofs.lemmas.List.{get_or-append-add}
use Rattle.std.specs.Int.{byte_at, bytes_high_first}
use Rattle.byteorder.specs.Endian.{big_from}
use Rattle.byteorder.specs.Numbers.{big_from-cons, big_from-lt}

-- every number of the list is one of a byte
abbrev pub AreBytes : List ℕ → Type 0
AreBytes bytes = (k : ℕ) → get_or bytes k 0 < 256

pub bytes_after : (xs ys : List ℕ) → AreBytes (xs ++ ys) → AreBytes ys
bytes_after xs ys h k = let P : ℕ → Type 0 = λ n. n < 256 in subst P (get_or-append-add xs ys k 0) (h (length xs + k))

pub bytes_behind : (bytes xs ys : List ℕ) → AreBytes bytes → bytes ≡ xs ++ ys → AreBytes ys
bytes_behind bytes xs ys h e = bytes_after xs ys (let P : List ℕ → Type 0 = λ bs. AreBytes bs in subst P e h)

byte_at_power : (k x : ℕ) → byte_at k x ≡ x / 256 ^ k % 256
byte_at_power zero x = ap (λ (y : ℕ). y % 256) (sym (div-one x))
byte_at_power (suc k) x = refl

power_above : (n : ℕ) → 0 < 256 ^ n
power_above n = let h = one-le-pow n 256 (omega arith) in omega arith

-- what stands above n bytes is not in them
high_more : (n q r : ℕ) → bytes_high_first n (q * 256 ^ n + r) ≡ bytes_high_first n r
high_more zero q r = refl
high_more (suc n) q r =
    let split : q * 256 ^ suc n + r ≡ q * 256 * 256 ^ n + r =
    ap (λ p. q * p + r) (pow-succ' 256 n) ∙ ap (λ p. p + r) (sym (mul_assoc q 256 (256 ^ n))) in
    let top : byte_at n (q * 256 * 256 ^ n + r) ≡ byte_at n r =
    byte_at_power n (q * 256 * 256 ^ n + r)
    ∙ (ap (λ (p : ℕ). p % 256) (mul-add-div_right (power_above n) (q * 256) r)
    ∙ (mul-add-mod_self_right q 256 (r / 256 ^ n) ∙ sym (byte_at_power n r))) in
    ap (λ v. byte_at n v ∷ bytes_high_first n v) split
    ∙ (ap (λ b. b ∷ bytes_high_first n (q * 256 * 256 ^ n + r)) top ∙ ap (λ bs. byte_at n r ∷ bs) (high_more n (q * 256) r))

pub bytes_of_number : (n : ℕ) (bytes : List ℕ) → n ≤ length bytes → AreBytes bytes → bytes_high_first n (big_from 0 n bytes) ≡ take n bytes
bytes_of_number zero bytes fits h = refl
bytes_of_number (suc n) [] fits h = absurd (omega arith)
bytes_of_number (suc n) (b ∷ bs) fits h =
    let rest = bytes_after (b ∷ []) bs h in
    let r = big_from 0 n bs in
    let low = big_from-lt 0 n bs rest in
    let number : b * 256 ^ n + big_from 1 n (b ∷ bs) ≡ b * 256 ^ n + r = ap (λ t. b * 256 ^ n + t) (big_from-cons 0 n b bs) in
    let top : byte_at n (b * 256 ^ n + r) ≡ b =
    byte_at_power n (b * 256 ^ n + r) ∙ (ap (λ (p : ℕ). p % 256) (div-mul-add b (256 ^ n) r low) ∙ mod-eq_of_lt (h 0)) in
    ap (λ v. byte_at n v ∷ bytes_high_first n v) number
    ∙ (ap (λ t. t ∷ bytes_high_first n (b * 256 ^ n + r)) top
    ∙ ap (λ bs. b ∷ bs) (high_more n b r ∙ bytes_of_number n bs (omega arith) rest))
