-- Digits with a blank behind them.
use Rattle.std.proofs.Common.{◌≡◌, ℕ, suc, ◌+◌, ◌/◌, ◌%◌, ◌<◌, Bool, true, false, not, cond, eqb, List, [], ◌∷◌, ◌++◌, length, take, Some, None, arith, refl, ap, ◌∙◌, length-append, nat_lt, ◌⊎◌, Result, Ok, Err, sym, ⊎_elim}
use Rattle.std.specs.Prelude.{slice_index, IfOk, IfErr, MatchResult}
use Rattle.std.specs.List.{position, position_or_len}
use Rattle.std.proofs.lemmas.Bool.{eqb-true}
use Rattle.std.proofs.lemmas.Bool.Decides.{nat_tests}
use Rattle.std.proofs.lemmas.List.{take-append-le, take_all}
use Rattle.hex.specs.Hex.{IsBytes, decode_of, encode_lower, encode_with, hex_digit_value, lower_digits}
use Rattle.hex.specs.declared.error.FromHexError.{FromHexError}
use Rattle.hex.specs.declared.error.FromHexError.TheVariants.{OutOfMemory}
use Rattle.hex.proofs.HexLemmas.{IsDigits-lower_digits, decode_of-encode_lower}

abbrev pub is_blank : ℕ → Bool
is_blank b = eqb b 32

no_blank : (d : ℕ) → d < 16 → eqb (slice_index lower_digits d) 32 ≡ false
no_blank d within = by (eqb (slice_index lower_digits d) 32) refl
  where
    by : (t : Bool) → eqb (slice_index lower_digits d) 32 ≡ t → eqb (slice_index lower_digits d) 32 ≡ false
    by false e = e
    by true e =
        let value : hex_digit_value (slice_index lower_digits d) ≡ Some d = IsDigits-lower_digits d within in
        let none : hex_digit_value (slice_index lower_digits d) ≡ None = ap hex_digit_value (eqb-true (slice_index lower_digits d) 32 e) in
        absurd (cc)

past : (b : ℕ) (bs : List ℕ) → eqb b 32 ≡ false → position_or_len is_blank (b ∷ bs) ≡ 1 + position_or_len is_blank bs
past b bs e = ap (λ t. cond (not t) (1 + position_or_len is_blank bs) 0) e

blank_behind : (bytes rest : List ℕ) → IsBytes bytes → position_or_len is_blank (encode_lower bytes ++ 32 ∷ rest) ≡ length (encode_lower bytes)
unfolding encode_with
blank_behind [] rest are = refl
blank_behind (b ∷ bs) rest are =
    let fits : b < 256 = are 0 in
    let high : b / 16 < 16 = omega arith in
    let low : b % 16 < 16 = omega arith in
    let behind = encode_lower bs ++ 32 ∷ rest in
    let later = blank_behind bs rest (λ k. are (suc k)) in
    let first = past (slice_index lower_digits (b / 16)) (slice_index lower_digits (b % 16) ∷ behind) (no_blank (b / 16) high) in
    let second = past (slice_index lower_digits (b % 16)) behind (no_blank (b % 16) low) in
    omega (arith, first, second, later)

-- the digits are what stands before the first blank
pub digits_end : (line bytes rest : List ℕ) → IsBytes bytes → line ≡ encode_lower bytes ++ 32 ∷ rest → position is_blank line ≡ Some (length (encode_lower bytes))
digits_end line bytes rest are is =
    let digits = encode_lower bytes in
    let at = blank_behind bytes rest are in
    let shorter : nat_lt (length digits) (length (digits ++ 32 ∷ rest)) ≡ true = grind (arith, nat_tests, length-append digits (32 ∷ rest)) in
    ap (position is_blank) is
    ∙ (ap (λ n. cond (nat_lt n (length (digits ++ 32 ∷ rest))) (Some n) None) at ∙ ap (λ t. cond t (Some (length digits)) None) shorter)

pub digits_front : (line digits rest : List ℕ) → line ≡ digits ++ 32 ∷ rest → take (length digits) line ≡ digits
digits_front line digits rest is =
    ap (take (length digits)) is ∙ (take-append-le (length digits) digits (32 ∷ rest) (omega arith) ∙ take_all (length digits) digits (omega arith))

-- digits are read as their bytes, unless memory is short
pub decoded_is : {X : Type 0} (items : X → List ℕ) (read : Result X FromHexError) (digits bytes : List ℕ) → IsBytes bytes → digits ≡ encode_lower bytes
    → IfOk read (λ v. decode_of digits ≡ Ok (items v)) → IfErr read (λ e. (e ≡ OutOfMemory) ⊎ (decode_of digits ≡ Err e))
    → MatchResult read (λ v. items v ≡ bytes) (λ e. e ≡ OutOfMemory)
decoded_is items (Ok v) digits bytes are is ok err =
    let both : ◌≡◌ {A = Result (List ℕ) FromHexError} (Ok (items v)) (Ok bytes) = sym ok ∙ (ap decode_of is ∙ decode_of-encode_lower bytes are) in
    cc
decoded_is items (Err e) digits bytes are is ok err =
    ⊎_elim
    (λ memory. memory)
    (λ bad. let both : ◌≡◌ {A = Result (List ℕ) FromHexError} (Err e) (Ok bytes) = sym bad ∙ (ap decode_of is ∙ decode_of-encode_lower bytes are) in absurd (cc (both)))
    err
