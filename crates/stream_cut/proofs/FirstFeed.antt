-- The first byte that a search finds is the first place of a line feed.
use Rattle.std.proofs.Common.{◌≡◌, ℕ, zero, suc, ◌<◌, Bool, true, false, List, [], ◌∷◌, Option, Some, None, length, arith, refl, sym, ap, nat_lt}
use Rattle.std.specs.Prelude.{◌==◌, slice_index}
use Rattle.std.specs.List.{position, position_or_len}
use Rattle.std.proofs.lemmas.Bool.Decides.{nat_tests}
use Rattle.memchr.specs.Find.{IsFirstByte, is_byte}
use Rattle.stream_cut.proofs.Positions.{is_feed}

found_at : (bs : List ℕ) (k : ℕ) → k < length bs → (slice_index bs k == 10) ≡ true → ((j : ℕ) → j < k → (slice_index bs j == 10) ≡ true → ⊥) →
    position_or_len is_feed bs ≡ k
found_at [] k h here before = absurd (omega arith)
found_at (b ∷ bs) zero h here before = rw here refl
found_at (b ∷ bs) (suc k) h here before = by_test (b == 10) refl (found_at bs k (omega arith) here (λ j lt. before (suc j) (omega arith)))
  where
    by_test : (t : Bool) → (b == 10) ≡ t → position_or_len is_feed bs ≡ k → position_or_len is_feed (b ∷ bs) ≡ suc k
    by_test true e rest = absurd (before 0 (omega arith) e)
    by_test false e rest = rw e (omega (arith, rest))

not_found : (bs : List ℕ) → ((j : ℕ) → j < length bs → (slice_index bs j == 10) ≡ true → ⊥) → position_or_len is_feed bs ≡ length bs
not_found [] none = refl
not_found (b ∷ bs) none = by_test (b == 10) refl (not_found bs (λ j lt. none (suc j) (omega arith)))
  where
    by_test : (t : Bool) → (b == 10) ≡ t → position_or_len is_feed bs ≡ length bs → position_or_len is_feed (b ∷ bs) ≡ length (b ∷ bs)
    by_test true e rest = absurd (none 0 (omega arith) e)
    by_test false e rest = rw e (omega (arith, rest))

pub first_is_position : (bs : List ℕ) (r : Option ℕ) → IsFirstByte (is_byte 10) bs r → r ≡ position (λ b. b == 10) bs
first_is_position bs None none =
    let past = not_found bs (λ j lt e. none j (omega arith) lt e) in
    let test : nat_lt (position_or_len is_feed bs) (length bs) ≡ false = grind (arith, nat_tests) in
    rw test refl
first_is_position bs (Some k) found =
    let within = found.0.high in
    let at = found_at bs k within found.1 (λ j lt e. found.0.before j (omega arith) lt e) in
    let test : nat_lt (position_or_len is_feed bs) (length bs) ≡ true = grind (arith, nat_tests) in
    rw test (ap Some (sym at))
