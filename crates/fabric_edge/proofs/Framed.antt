-- Records as they stand in a file.
use Rattle.std.proofs.Common.{arith, ◌≡◌, ℕ, ◌+◌, ◌*◌, ◌/◌, ◌%◌, ◌<◌, ◌≤◌, List, [], ◌∷◌, ◌++◌, length, take, drop, get_or, ap, sym, ◌∙◌}
use Rattle.std.specs.Int.{from_be_bytes, w16}
use Rattle.std.specs.List.{IsSplitAt}
use Rattle.std.proofs.lemmas.List.{take-append-drop}
use Rattle.fabric_edge.specs.RecordFile.{framed}

-- the first record of a file's bytes, of the length that stands before it
pub first_is : (bytes chunk rest first later : List ℕ) (n : ℕ) → ((i : ℕ) → get_or bytes i 0 < 256) → 2 ≤ length bytes → chunk ≡ take 2 bytes → rest ≡ drop 2 bytes → n ≡ from_be_bytes w16 chunk → IsSplitAt rest n first later → bytes ≡ framed first ++ later
first_is [] chunk rest first later n fits enough chunk_is rest_is n_is split = absurd (omega arith)
first_is (hi ∷ []) chunk rest first later n fits enough chunk_is rest_is n_is split = absurd (omega arith)
first_is (hi ∷ lo ∷ more) chunk rest first later n fits enough chunk_is rest_is n_is split =
    let value : n ≡ hi * 256 + lo = n_is ∙ ap (from_be_bytes w16) chunk_is in
    let low_fits : lo < 256 = fits 1 in
    let long : length first ≡ n = split.3 in
    let high : hi ≡ length first / 256 = omega arith in
    let low : lo ≡ length first % 256 = omega arith in
    let parts : more ≡ first ++ later = rw (split.1, split.2, take-append-drop) (sym rest_is) in
    ap (λ x. x ∷ lo ∷ more) high ∙ ap (λ x. length first / 256 ∷ x ∷ more) low ∙ ap (λ r. length first / 256 ∷ length first % 256 ∷ r) parts
