-- What comes out of bytes up to their first line feed.
use Rattle.std.proofs.Common.{◌≡◌, ℕ, zero, suc, ◌+◌, ◌≤◌, ◌<◌, true, false, eqb, List, [], ◌∷◌, ◌++◌, length, take, drop, Some, None, arith, refl, ap, sym, ◌∙◌, length-append, append_assoc}
use Rattle.std.proofs.lemmas.List.{append-nil}
use Rattle.std.proofs.lemmas.Bool.Decides.{nat_tests}
use Rattle.std.specs.List.{position_or_len}
use Rattle.stream_cut.specs.Cuts.{Whole, Long, cuts}
use Rattle.stream_cut.proofs.Positions.{is_feed, feed_step, feed_here}

at_feed : (most b : ℕ) (line bs : List ℕ) → eqb b 10 ≡ true → cuts most (Some line) (b ∷ bs) ≡ Whole line ∷ cuts most (Some []) bs
at_feed most b line bs e = rw e refl

at_byte : (most b : ℕ) (line bs : List ℕ) → eqb b 10 ≡ false → length line < most → cuts most (Some line) (b ∷ bs) ≡ cuts most (Some (line ++ b ∷ [])) bs
at_byte most b line bs e short = let f : eqb (length line) most ≡ false = grind (arith, nat_tests) in rw (e, f) refl

at_last : (most b : ℕ) (line bs : List ℕ) → eqb b 10 ≡ false → length line ≡ most → cuts most (Some line) (b ∷ bs) ≡ Long ∷ cuts most None bs
at_last most b line bs e full = let f : eqb (length line) most ≡ true = grind (arith, nat_tests) in rw (e, f) refl

skip_feed : (most b : ℕ) (bs : List ℕ) → eqb b 10 ≡ true → cuts most None (b ∷ bs) ≡ cuts most (Some []) bs
skip_feed most b bs e = rw e refl

skip_byte : (most b : ℕ) (bs : List ℕ) → eqb b 10 ≡ false → cuts most None (b ∷ bs) ≡ cuts most None bs
skip_byte most b bs e = rw e refl

pub cut_found : (most : ℕ) (line bs more : List ℕ) (i : ℕ) → i < length bs → position_or_len is_feed bs ≡ i → length line + i ≤ most →
    cuts most (Some line) (bs ++ more) ≡ Whole (line ++ take i bs) ∷ cuts most (Some []) (drop (suc i) bs ++ more)
cut_found most line [] more i h e few = absurd (omega arith)
cut_found most line (b ∷ bs) more zero h e few =
    at_feed most b line (bs ++ more) (feed_here (eqb b 10) (position_or_len is_feed bs) e)
    ∙ ap (λ l. Whole l ∷ cuts most (Some []) (bs ++ more)) (sym (append-nil line))
cut_found most line (b ∷ bs) more (suc i) h e few =
    let step = feed_step (eqb b 10) (position_or_len is_feed bs) i e in
    at_byte most b line (bs ++ more) step.0 (omega arith)
    ∙ cut_found most (line ++ b ∷ []) bs more i (omega arith) step.1 (omega (arith, length-append line (b ∷ [])))
    ∙ ap (λ l. Whole l ∷ cuts most (Some []) (drop (suc i) bs ++ more)) (append_assoc line (b ∷ []) (take i bs))

pub cut_full : (most : ℕ) (line bs more : List ℕ) → position_or_len is_feed bs ≡ length bs → length line + length bs ≡ most + 1 → length line ≤ most →
    cuts most (Some line) (bs ++ more) ≡ Long ∷ cuts most None more
cut_full most line [] more e full few = absurd (omega arith)
cut_full most line (b ∷ []) more e full few = at_last most b line more (feed_step (eqb b 10) 0 0 e).0 (omega arith)
cut_full most line (b ∷ c ∷ bs) more e full few =
    let step = feed_step (eqb b 10) (position_or_len is_feed (c ∷ bs)) (length (c ∷ bs)) e in
    at_byte most b line (c ∷ bs ++ more) step.0 (omega arith)
    ∙ cut_full most (line ++ b ∷ []) (c ∷ bs) more step.1 (omega (arith, length-append line (b ∷ []))) (omega (arith, length-append line (b ∷ [])))

pub skip_found : (most : ℕ) (bs more : List ℕ) (i : ℕ) → i < length bs → position_or_len is_feed bs ≡ i →
    cuts most None (bs ++ more) ≡ cuts most (Some []) (drop (suc i) bs ++ more)
skip_found most [] more i h e = absurd (omega arith)
skip_found most (b ∷ bs) more zero h e = skip_feed most b (bs ++ more) (feed_here (eqb b 10) (position_or_len is_feed bs) e)
skip_found most (b ∷ bs) more (suc i) h e =
    let step = feed_step (eqb b 10) (position_or_len is_feed bs) i e in
    skip_byte most b (bs ++ more) step.0 ∙ skip_found most bs more i (omega arith) step.1

pub skip_all : (most : ℕ) (bs more : List ℕ) → position_or_len is_feed bs ≡ length bs → cuts most None (bs ++ more) ≡ cuts most None more
skip_all most [] more e = refl
skip_all most (b ∷ bs) more e =
    let step = feed_step (eqb b 10) (position_or_len is_feed bs) (length bs) e in
    skip_byte most b (bs ++ more) step.0 ∙ skip_all most bs more step.1
