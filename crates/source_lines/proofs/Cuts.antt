-- The first line of some bytes.
use Rattle.std.proofs.Common.{◌≡◌, ℕ, zero, suc, ◌+◌, ◌-◌, ◌<◌, Bool, true, false, cond, not, eqb, List, [], ◌∷◌, length, take, drop, Some, None, arith, refl, ap, sym, ◌∙◌, add-one, length-drop}
use Rattle.std.specs.List.{position, position_or_len}
use Rattle.std.proofs.lemmas.List.{take_all, drop_all, length-take}
use Rattle.line_format.specs.Lines.{lines_of, onto_first}
use Rattle.source_lines.proofs.Positions.{position_some, position_none}

abbrev pub is_feed : ℕ → Bool
is_feed b = eqb b 10

pub lines_cut : (b : ℕ) (bs : List ℕ) (t : Bool) → eqb b 10 ≡ t → lines_of (b ∷ bs) ≡ cond t ([] ∷ lines_of bs) (onto_first b (lines_of bs))
lines_cut b bs t e = ap (λ v. cond v ([] ∷ lines_of bs) (onto_first b (lines_of bs))) e

pub feed_step : (t : Bool) (m n : ℕ) → cond (not t) (1 + m) 0 ≡ suc n → (t ≡ false) × (m ≡ n)
feed_step true m n e = absurd (omega arith)
feed_step false m n e = (refl, omega arith)

pub feed_here : (t : Bool) (m : ℕ) → cond (not t) (1 + m) 0 ≡ 0 → t ≡ true
feed_here true m e = refl
feed_here false m e = absurd (omega arith)

first_line : (bs : List ℕ) (i : ℕ) → i < length bs → position_or_len is_feed bs ≡ i → lines_of bs ≡ take i bs ∷ lines_of (drop (suc i) bs)
first_line [] i h e = absurd (omega arith)
first_line (b ∷ bs) zero h e = lines_cut b bs true (feed_here (eqb b 10) (position_or_len is_feed bs) e)
first_line (b ∷ bs) (suc i) h e =
    let step = feed_step (eqb b 10) (position_or_len is_feed bs) i e in
    lines_cut b bs false step.0 ∙ ap (onto_first b) (first_line bs i (omega arith) step.1)

last_line : (bs : List ℕ) → 0 < length bs → position_or_len is_feed bs ≡ length bs → lines_of bs ≡ bs ∷ []
last_line [] h e = absurd (omega arith)
last_line (b ∷ []) h e = lines_cut b [] false (feed_step (eqb b 10) 0 0 e).0
last_line (b ∷ c ∷ bs) h e =
    let step = feed_step (eqb b 10) (position_or_len is_feed (c ∷ bs)) (length (c ∷ bs)) e in
    lines_cut b (c ∷ bs) false step.0 ∙ ap (onto_first b) (last_line (c ∷ bs) (omega arith) step.1)

-- `&bs[n..]`
rest_is : (bs : List ℕ) (n : ℕ) → take (length bs - n) (drop n bs) ≡ drop n bs
rest_is bs n = take_all (length bs - n) (drop n bs) (omega (arith, length-drop n bs))

pub cut_at : (bs : List ℕ) (i : ℕ) → position is_feed bs ≡ Some i → lines_of bs ≡ take i bs ∷ lines_of (take (length bs - (i + 1)) (drop (i + 1) bs))
cut_at bs i e =
    let at = position_some is_feed bs i e in
    first_line bs i at.1 at.0 ∙ ap (λ r. take i bs ∷ lines_of r) (ap (λ n. drop n bs) (sym (add-one i)) ∙ sym (rest_is bs (i + 1)))

pub cut_none : (bs : List ℕ) → 0 < length bs → position is_feed bs ≡ None → lines_of bs ≡ bs ∷ lines_of []
cut_none bs h e = last_line bs h (position_none is_feed bs e)

pub shorter : (bs : List ℕ) (i : ℕ) → position is_feed bs ≡ Some i → length (take (length bs - (i + 1)) (drop (i + 1) bs)) < length bs
shorter bs i e =
    let at = position_some is_feed bs i e in
    let len : length (drop (i + 1) bs) ≡ length bs - (i + 1) = length-drop (i + 1) bs in
    let same : length (take (length bs - (i + 1)) (drop (i + 1) bs)) ≡ length (drop (i + 1) bs) = ap length (rest_is bs (i + 1)) in
    omega (arith, at.1)

-- what follows the line and its feed
pub rest_at : (bs : List ℕ) (i : ℕ) → position is_feed bs ≡ Some i → take (length bs - (i + 1)) (drop (i + 1) bs) ≡ drop (length (take i bs) + 1) bs
rest_at bs i e =
    let at = position_some is_feed bs i e in
    let len : length (take i bs) ≡ i = length-take i bs ∙ omega (arith, at.1) in
    rest_is bs (i + 1) ∙ ap (λ n. drop (n + 1) bs) (sym len)

pub rest_none : (bs : List ℕ) → [] ≡ drop (length bs + 1) bs
rest_none bs = sym (drop_all (length bs + 1) bs (omega arith))
