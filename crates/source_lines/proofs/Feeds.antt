-- Line feeds in bytes that are followed by others.
use Rattle.std.proofs.Common.{◌≡◌, ℕ, zero, suc, ◌+◌, ◌≤◌, ◌<◌, Bool, true, false, cond, not, eqb, List, [], ◌∷◌, ◌++◌, length, take, drop, Some, arith, refl, ap, sym, ◌∙◌, add-one, zero-add, nat_lt, length-append}
use Rattle.std.proofs.lemmas.Bool.Decides.{nat_tests}
use Rattle.std.specs.List.{position, position_or_len}
use Rattle.line_format.specs.Lines.{lines_of, onto_first}
use Rattle.source_lines.specs.Feeds.{HasNoFeed}
use Rattle.source_lines.proofs.Cuts.{is_feed, lines_cut, feed_step, feed_here, cut_none}
use Rattle.source_lines.proofs.Positions.{position_some, position_none}

first_front : (bs more : List ℕ) (i : ℕ) → i < length bs → position_or_len is_feed bs ≡ i → lines_of (bs ++ more) ≡ take i bs ∷ lines_of (drop (suc i) bs ++ more)
first_front [] more i h e = absurd (omega arith)
first_front (b ∷ bs) more zero h e = lines_cut b (bs ++ more) true (feed_here (eqb b 10) (position_or_len is_feed bs) e)
first_front (b ∷ bs) more (suc i) h e =
    let step = feed_step (eqb b 10) (position_or_len is_feed bs) i e in
    lines_cut b (bs ++ more) false step.0 ∙ ap (onto_first b) (first_front bs more i (omega arith) step.1)

-- the first line ends at the first feed, whatever follows
pub found_front : (bs more : List ℕ) (i : ℕ) → position is_feed bs ≡ Some i → lines_of (bs ++ more) ≡ take i bs ∷ lines_of (drop (i + 1) bs ++ more)
found_front bs more i e =
    let at = position_some is_feed bs i e in
    first_front bs more i at.1 at.0 ∙ ap (λ n. take i bs ∷ lines_of (drop n bs ++ more)) (sym (add-one i))

-- a first line that has at least so many bytes
record Begins (n : ℕ) (lines : List (List ℕ)) : Type 0 where
  pub line : List ℕ
  pub others : List (List ℕ)
  pub is : lines ≡ line ∷ others
  pub long : n ≤ length line

begins_one : (b : ℕ) (lines : List (List ℕ)) → Begins 1 (onto_first b lines)
begins_one b [] = record { line = b ∷ []; others = []; is = refl; long = omega arith }
begins_one b (l ∷ ls) = record { line = b ∷ l; others = ls; is = refl; long = omega arith }

begins_more : (n b : ℕ) (lines : List (List ℕ)) → Begins n lines → Begins (suc n) (onto_first b lines)
begins_more n b lines begins = record { line = b ∷ begins.line; others = begins.others; is = ap (onto_first b) begins.is; long = omega (arith, begins.long) }

begins_by : (n : ℕ) (lines other : List (List ℕ)) → lines ≡ other → Begins n other → Begins n lines
begins_by n lines other e begins = record { line = begins.line; others = begins.others; is = e ∙ begins.is; long = begins.long }

begins_front : (bs more : List ℕ) → 0 < length bs → position_or_len is_feed bs ≡ length bs → Begins (length bs) (lines_of (bs ++ more))
begins_front [] more h e = absurd (omega arith)
begins_front (b ∷ []) more h e = begins_by 1 (lines_of (b ∷ more)) (onto_first b (lines_of more)) (lines_cut b more false (feed_step (eqb b 10) 0 0 e).0) (begins_one b (lines_of more))
begins_front (b ∷ c ∷ bs) more h e =
    let step = feed_step (eqb b 10) (position_or_len is_feed (c ∷ bs)) (length (c ∷ bs)) e in
    begins_by (length (b ∷ c ∷ bs)) (lines_of (b ∷ c ∷ (bs ++ more))) (onto_first b (lines_of (c ∷ (bs ++ more)))) (lines_cut b (c ∷ (bs ++ more)) false step.0)
    (begins_more (length (c ∷ bs)) b (lines_of (c ∷ (bs ++ more))) (begins_front (c ∷ bs) more (omega arith) step.1))

-- bytes without a feed begin a line
pub none_front : (bs more : List ℕ) → 0 < length bs → HasNoFeed bs → (line : List ℕ) × (others : List (List ℕ)) × (lines_of (bs ++ more) ≡ line ∷ others) × (length bs ≤ length line)
none_front bs more some none = let b = begins_front bs more some (position_none is_feed bs none) in (b.line, b.others, b.is, b.long)

at_some : (bs : List ℕ) (i : ℕ) → position_or_len is_feed bs ≡ i → i < length bs → position is_feed bs ≡ Some i
at_some bs i e h = let t : nat_lt (position_or_len is_feed bs) (length bs) ≡ true = grind (arith, nat_tests) in rw t (ap Some e)

at_none : (bs : List ℕ) → position_or_len is_feed bs ≡ length bs → HasNoFeed bs
at_none bs e = let t : nat_lt (position_or_len is_feed bs) (length bs) ≡ false = grind (arith, nat_tests) in rw t refl

past_step : (t : Bool) (m n : ℕ) → t ≡ false → m ≡ n → cond (not t) (1 + m) 0 ≡ suc n
past_step t m n f e = rw f (omega arith)

-- what stands before the first feed has none
pub none_before : (bs : List ℕ) (i : ℕ) → position is_feed bs ≡ Some i → HasNoFeed (take i bs)
none_before bs i e = let at = position_some is_feed bs i e in at_none (take i bs) (stops bs i at.1 at.0)
  where
    stops : (cs : List ℕ) (k : ℕ) → k < length cs → position_or_len is_feed cs ≡ k → position_or_len is_feed (take k cs) ≡ length (take k cs)
    stops [] k h f = absurd (omega arith)
    stops (c ∷ cs) zero h f = refl
    stops (c ∷ cs) (suc k) h f =
        let step = feed_step (eqb c 10) (position_or_len is_feed cs) k f in
        past_step (eqb c 10) (position_or_len is_feed (take k cs)) (length (take k cs)) step.0 (stops cs k (omega arith) step.1)

past_front : (bs more : List ℕ) → position_or_len is_feed bs ≡ length bs → position_or_len is_feed (bs ++ more) ≡ length bs + position_or_len is_feed more
past_front [] more e = sym (zero-add (position_or_len is_feed more))
past_front (b ∷ bs) more e =
    let step = feed_step (eqb b 10) (position_or_len is_feed bs) (length bs) e in
    past_step (eqb b 10) (position_or_len is_feed (bs ++ more)) (length bs + position_or_len is_feed more) step.0 (past_front bs more step.1) ∙ omega arith

-- the first feed behind bytes without one
pub behind_some : (bs more : List ℕ) (i : ℕ) → HasNoFeed bs → position is_feed more ≡ Some i → position is_feed (bs ++ more) ≡ Some (length bs + i)
behind_some bs more i none e =
    let at = position_some is_feed more i e in
    let place : position_or_len is_feed (bs ++ more) ≡ length bs + i = past_front bs more (position_none is_feed bs none) ∙ ap (λ k. length bs + k) at.0 in
    at_some (bs ++ more) (length bs + i) place (omega (arith, at.1, length-append {A = ℕ}))

pub behind_none : (bs more : List ℕ) → HasNoFeed bs → HasNoFeed more → HasNoFeed (bs ++ more)
behind_none bs more none e =
    let place : position_or_len is_feed (bs ++ more) ≡ length bs + length more = past_front bs more (position_none is_feed bs none) ∙ ap (λ k. length bs + k) (position_none is_feed more e) in
    at_none (bs ++ more) (omega (arith, place, length-append {A = ℕ}))

-- the last line may end with the bytes
pub none_last : (bs : List ℕ) → 0 < length bs → HasNoFeed bs → lines_of bs ≡ bs ∷ []
none_last bs some none = cut_none bs some none

-- a line without a feed, ended by one
pub line_and_feed : (line rest : List ℕ) → HasNoFeed line → lines_of (line ++ (10 ∷ rest)) ≡ line ∷ lines_of rest
line_and_feed line rest none = first line rest (position_none is_feed line none)
  where
    first : (bs more : List ℕ) → position_or_len is_feed bs ≡ length bs → lines_of (bs ++ (10 ∷ more)) ≡ bs ∷ lines_of more
    first [] more e = refl
    first (b ∷ bs) more e =
        let step = feed_step (eqb b 10) (position_or_len is_feed bs) (length bs) e in
        lines_cut b (bs ++ (10 ∷ more)) false step.0 ∙ ap (onto_first b) (first bs more step.1)
