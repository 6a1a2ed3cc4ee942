-- The line that is taken, with its line feed.
use Rattle.std.proofs.Common.{◌≡◌, ℕ, zero, suc, ◌+◌, ◌<◌, eqb, List, [], ◌∷◌, ◌++◌, length, take, drop, Some, Ok, arith, ap, sym, ◌∙◌, add-one, append_assoc, inl, inr}
use Rattle.std.proofs.lemmas.Bool.{eqb-true}
use Rattle.std.proofs.lemmas.List.{take-append-drop}
use Rattle.std.specs.List.{position, position_or_len}
use Rattle.source_lines.specs.Reading.{Reading, TakesWhole}
use Rattle.source_lines.specs.Stops.{TakesTo, TakesLast}
use Rattle.source_lines.specs.declared.next_line.NextLine.{NextLine}
use Rattle.source_lines.specs.declared.next_line.NextLine.TheVariants.{Line, TooLong, End}
use Rattle.source_lines.proofs.Cuts.{is_feed, feed_here, feed_step}
use Rattle.source_lines.proofs.Positions.{position_some}

-- the first feed stands behind what is before it
feed_behind : (bs : List ℕ) (i : ℕ) → i < length bs → position_or_len is_feed bs ≡ i → take (suc i) bs ≡ take i bs ++ (10 ∷ [])
feed_behind [] i h e = absurd (omega arith)
feed_behind (b ∷ bs) zero h e = ap (λ x. x ∷ []) (eqb-true b 10 (feed_here (eqb b 10) (position_or_len is_feed bs) e))
feed_behind (b ∷ bs) (suc i) h e =
    let step = feed_step (eqb b 10) (position_or_len is_feed bs) i e in
    ap (λ xs. b ∷ xs) (feed_behind bs i (omega arith) step.1)

pub with_feed : (bs : List ℕ) (i : ℕ) → position is_feed bs ≡ Some i → take (i + 1) bs ≡ take i bs ++ (10 ∷ [])
with_feed bs i e =
    let at = position_some is_feed bs i e in
    ap (λ n. take n bs) (add-one i) ∙ feed_behind bs i at.1 at.0

-- up to a feed that waits
pub whole_to : (t : NextLine) (feed most : ℕ) (left : List ℕ) (old new : Reading) (rest : List ℕ) → position is_feed old.waiting ≡ Some feed → TakesTo t feed most old new → old.waiting ++ rest ≡ left → TakesWhole (Ok t) left new (new.waiting ++ rest)
whole_to Line feed most left old new rest found to same = (
  sym same
      ∙ (ap (λ w. w ++ rest) (sym (take-append-drop (feed + 1) old.waiting))
      ∙ (append_assoc (take (feed + 1) old.waiting) (drop (feed + 1) old.waiting) rest
      ∙ (ap (λ w. w ++ (drop (feed + 1) old.waiting ++ rest)) (sym to.3) ∙ ap (λ w. new.whole ++ (w ++ rest)) (sym to.2)))),
  inl (to.3 ∙ (with_feed old.waiting feed found ∙ ap (λ l. l ++ (10 ∷ [])) (sym to.1))),
)
whole_to TooLong feed most left old new rest found to same = tt
whole_to End feed most left old new rest found to same = absurd to

-- the last line, which has no feed
pub whole_last : (t : NextLine) (left : List ℕ) (old new : Reading) (rest : List ℕ) → rest ≡ [] → TakesLast t old new → old.waiting ++ rest ≡ left → TakesWhole (Ok t) left new (new.waiting ++ rest)
whole_last Line left old new rest ended last same =
    let none : new.waiting ++ rest ≡ rest = ap (λ w. w ++ rest) last.2 in (
      sym same ∙ (ap (λ w. w ++ rest) (sym last.3) ∙ ap (λ r. new.whole ++ r) (sym none)),
      inr (last.3 ∙ sym last.1, none ∙ ended),
    )
whole_last TooLong left old new rest ended last same = tt
whole_last End left old new rest ended last same = tt
