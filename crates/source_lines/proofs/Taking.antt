-- What is taken of the bytes that are left.
use Rattle.std.proofs.Common.{◌≡◌, ℕ, ◌+◌, ◌≤◌, ◌<◌, List, [], ◌∷◌, ◌++◌, length, length-take, take, drop, Some, Ok, arith, ap, sym, subst, ◌∙◌}
use Rattle.std.proofs.lemmas.List.{append-nil}
use Rattle.std.specs.List.{position}
use Rattle.line_format.specs.Lines.{lines_of}
use Rattle.source_lines.specs.Feeds.{HasNoFeed}
use Rattle.source_lines.specs.Reading.{IsLineOf, Reading, Takes}
use Rattle.source_lines.specs.Stops.{TakesTo, TakesLast}
use Rattle.source_lines.specs.declared.next_line.NextLine.{NextLine}
use Rattle.source_lines.specs.declared.next_line.NextLine.TheVariants.{Line, TooLong, End}
use Rattle.source_lines.proofs.Cuts.{is_feed}
use Rattle.source_lines.proofs.Feeds.{found_front, none_before, none_front, none_last}
use Rattle.source_lines.proofs.Positions.{position_some}

-- up to a feed that waits
pub taken_to : (t : NextLine) (feed most : ℕ) (left : List ℕ) (old new : Reading) (rest : List ℕ) → position is_feed old.waiting ≡ Some feed → TakesTo t feed most old new → old.waiting ++ rest ≡ left → Takes (Ok t) most left new (new.waiting ++ rest)
taken_to Line feed most left old new rest found to same = (
  ap lines_of (sym same)
      ∙ (found_front old.waiting rest feed found
      ∙ (ap (λ l. l ∷ lines_of (drop (feed + 1) old.waiting ++ rest)) (sym to.1) ∙ ap (λ w. new.line ∷ lines_of (w ++ rest)) (sym to.2))),
  (let long : length new.line ≡ length (take feed old.waiting) = ap length to.1 in omega (arith, to.0, length-take {A = ℕ})),
)
taken_to TooLong feed most left old new rest found to same =
    let at = position_some is_feed old.waiting feed found in (
      record { line = take feed old.waiting; others = lines_of (drop (feed + 1) old.waiting ++ rest); cut = ap lines_of (sym same) ∙ found_front old.waiting rest feed found; longer = omega (arith, to.0, at.1, length-take {A = ℕ}) },
      ap (λ w. w ++ rest) to.1 ∙ same,
    )
taken_to End feed most left old new rest found to same = absurd to

-- the last line, which has no feed
pub taken_last : (t : NextLine) (most : ℕ) (left : List ℕ) (old new : Reading) (rest : List ℕ) → HasNoFeed old.waiting → length old.waiting ≤ most → rest ≡ [] → TakesLast t old new → old.waiting ++ rest ≡ left → Takes (Ok t) most left new (new.waiting ++ rest)
taken_last Line most left old new rest none short ended last same = (
  ap lines_of (sym same ∙ (ap (λ r. old.waiting ++ r) ended ∙ append-nil old.waiting))
      ∙ (none_last old.waiting last.0 none
      ∙ (ap (λ l. l ∷ []) (sym last.1) ∙ ap (λ w. new.line ∷ lines_of w) (sym (ap (λ w. w ++ rest) last.2 ∙ ended)))),
  (let long : length new.line ≡ length old.waiting = ap length last.1 in omega (arith, short)),
)
taken_last TooLong most left old new rest none short ended last same = absurd last
taken_last End most left old new rest none short ended last same = (
  sym same ∙ (ap (λ w. w ++ rest) last.0 ∙ ended),
  ap (λ w. w ++ rest) last.1 ∙ ended,
)

-- more bytes wait than a line may have
pub taken_none : (most : ℕ) (left : List ℕ) (old : Reading) (rest : List ℕ) → HasNoFeed old.waiting → most < length old.waiting → old.waiting ++ rest ≡ left → Takes (Ok TooLong) most left old (old.waiting ++ rest)
taken_none most left old rest none long same =
    let begins = none_front old.waiting rest (omega (arith, long)) none in (
      record { line = begins.0; others = begins.1; cut = ap lines_of (sym same) ∙ begins.2; longer = omega (arith, begins.3, long) },
      same,
    )

-- what was taken is a line

pub line_to : (t : NextLine) (feed most : ℕ) (old new : Reading) → position is_feed old.waiting ≡ Some feed → TakesTo t feed most old new → IsLineOf (Ok t) most new.line
line_to Line feed most old new found to = (
  subst HasNoFeed (sym to.1) (none_before old.waiting feed found),
  (let long : length new.line ≡ length (take feed old.waiting) = ap length to.1 in omega (arith, to.0, length-take {A = ℕ})),
)
line_to TooLong feed most old new found to = tt
line_to End feed most old new found to = tt

pub line_last : (t : NextLine) (most : ℕ) (old new : Reading) → HasNoFeed old.waiting → length old.waiting ≤ most → TakesLast t old new → IsLineOf (Ok t) most new.line
line_last Line most old new none short last = (
  subst HasNoFeed (sym last.1) none,
  (let long : length new.line ≡ length old.waiting = ap length last.1 in omega (arith, short)),
)
line_last TooLong most old new none short last = tt
line_last End most old new none short last = tt
