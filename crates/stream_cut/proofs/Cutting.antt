-- What a call gives of what was to come.
use Rattle.std.proofs.Common.{◌≡◌, ℕ, ◌+◌, ◌≤◌, Bool, true, false, List, [], ◌∷◌, ◌++◌, length, take, drop, Some, None, arith, refl, ap, sym, subst, ◌∙◌, add-one}
use Rattle.std.specs.List.{position}
use Rattle.stream_cut.specs.Cuts.{Stream, Gives, begun, cuts, cuts_with, Whole, Long}
use Rattle.stream_cut.specs.declared.cut.Cut.TheVariants.{Line, TooLong, More}
use Rattle.stream_cut.proofs.Positions.{is_feed, position_some, position_none}
use Rattle.stream_cut.proofs.Walks.{cut_found, cut_full, skip_found, skip_all}

not_skipping : (waiting : List ℕ) (skips : Bool) (feed : ℕ) → position is_feed waiting ≡ Some feed → (skips ≡ true → waiting ≡ []) → skips ≡ false
not_skipping waiting true feed found nothing = let none : position is_feed [] ≡ Some feed = subst (λ (w : List ℕ). position is_feed w ≡ Some feed) (nothing refl) found in cc
not_skipping waiting false feed found nothing = refl

line_at : (most : ℕ) (waiting more : List ℕ) (skips : Bool) (feed : ℕ) → skips ≡ false → position is_feed waiting ≡ Some feed → length waiting ≤ most + 1 →
    cuts most (begun skips) (waiting ++ more) ≡ Whole (take feed waiting) ∷ cuts most (begun skips) (drop (feed + 1) waiting ++ more)
line_at most waiting more true feed off found few = cc
line_at most waiting more false feed off found few =
    let at = position_some is_feed waiting feed found in
    cut_found most [] waiting more feed at.1 at.0 (omega (arith, at.1, few))
    ∙ ap (λ n. Whole (take feed waiting) ∷ cuts most (Some []) (drop n waiting ++ more)) (sym (add-one feed))

-- a line
pub line_given : (old : Stream) (feed : ℕ) → position is_feed old.waiting ≡ Some feed → (old.skips ≡ true → old.waiting ≡ []) → length old.waiting ≤ old.most + 1 →
    Gives Line old (record old { waiting = drop (feed + 1) old.waiting; line = take feed old.waiting })
line_given old feed found nothing few = λ more. line_at old.most old.waiting more old.skips feed (not_skipping old.waiting old.skips feed found nothing) found few

full_at : (most : ℕ) (waiting more : List ℕ) (skips : Bool) → (skips ≡ true → waiting ≡ []) → position is_feed waiting ≡ None → length waiting ≡ most + 1 →
    cuts most (begun skips) (waiting ++ more) ≡ Long ∷ cuts most None more
full_at most waiting more true nothing none full = absurd (omega (arith, full, ap length (nothing refl)))
full_at most waiting more false nothing none full = cut_full most [] waiting more (position_none is_feed waiting none) (omega (arith, full)) (omega arith)

-- a line that is too long
pub long_given : (old : Stream) → (old.skips ≡ true → old.waiting ≡ []) → position is_feed old.waiting ≡ None → length old.waiting ≡ old.most + 1 →
    Gives TooLong old (record old { waiting = []; skips = true })
long_given old nothing none full = λ more. full_at old.most old.waiting more old.skips nothing none full

pub more_given : (old : Stream) → Gives More old old
more_given old = λ more. refl

-- what is skipped
pub skipped_to : (old : Stream) (feed : ℕ) (more : List ℕ) → old.skips ≡ true → position is_feed old.waiting ≡ Some feed →
    cuts_with old more ≡ cuts_with (record old { waiting = drop (feed + 1) old.waiting; skips = false }) more
skipped_to old feed more skips found =
    let at = position_some is_feed old.waiting feed found in
    ap (λ (s : Bool). cuts old.most (begun s) (old.waiting ++ more)) skips ∙ skip_found old.most old.waiting more feed at.1 at.0
    ∙ ap (λ n. cuts old.most (Some []) (drop n old.waiting ++ more)) (sym (add-one feed))

pub skipped_all : (old : Stream) (more : List ℕ) → old.skips ≡ true → position is_feed old.waiting ≡ None →
    cuts_with old more ≡ cuts_with (record old { waiting = []; skips = true }) more
skipped_all old more skips none =
    ap (λ (s : Bool). cuts old.most (begun s) (old.waiting ++ more)) skips ∙ skip_all old.most old.waiting more (position_none is_feed old.waiting none)
