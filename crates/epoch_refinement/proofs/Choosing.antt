-- The configuration that was done last, and the replica with the greatest log: what is chosen is not behind any other.
use Rattle.std.proofs.Common.{◌≡◌, ℕ, ◌<◌, ◌≤◌, Bool, true, false, ◌&&◌, nat_lt, List, [], ◌∷◌, Option, None, Some, refl, sym, ap, ◌∙◌, subst, ◌⊎◌, inl, inr, ⊎_elim, arith}
use Rattle.std.proofs.lemmas.Bool.{ltb-true, ltb-false, and_parts, and_cases, or_cases, or_parts, not-true}
use Rattle.std.specs.Prelude.{not, if◌then◌else◌}
use Rattle.fabric_lemmas.specs.Members.{IsMember}
use Rattle.ring_points.specs.declared.unit.Config.{Config}
use Rattle.ring_points.specs.Epochs.{is_older, same_epoch}
use Rattle.epoch_machine.specs.Epochs.{number_of}
use Rattle.epoch_machine.specs.Evidence.{NotAhead}
use Rattle.unit_rules.specs.declared.reconfig.Standing.{Standing}
use Rattle.unit_rules.specs.Choices.{higher_if, highest_done, has_less, is_ahead_of, ahead_of, furthest}
use Rattle.epoch_refinement.specs.Epochs.{IsNumber}
use Rattle.epoch_refinement.proofs.Numbers.{number_older_below, number_older_not, number_same_not, same_epoch-true}

-- the first is no higher configuration
abbrev pub NotOver : Option Config → Option Config → Type 0
NotOver None o = Unit {0}
NotOver (Some d) None = ⊥
NotOver (Some d) (Some q) = number_of d.epoch ≤ number_of q.epoch

abbrev pub IsSmall : Option Config → Type 0
IsSmall None = Unit {0}
IsSmall (Some d) = d.epoch.configuration < 4294967296

not_over_trans : (a b d : Option Config) → NotOver a b → NotOver b d → NotOver a d
not_over_trans None b d x y = tt
not_over_trans (Some a) None d x y = absurd x
not_over_trans (Some a) (Some b) None x y = absurd y
not_over_trans (Some a) (Some b) (Some d) x y = omega arith

not_over_refl : (a : Option Config) → NotOver a a
not_over_refl None = tt
not_over_refl (Some a) = omega arith

-- the higher of two is over both, is one of the two, and small
highest_two : (o rest : Option Config) → IsSmall o → IsSmall rest → NotOver o (higher_if o rest) × NotOver rest (higher_if o rest) ×
    IsSmall (higher_if o rest) × ((higher_if o rest ≡ o) ⊎ (higher_if o rest ≡ rest))
highest_two None rest x y = (tt, not_over_refl rest, y, inr refl)
highest_two (Some a) None x y = (omega arith, tt, x, inl refl)
highest_two (Some a) (Some b) x y = go (is_older a.epoch b.epoch) refl
  where
    is_a : IsNumber (number_of a.epoch) a.epoch
    is_a = record { small = x; is = refl }

    is_b : IsNumber (number_of b.epoch) b.epoch
    is_b = record { small = y; is = refl }

    go : (t : Bool) → is_older a.epoch b.epoch ≡ t → NotOver (Some a) (if t then Some b else Some a) × NotOver (Some b) (if t then Some b else Some a) ×
        IsSmall (if t then Some b else Some a) × (((if t then Some b else Some a) ≡ Some a) ⊎ ((if t then Some b else Some a) ≡ Some b))
    go true h = ((let lt = number_older_below a.epoch b.epoch is_a is_b h in omega arith), omega arith, y, inr refl)
    go false h = (omega arith, number_older_not a.epoch b.epoch is_a is_b h, x, inl refl)

-- the highest of the answers is over each, and is one of them
pub highest_over : (xs : List (ℕ × Option Config)) → ((a : ℕ) (d : Option Config) → IsMember (a, d) xs → IsSmall d) →
    IsSmall (highest_done xs) × ((a : ℕ) (d : Option Config) → IsMember (a, d) xs → NotOver d (highest_done xs)) ×
    ((q : Config) → highest_done xs ≡ Some q → (a : ℕ) × IsMember (a, Some q) xs)
highest_over [] s = (tt, λ a d m. absurd m, λ q h. absurd (cc (h)))
highest_over (x ∷ xs) s =
    let rest = highest_over xs (λ a d m. s a d (inr m)) in
    let two = highest_two x.1 (highest_done xs) (s x.0 x.1 (inl refl)) rest.0 in (
      two.2,
      λ a d m. ⊎_elim
          (λ e. subst (λ d. NotOver d (higher_if x.1 (highest_done xs))) (ap (λ (q : ℕ × Option Config). q.1) (sym e)) two.0)
          (λ m. not_over_trans d (highest_done xs) (higher_if x.1 (highest_done xs)) (rest.1 a d m) two.1) m,
      λ q h. ⊎_elim
          (λ e. (x.0, inl (λ i. (x.0, (sym h ∙ e) i))))
          (λ e. let m = rest.2 q (sym e ∙ h) in (m.0, inr m.1)) two.3,
    )

-- a replica with a log that is not ahead of another's
abbrev pub Behind : ℕ × Standing → ℕ × Standing → Type 0
Behind r o = NotAhead (number_of r.1.at) r.1.last (number_of o.1.at) o.1.last

not_ahead_trans : (a m b n d k : ℕ) → NotAhead a m b n → NotAhead b n d k → NotAhead a m d k
not_ahead_trans a m b n d k (inl x) (inl y) = inl (omega arith)
not_ahead_trans a m b n d k (inl x) (inr y) = let e = y.0 in inl (omega arith)
not_ahead_trans a m b n d k (inr x) (inl y) = let e = x.0 in inl (omega arith)
not_ahead_trans a m b n d k (inr x) (inr y) = inr (x.0 ∙ y.0, let i = x.1 in let j = y.1 in omega arith)

module _ (x y : ℕ × Standing) (sx : x.1.at.configuration < 4294967296) (sy : y.1.at.configuration < 4294967296) where
  is_x : IsNumber (number_of x.1.at) x.1.at
  is_x = record { small = sx; is = refl }

  is_y : IsNumber (number_of y.1.at) y.1.at
  is_y = record { small = sy; is = refl }

  less_true : has_less x y ≡ true → Behind x y
  less_true h = ⊎_elim
      (λ lt. inl (number_older_below x.1.at y.1.at is_x is_y lt))
      (λ both.
      let parts = and_parts (same_epoch x.1.at y.1.at) (nat_lt x.1.last y.1.last) both in
      inr (ap number_of (same_epoch-true x.1.at y.1.at parts.0), let l = ltb-true x.1.last y.1.last parts.1 in omega arith))
      (or_cases (is_older x.1.at y.1.at) (same_epoch x.1.at y.1.at && nat_lt x.1.last y.1.last) h)

  less_false : has_less x y ≡ false → Behind y x
  less_false h =
      let parts = or_parts (is_older x.1.at y.1.at) (same_epoch x.1.at y.1.at && nat_lt x.1.last y.1.last) h in
      let le = number_older_not x.1.at y.1.at is_x is_y parts.0 in
      ⊎_elim
      (λ apart. inl (let d = number_same_not x.1.at y.1.at is_x is_y apart in omega arith))
      (λ longer. go (is_older y.1.at x.1.at) refl (ltb-false x.1.last y.1.last longer) le)
      (and_cases (same_epoch x.1.at y.1.at) (nat_lt x.1.last y.1.last) parts.1)
    where
      go : (b : Bool) → is_older y.1.at x.1.at ≡ b → y.1.last ≤ x.1.last → number_of y.1.at ≤ number_of x.1.at → Behind y x
      go true e l le = inl (number_older_below y.1.at x.1.at is_y is_x e)
      go false e l le = inr (let ge = number_older_not y.1.at x.1.at is_y is_x e in omega arith, l)

-- who is ahead of another, or not
ahead_true : (x y : ℕ × Standing) → x.1.at.configuration < 4294967296 → y.1.at.configuration < 4294967296 → is_ahead_of x y ≡ true → Behind y x
ahead_true x y sx sy h = ⊎_elim (λ l. less_true y x sy sx l)
    (λ both. less_false x y sx sy (not-true (has_less x y) (and_parts (not (has_less x y)) (nat_lt x.0 y.0) both).0))
    (or_cases (has_less y x) (not (has_less x y) && nat_lt x.0 y.0) h)

ahead_false : (x y : ℕ × Standing) → x.1.at.configuration < 4294967296 → y.1.at.configuration < 4294967296 → is_ahead_of x y ≡ false → Behind x y
ahead_false x y sx sy h = less_false y x sy sx (or_parts (has_less y x) (not (has_less x y) && nat_lt x.0 y.0) h).0

none_in : (xs : List (ℕ × Standing)) → furthest xs ≡ None → (r : ℕ × Standing) → IsMember r xs → ⊥
none_in [] e r m = m
none_in (z ∷ zs) e r m = some (furthest zs) e
  where
    some : (b : Option (ℕ × Standing)) → ahead_of z b ≡ None → ⊥
    some None e = cc (e)
    some (Some y) e = pick (is_ahead_of z y) e
      where
        pick : (t : Bool) → (if t then Some z else Some y) ≡ None → ⊥
        pick true e = cc (e)
        pick false e = cc (e)

-- the furthest of the answers is one of them, and none is ahead of it
pub furthest_over : (xs : List (ℕ × Standing)) → ((r : ℕ × Standing) → IsMember r xs → r.1.at.configuration < 4294967296) → (o : ℕ × Standing) →
    furthest xs ≡ Some o → IsMember o xs × ((r : ℕ × Standing) → IsMember r xs → Behind r o)
furthest_over [] s o h = absurd (cc (h))
furthest_over (x ∷ xs) s o h = go (furthest xs) refl h (furthest_over xs (λ r m. s r (inr m)))
  where
    same : (x ≡ o) → ((r : ℕ × Standing) → IsMember r xs → Behind r x) →
        IsMember o (x ∷ xs) × ((r : ℕ × Standing) → IsMember r (x ∷ xs) → Behind r o)
    same e rest =
        subst (λ o. IsMember o (x ∷ xs) × ((r : ℕ × Standing) → IsMember r (x ∷ xs) → Behind r o)) e
        (inl refl, λ r m. ⊎_elim (λ (i : r ≡ x). subst (λ r. Behind r x) (sym i) (inr (refl, omega arith))) (rest r) m)

    go : (b : Option (ℕ × Standing)) → furthest xs ≡ b → ahead_of x b ≡ Some o →
        ((o : ℕ × Standing) → furthest xs ≡ Some o → IsMember o xs × ((r : ℕ × Standing) → IsMember r xs → Behind r o)) →
        IsMember o (x ∷ xs) × ((r : ℕ × Standing) → IsMember r (x ∷ xs) → Behind r o)
    go None e h rest = same (cc) (λ r m. absurd (none_in xs e r m))
    go (Some y) e h rest = pick (is_ahead_of x y) refl h
      where
        below : IsMember y xs × ((r : ℕ × Standing) → IsMember r xs → Behind r y)
        below = rest y e

        pick : (t : Bool) → is_ahead_of x y ≡ t → (if t then Some x else Some y) ≡ Some o →
            IsMember o (x ∷ xs) × ((r : ℕ × Standing) → IsMember r (x ∷ xs) → Behind r o)
        pick true i h =
            same (cc)
            (λ r m.
            not_ahead_trans (number_of r.1.at) r.1.last (number_of y.1.at) y.1.last (number_of x.1.at) x.1.last (below.1 r m)
            (ahead_true x y (s x (inl refl)) (s y (inr below.0)) i))
        pick false i h =
            let q : y ≡ o = cc in
            subst (λ o. IsMember o (x ∷ xs) × ((r : ℕ × Standing) → IsMember r (x ∷ xs) → Behind r o)) q (
              inr below.0,
              λ r m. ⊎_elim (λ (j : r ≡ x). subst (λ r. Behind r y) (sym j) (ahead_false x y (s x (inl refl)) (s y (inr below.0)) i))
                  (λ (k : IsMember r xs). below.1 r k) m,
            )
