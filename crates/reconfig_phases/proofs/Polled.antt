-- Polls, an answer later.
use Rattle.std.proofs.Common.{◌≡◌, ℕ, suc, ◌+◌, ◌*◌, ◌<◌, ◌≤◌, Bool, true, false, List, [], ◌∷◌, ◌++◌, Option, Some, None, length, refl, ap, sym, ◌∙◌, arith, zero-add, set, get_or, take, map}
use Rattle.std.specs.Prelude.{◌==◌, not, is_some, filter, unwrap_or}
use Rattle.std.specs.List.{position_from, position_or_len}
use Rattle.std.proofs.lemmas.List.{append-nil, map-append}
use Rattle.std.proofs.lemmas.List.Elements.{filter_more}
use Rattle.unit_rules.specs.Polls.{Poll, answered, waiting}

-- the place that a search gives, or the length where it finds none

place_from : {B : Type 0} (test : B → Bool) (i : ℕ) (ys : List B) → unwrap_or (position_from test i ys) (i + length ys) ≡ i + position_or_len test ys
place_from test i [] = refl
place_from test i (y ∷ ys) = by (test y) refl (place_from test (i + 1) ys)
  where
    by : (b : Bool) → test y ≡ b → unwrap_or (position_from test (i + 1) ys) ((i + 1) + length ys) ≡ (i + 1) + position_or_len test ys
        → unwrap_or (position_from test i (y ∷ ys)) (i + length (y ∷ ys)) ≡ i + position_or_len test (y ∷ ys)
    by true is rest = rw is (omega arith)
    by false is rest =
        let one : i + length (y ∷ ys) ≡ (i + 1) + length ys = omega arith in
        let more : (i + 1) + position_or_len test ys ≡ i + (1 + position_or_len test ys) = omega arith in
        rw (is, one) (rest ∙ more)

first_place : {B : Type 0} (test : B → Bool) (xs : List B) → unwrap_or (position_from test 0 xs) (length xs) ≡ position_or_len test xs
first_place test xs =
    ap (λ (n : ℕ). unwrap_or (position_from test 0 xs) n) (sym (zero-add (length xs))) ∙ place_from test 0 xs ∙ zero-add (position_or_len test xs)

pub found : {B : Type 0} (test : B → Bool) (xs : List B) (i : ℕ) → position_from test 0 xs ≡ Some i → i ≡ position_or_len test xs
found test xs i is = sym (ap (λ (o : Option ℕ). unwrap_or o (length xs)) is) ∙ first_place test xs

pub missing : {B : Type 0} (test : B → Bool) (xs : List B) → position_from test 0 xs ≡ None → length xs ≡ position_or_len test xs
missing test xs is = sym (ap (λ (o : Option ℕ). unwrap_or o (length xs)) is) ∙ first_place test xs

module _ {A : Type 0} where
  -- where the actor stands among the asked
  abbrev pub place : ℕ → Poll A → ℕ
  place actor poll = position_or_len (λ e. e.0 == actor) poll

  here : (actor : ℕ) (e : ℕ × Option A) (es : Poll A) → (e.0 == actor) ≡ true → place actor (e ∷ es) ≡ 0
  here actor e es is = rw is refl

  later : (actor : ℕ) (e : ℕ × Option A) (es : Poll A) → (e.0 == actor) ≡ false → place actor (e ∷ es) ≡ suc (place actor es)
  later actor e es is = rw is (omega arith)

  unasked : (actor : ℕ) (x : A) (poll : Poll A) → length poll ≤ place actor poll → poll ≡ answered actor x poll
  unasked actor x [] none = refl
  unasked actor x (e ∷ es) none = by (e.0 == actor) refl (unasked actor x es)
    where
      by : (b : Bool) → (e.0 == actor) ≡ b → (length es ≤ place actor es → es ≡ answered actor x es) → e ∷ es ≡ answered actor x (e ∷ es)
      by true is rest = absurd (omega (arith, here actor e es is, none))
      by false is rest = rw is (ap (λ (fs : Poll A). e ∷ fs) (rest (omega (arith, later actor e es is, none))))

  asked : (actor : ℕ) (x : A) (poll : Poll A) (d : ℕ × Option A) → place actor poll < length poll
      → set poll (place actor poll) ((get_or poll (place actor poll) d).0, Some (unwrap_or (get_or poll (place actor poll) d).1 x)) ≡ answered actor x poll
  asked actor x [] d some = absurd (omega arith)
  asked actor x (e ∷ es) d some = by (e.0 == actor) refl (asked actor x es d)
    where
      by : (b : Bool) → (e.0 == actor) ≡ b
          → (place actor es < length es
          → set es (place actor es) ((get_or es (place actor es) d).0, Some (unwrap_or (get_or es (place actor es) d).1 x))
          ≡ answered actor x es)
          → set (e ∷ es) (place actor (e ∷ es))
          ((get_or (e ∷ es) (place actor (e ∷ es)) d).0, Some (unwrap_or (get_or (e ∷ es) (place actor (e ∷ es)) d).1 x))
          ≡ answered actor x (e ∷ es)
      by true is rest = rw (here actor e es is, is) refl
      by false is rest = rw (later actor e es is, is) (ap (λ (fs : Poll A). e ∷ fs) (rest (omega (arith, later actor e es is, some))))

  -- an answer of one that is not asked
  pub unasked_at : (actor : ℕ) (x : A) (poll : Poll A) (i : ℕ) → i ≡ place actor poll → length poll ≤ i → poll ≡ answered actor x poll
  unasked_at actor x poll i is none = unasked actor x poll (omega (arith, is, none))

  -- the first answer of one that is asked counts
  pub asked_at : (actor : ℕ) (x : A) (poll : Poll A) (i : ℕ) (d : ℕ × Option A) (o : Option A) → i ≡ place actor poll → i < length poll
      → o ≡ Some (unwrap_or (get_or poll i d).1 x) → set poll i ((get_or poll i d).0, o) ≡ answered actor x poll
  asked_at actor x poll i d o is inside e = rw (e, is) (asked actor x poll d (omega (arith, is, inside)))

  -- one more of those that have not answered
  pub waits : (poll : Poll A) (i : ℕ) (d : ℕ × Option A) → i < length poll → is_some (get_or poll i d).1 ≡ false
      → waiting (take (i + 1) poll) ≡ waiting (take i poll) ++ (get_or poll i d).0 ∷ []
  waits poll i d inside is =
      ap (map (λ (e : ℕ × Option A). e.0)) (filter_more (λ (e : ℕ × Option A). not (is_some e.1)) poll i d inside ∙ rw is refl)
      ∙ map-append (λ (e : ℕ × Option A). e.0) (filter (λ (e : ℕ × Option A). not (is_some e.1)) (take i poll)) (get_or poll i d ∷ [])

  -- and one that has
  pub waits_not : (poll : Poll A) (i : ℕ) (d : ℕ × Option A) → i < length poll → is_some (get_or poll i d).1 ≡ true
      → waiting (take (i + 1) poll) ≡ waiting (take i poll)
  waits_not poll i d inside is =
      ap (map (λ (e : ℕ × Option A). e.0))
      (filter_more (λ (e : ℕ × Option A). not (is_some e.1)) poll i d inside
      ∙ rw is (append-nil (filter (λ (e : ℕ × Option A). not (is_some e.1)) (take i poll))))
