-- What polls and tallies amount to: answers of those that were asked, and majorities of them.
use Rattle.std.proofs.Common.{◌≡◌, ℕ, zero, suc, ◌+◌, ◌*◌, ◌≤◌, Bool, true, false, cond, ◌&&◌, ◌||◌, ◌==◌, nat_le, List, [], ◌∷◌, ◌++◌, length, Option, None, Some, refl, sym, ap, ◌∙◌, subst, ◌⊎◌, inl, inr, ⊎_elim, arith}
use Rattle.std.proofs.lemmas.Bool.{eqb-true, eqb-false, ltb-true, leb-true, or_cases, or_left, or_right, or_parts, and_parts, and_from, eq-eqb, both_ways, not-true, or_from, le-leb}
use Rattle.std.proofs.lemmas.Bool.Decides.{nat_tests}
use Rattle.std.proofs.lemmas.List.Sums.{sum_by-cons}
use Rattle.std.specs.Prelude.{not, is_some}
use Rattle.std.specs.List.{list_any, count_by}
use Rattle.std.specs.Option.{unwrap_or}
use Rattle.fabric_lemmas.specs.Members.{IsMember}
use Rattle.ring_points.specs.Whos.{arbiter_actor}
use Rattle.arbiter_quorum.specs.Counted.{are_counted, count_given}
use Rattle.arbiter_quorum.specs.Tallies.{is_majority, has_answered as is_answered, with_answer}
use Rattle.epoch_machine.specs.Majorities.{count, MajorityOf}
use Rattle.unit_rules.specs.Polls.{Poll, poll_of, arbiters_to, answered, answers_in, is_carried, has_answered}
use Rattle.epoch_refinement.specs.Reconfigs.{actors_in}
use Rattle.epoch_refinement.proofs.Confirmed.{any_in, in_any, member_cases}

-- a new poll asks these
pub asked_all : (A : Type 0) (ns : List ℕ) → actors_in {A = A} (poll_of ns) ≡ ns
asked_all A [] = refl
asked_all A (n ∷ ns) = ap (λ l. n ∷ l) (asked_all A ns)

module _ {A : Type 0} where
  -- nobody has answered a new poll
  pub none_answered : (ns : List ℕ) (a : ℕ) (x : A) → IsMember (a, Some x) (poll_of ns) → ⊥
  none_answered [] a x m = m
  none_answered (n ∷ ns) a x (inl e) = let h : Some x ≡ None = ap (λ (q : ℕ × Option A). q.1) e in cc (h)
  none_answered (n ∷ ns) a x (inr m) = none_answered ns a x m

  -- an answer asks nobody else
  pub asked_still : (actor : ℕ) (x : A) (poll : Poll A) → actors_in (answered actor x poll) ≡ actors_in poll
  asked_still actor x [] = refl
  asked_still actor x (e ∷ es) = go (e.0 == actor) (asked_still actor x es)
    where
      go : (b : Bool) → actors_in (answered actor x es) ≡ actors_in es →
          actors_in (cond b ((e.0, Some (unwrap_or e.1 x)) ∷ es) (e ∷ answered actor x es)) ≡ e.0 ∷ actors_in es
      go true h = refl
      go false h = ap (λ l. e.0 ∷ l) h

  -- what has been answered is old, or this
  pub answered_in : (actor : ℕ) (x : A) (poll : Poll A) (a : ℕ) (y : A) → IsMember (a, Some y) (answered actor x poll) →
      IsMember (a, Some y) poll ⊎ ((a ≡ actor) × (y ≡ x))
  answered_in actor x [] a y m = absurd m
  answered_in actor x (e ∷ es) a y m = go (e.0 == actor) refl m (answered_in actor x es a y)
    where
      here : (o : Option A) → e.1 ≡ o → e.0 ≡ actor → (a, Some y) ≡ (let q : ℕ × Option A = (e.0, Some (unwrap_or o x)) in q) →
          IsMember (a, Some y) (e ∷ es) ⊎ ((a ≡ actor) × (y ≡ x))
      here None h same i = inr (ap (λ (q : ℕ × Option A). q.0) i ∙ same, (let k : Some y ≡ Some x = ap (λ (q : ℕ × Option A). q.1) i in cc))
      here (Some z) h same i = inl (inl (λ t. ((ap (λ (q : ℕ × Option A). q.0) i) t, ((ap (λ (q : ℕ × Option A). q.1) i) ∙ sym h) t)))

      go : (b : Bool) → (e.0 == actor) ≡ b → IsMember (a, Some y) (cond b ((e.0, Some (unwrap_or e.1 x)) ∷ es) (e ∷ answered actor x es)) →
          (IsMember (a, Some y) (answered actor x es) → IsMember (a, Some y) es ⊎ ((a ≡ actor) × (y ≡ x))) →
          IsMember (a, Some y) (e ∷ es) ⊎ ((a ≡ actor) × (y ≡ x))
      go true h (inl i) rest = here e.1 refl (eqb-true e.0 actor h) i
      go true h (inr i) rest = inl (inr i)
      go false h (inl i) rest = inl (inl i)
      go false h (inr i) rest = ⊎_elim (λ j. inl (inr j)) (λ j. inr j) (rest i)

  -- the answers of a poll are those that came
  pub answers_are : (poll : Poll A) (a : ℕ) (x : A) → IsMember (a, x) (answers_in poll) → IsMember (a, Some x) poll
  answers_are [] a x m = absurd m
  answers_are (e ∷ es) a x m = go e.1 refl m (answers_are es a x)
    where
      go : (o : Option A) → e.1 ≡ o → IsMember (a, x) (answers_in ((e.0, o) ∷ es)) → (IsMember (a, x) (answers_in es) → IsMember (a, Some x) es) →
          IsMember (a, Some x) (e ∷ es)
      go None h i rest = inr (rest i)
      go (Some y) h (inl i) rest = inl (λ t. ((ap (λ (q : ℕ × A). q.0) i) t, (ap (λ (q : ℕ × A). Some q.1) i ∙ sym h) t))
      go (Some y) h (inr i) rest = inr (rest i)

  pub are_answers : (poll : Poll A) (a : ℕ) (x : A) → IsMember (a, Some x) poll → IsMember (a, x) (answers_in poll)
  are_answers [] a x m = absurd m
  are_answers (e ∷ es) a x m = go e.1 refl m (are_answers es a x)
    where
      go : (o : Option A) → e.1 ≡ o → IsMember (a, Some x) (e ∷ es) → (IsMember (a, Some x) es → IsMember (a, x) (answers_in es)) →
          IsMember (a, x) (answers_in ((e.0, o) ∷ es))
      go None h (inl i) rest = absurd (let k : Some x ≡ None = ap (λ (q : ℕ × Option A). q.1) i ∙ h in cc (k))
      go None h (inr i) rest = rest i
      go (Some y) h (inl i) rest =
          let k : Some x ≡ Some y = ap (λ (q : ℕ × Option A). q.1) i ∙ h in
          let same : x ≡ y = cc in
          inl (λ t. ((ap (λ (q : ℕ × Option A). q.0) i) t, same t))
      go (Some y) h (inr i) rest = inr (rest i)

  -- who has answered has an answer
  pub has_answer : (a : ℕ) (poll : Poll A) → has_answered a poll ≡ true → (x : A) × IsMember (a, Some x) poll
  has_answer a [] h = absurd (cc (h))
  has_answer a (e ∷ es) h =
      ⊎_elim (λ b. here e.1 refl (and_parts (e.0 == a) (is_some e.1) b)) (λ r. let i = has_answer a es r in (i.0, inr i.1))
      (or_cases (e.0 == a && is_some e.1) (has_answered a es) h)
    where
      here : (o : Option A) → e.1 ≡ o → ((e.0 == a) ≡ true) × (is_some e.1 ≡ true) → (x : A) × IsMember (a, Some x) (e ∷ es)
      here None i b = absurd (let k : is_some e.1 ≡ false = ap is_some i in cc (k, b.1))
      here (Some x) i b = (x, inl (λ t. ((sym (eqb-true e.0 a b.0)) t, (sym i) t)))

  passed_count : (f : ℕ → Bool) (poll : Poll A) → ((e : ℕ × Option A) → IsMember e poll → is_some e.1 ≡ true → f e.0 ≡ true) →
      count_by (λ e. is_some e.1) poll ≤ count f (actors_in poll)
  passed_count f [] h = omega arith
  passed_count f (e ∷ es) h =
      subst (λ n. n ≤ count f (actors_in (e ∷ es))) (sym (sum_by-cons (λ (e : ℕ × Option A). cond (is_some e.1) 1 0) e es))
      (go (is_some e.1) refl (f e.0) refl (passed_count f es (λ d m. h d (inr m))))
    where
      go : (a : Bool) → is_some e.1 ≡ a → (b : Bool) → f e.0 ≡ b → count_by (λ e. is_some e.1) es ≤ count f (actors_in es) →
          cond a 1 0 + count_by (λ e. is_some e.1) es ≤ cond b (suc (count f (actors_in es))) (count f (actors_in es))
      go true i true j le = omega arith
      go true i false j le = absurd (both_ways (f e.0) j (h e (inl refl) i))
      go false i true j le = omega arith
      go false i false j le = omega arith

  asked_length : (poll : Poll A) → length poll ≡ length (actors_in poll)
  asked_length [] = refl
  asked_length (e ∷ es) = ap suc (asked_length es)

  -- a poll that a majority has answered has a majority of the asked
  pub carried_by : (P : ℕ → Type 0) (poll : Poll A) → ((a : ℕ) (x : A) → IsMember (a, Some x) poll → P a) → is_carried poll ≡ true →
      MajorityOf (actors_in poll) P
  carried_by P poll each h = record {
    by = λ a. has_answered a poll;
    each = λ a i. let x = has_answer a poll i in each a x.0 x.1;
    most =
        let lt = ltb-true (length poll) (2 * count_by (λ e. is_some e.1) poll) h in
        let n = asked_length poll in
        let le = passed_count (λ a. has_answered a poll) poll
        (λ e m some. in_any (λ d. d.0 == e.0 && is_some d.1) poll e m (and_from (e.0 == e.0) (is_some e.1) (eq-eqb e.0 e.0 refl) some)) in
        omega arith;
  }

-- Counted answers of arbitrators 1 to n.

count_more : (f g : ℕ → Bool) → ((x : ℕ) → f x ≡ true → g x ≡ true) → (xs : List ℕ) → count f xs ≤ count g xs
count_more f g more [] = omega arith
count_more f g more (x ∷ xs) = go (f x) refl (g x) refl (count_more f g more xs)
  where
    go : (a : Bool) → f x ≡ a → (b : Bool) → g x ≡ b → count f xs ≤ count g xs → cond a (suc (count f xs)) (count f xs) ≤ cond b (suc (count g xs)) (count g xs)
    go true i true j le = omega arith
    go true i false j le = absurd (both_ways (g x) j (more x i))
    go false i true j le = omega arith
    go false i false j le = omega arith

-- one more that is in the list
count_one_more : (f g : ℕ → Bool) → ((x : ℕ) → f x ≡ true → g x ≡ true) → (a : ℕ) → f a ≡ false → g a ≡ true → (xs : List ℕ) → IsMember a xs →
    count f xs + 1 ≤ count g xs
count_one_more f g more a no_f has_g [] m = absurd m
count_one_more f g more a no_f has_g (x ∷ xs) (inl e) = go (f x) refl (g x) refl (count_more f g more xs)
  where
    go : (p : Bool) → f x ≡ p → (q : Bool) → g x ≡ q → count f xs ≤ count g xs → cond p (suc (count f xs))
        (count f xs) + 1 ≤ cond q (suc (count g xs)) (count g xs)
    go true i q j le = absurd (both_ways (f a) no_f (subst (λ z. f z ≡ true) (sym e) i))
    go false i true j le = omega arith
    go false i false j le = absurd (both_ways (g a) (subst (λ z. g z ≡ false) (sym e) j) has_g)
count_one_more f g more a no_f has_g (x ∷ xs) (inr m) = go (f x) refl (g x) refl (count_one_more f g more a no_f has_g xs m)
  where
    go : (p : Bool) → f x ≡ p → (q : Bool) → g x ≡ q → count f xs + 1 ≤ count g xs → cond p (suc (count f xs))
        (count f xs) + 1 ≤ cond q (suc (count g xs)) (count g xs)
    go true i true j le = omega arith
    go true i false j le = absurd (both_ways (g x) j (more x i))
    go false i true j le = omega arith
    go false i false j le = omega arith

in_arbiters : (n a : ℕ) → 1 ≤ a → a ≤ n → IsMember (arbiter_actor a) (arbiters_to n)
in_arbiters zero a some le = absurd (omega arith)
in_arbiters (suc n) a some le = go (a == suc n) refl (λ l. in_arbiters n a some l)
  where
    after : (xs : List ℕ) → arbiter_actor a ≡ arbiter_actor (suc n) → IsMember (arbiter_actor a) (xs ++ arbiter_actor (suc n) ∷ [])
    after [] e = inl e
    after (x ∷ xs) e = inr (after xs e)

    before : (xs : List ℕ) → IsMember (arbiter_actor a) xs → IsMember (arbiter_actor a) (xs ++ arbiter_actor (suc n) ∷ [])
    before [] m = absurd m
    before (x ∷ xs) (inl e) = inl e
    before (x ∷ xs) (inr m) = inr (before xs m)

    go : (b : Bool) → (a == suc n) ≡ b → (a ≤ n → IsMember (arbiter_actor a) (arbiters_to n)) → IsMember (arbiter_actor a)
        (arbiters_to n ++ arbiter_actor (suc n) ∷ [])
    go true e rest = after (arbiters_to n) (ap arbiter_actor (eqb-true a (suc n) e))
    go false e rest = before (arbiters_to n) (rest (let d = eqb-false a (suc n) e in omega arith))

pub arbiters_length : (n : ℕ) → length (arbiters_to n) ≡ n
arbiters_length zero = refl
arbiters_length (suc n) = grow (arbiters_to n) ∙ ap suc (arbiters_length n)
  where
    grow : (xs : List ℕ) → length (xs ++ arbiter_actor (suc n) ∷ []) ≡ suc (length xs)
    grow [] = refl
    grow (x ∷ xs) = ap suc (grow xs)

module _ {A : Type 0} (p : A → Bool) where
  -- the actor is an arbitrator that gave an answer that passes
  abbrev pub gave : List (ℕ × A) → ℕ → Bool
  gave answers actor = list_any (λ answer. arbiter_actor answer.0 == actor && p answer.1) answers

  gave_not : (a : ℕ) (answers : List (ℕ × A)) → is_answered a answers ≡ false → gave answers (arbiter_actor a) ≡ false
  gave_not a [] h = refl
  gave_not a (answer ∷ answers) h =
      let parts = or_parts (answer.0 == a) (is_answered a answers) h in
      by (arbiter_actor answer.0 == arbiter_actor a) refl (gave_not a answers parts.1) parts.0
    where
      by : (b : Bool) → (arbiter_actor answer.0 == arbiter_actor a) ≡ b → gave answers (arbiter_actor a) ≡ false → (answer.0 == a) ≡ false →
          ((b && p answer.1) || gave answers (arbiter_actor a)) ≡ false
      by true e rest apart =
          absurd (let same = eqb-true (arbiter_actor answer.0) (arbiter_actor a) e in let d = eqb-false answer.0 a apart in omega arith)
      by false e rest apart = rest

  given_count : (n : ℕ) (answers : List (ℕ × A)) → are_counted n answers ≡ true → count_given p answers ≤ count (gave answers) (arbiters_to n)
  given_count n [] h = omega arith
  given_count n (answer ∷ answers) h =
      let a = and_parts ((nat_le 1 answer.0 && nat_le answer.0 n) && not (is_answered answer.0 answers)) (are_counted n answers) h in
      let b = and_parts (nat_le 1 answer.0 && nat_le answer.0 n) (not (is_answered answer.0 answers)) a.0 in
      let d = and_parts (nat_le 1 answer.0) (nat_le answer.0 n) b.0 in
      subst (λ k. k ≤ count (gave (answer ∷ answers)) (arbiters_to n)) (sym (sum_by-cons (λ (answer : ℕ × A). cond (p answer.1) 1 0) answer answers))
      (go (p answer.1) refl (given_count n answers a.1) (in_arbiters n answer.0 (leb-true 1 answer.0 d.0) (leb-true answer.0 n d.1))
      (gave_not answer.0 answers (not-true (is_answered answer.0 answers) b.1)))
    where
      more : (actor : ℕ) → gave answers actor ≡ true → gave (answer ∷ answers) actor ≡ true
      more actor h = or_right (arbiter_actor answer.0 == actor && p answer.1) (gave answers actor) h

      go : (b : Bool) → p answer.1 ≡ b → count_given p answers ≤ count (gave answers) (arbiters_to n) → IsMember (arbiter_actor answer.0) (arbiters_to n) →
          gave answers (arbiter_actor answer.0) ≡ false → cond b 1 0 + count_given p answers ≤ count (gave (answer ∷ answers)) (arbiters_to n)
      go true e le m new =
          let l = count_one_more (gave answers) (gave (answer ∷ answers)) more (arbiter_actor answer.0) new
          (or_left (arbiter_actor answer.0 == arbiter_actor answer.0 && p answer.1) (gave answers (arbiter_actor answer.0))
          (and_from (arbiter_actor answer.0 == arbiter_actor answer.0) (p answer.1) (eq-eqb (arbiter_actor answer.0) (arbiter_actor answer.0) refl) e))
          (arbiters_to n) m in omega arith
      go false e le m new = let l = count_more (gave answers) (gave (answer ∷ answers)) more (arbiters_to n) in omega arith

  -- a majority of the arbitrators, by their counted answers
  pub given_by : (P : ℕ → Type 0) (n : ℕ) (answers : List (ℕ × A)) → are_counted n answers ≡ true →
      ((a : ℕ) (x : A) → IsMember (a, x) answers → p x ≡ true → P (arbiter_actor a)) → is_majority n (count_given p answers) ≡ true →
      MajorityOf (arbiters_to n) P
  given_by P n answers counted each h = record {
    by = gave answers;
    each = λ actor i.
        let x = any_in (λ answer. arbiter_actor answer.0 == actor && p answer.1) answers i in
        let parts = and_parts (arbiter_actor x.0.0 == actor) (p x.0.1) x.2 in
        subst P (eqb-true (arbiter_actor x.0.0) actor parts.0) (each x.0.0 x.0.1 x.1 parts.1);
    most = let lt = ltb-true n (2 * count_given p answers) h in let l = arbiters_length n in let le = given_count n answers counted in omega arith;
  }

-- one more answer of an arbitrator 1 to n
module _ {A : Type 0} (n a : ℕ) (x : A) (some : 1 ≤ a) (le : a ≤ n) where
  pub with_answer_in : (answers : List (ℕ × A)) (b : ℕ) (y : A) → IsMember (b, y) (with_answer a x answers) → IsMember (b, y) answers ⊎ ((b ≡ a) × (y ≡ x))
  with_answer_in answers b y m = go (is_answered a answers) m
    where
      go : (t : Bool) → IsMember (b, y) (cond t answers (answers ++ (a, x) ∷ [])) → IsMember (b, y) answers ⊎ ((b ≡ a) × (y ≡ x))
      go true m = inl m
      go false m = ⊎_elim (λ i. inl i)
          (λ i. ⊎_elim (λ e. inr (ap (λ (q : ℕ × A). q.0) e, ap (λ (q : ℕ × A). q.1) e)) (λ z. absurd z) i)
          (member_cases (b, y) answers ((a, x) ∷ []) m)

-- and the answers stay counted
pub still_counted : {A : Type 0} (n a : ℕ) (x : A) → 1 ≤ a → a ≤ n → (answers : List (ℕ × A)) → are_counted n answers ≡ true →
    are_counted n (with_answer a x answers) ≡ true
still_counted {A = A} n a x some le answers h = go (is_answered a answers) refl
  where
    apart : (b : ℕ) (xs : List (ℕ × A)) → (b == a) ≡ false → is_answered b xs ≡ false → is_answered b (xs ++ (a, x) ∷ []) ≡ false
    apart b [] d e = or_from (a == b) false (two a b d) refl
      where
        two : (a b : ℕ) → (b == a) ≡ false → (a == b) ≡ false
        two a b d = grind (arith, nat_tests, d)
    apart b (y ∷ ys) d e =
        let parts = or_parts (y.0 == b) (is_answered b ys) e in or_from (y.0 == b) (is_answered b (ys ++ (a, x) ∷ [])) parts.0 (apart b ys d parts.1)

    push : (xs : List (ℕ × A)) → is_answered a xs ≡ false → are_counted n xs ≡ true → are_counted n (xs ++ (a, x) ∷ []) ≡ true
    push [] e h =
        and_from ((nat_le 1 a && nat_le a n) && true) true
        (and_from (nat_le 1 a && nat_le a n) true (and_from (nat_le 1 a) (nat_le a n) (le-leb 1 a some) (le-leb a n le)) refl) refl
    push (y ∷ ys) e h =
        let b = and_parts ((nat_le 1 y.0 && nat_le y.0 n) && not (is_answered y.0 ys)) (are_counted n ys) h in
        let d = and_parts (nat_le 1 y.0 && nat_le y.0 n) (not (is_answered y.0 ys)) b.0 in
        let parts = or_parts (y.0 == a) (is_answered a ys) e in
        and_from ((nat_le 1 y.0 && nat_le y.0 n) && not (is_answered y.0 (ys ++ (a, x) ∷ []))) (are_counted n (ys ++ (a, x) ∷ []))
        (and_from (nat_le 1 y.0 && nat_le y.0 n) (not (is_answered y.0 (ys ++ (a, x) ∷ []))) d.0
        (ap not (apart y.0 ys parts.0 (not-true (is_answered y.0 ys) d.1))))
        (push ys parts.1 b.1)

    go : (t : Bool) → is_answered a answers ≡ t → are_counted n (cond t answers (answers ++ (a, x) ∷ [])) ≡ true
    go true e = h
    go false e = push answers e h
