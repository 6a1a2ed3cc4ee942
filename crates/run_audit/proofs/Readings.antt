-- Readings in the clocks of a moment.
use Rattle.std.proofs.Common.{◌≡◌, ℕ, ◌+◌, ◌<◌, ◌≤◌, Bool, true, false, [], ◌∷◌, ◌++◌, length, take, get_or, Option, Some, None, Contains, inl, inr, refl, sym, ap, ◌∙◌, subst, arith}
use Rattle.std.proofs.lemmas.List.{take_all, take_more}
use Rattle.std.proofs.lemmas.List.Elements.{Contains-push_cases}
use Rattle.std.proofs.lemmas.Bool.Decides.{nat_tests}
use Rattle.ring_points.specs.declared.who.Who.{Who}
use Rattle.ring_points.specs.Whos.{same_who}
use Rattle.fabric_terms.specs.Runs.{Clocks, reading_of}
use Rattle.run_audit.specs.Breaches.{is_below}
use Rattle.run_audit.specs.Clocks.{EachIsFirst, comes_after}
use Rattle.run_audit.proofs.Members.{Contains-cases, Contains-empty, Contains-first, Contains-rest}

pub same_who-refl : (w : Who) → same_who w w ≡ true
same_who-refl w = grind (arith, nat_tests)

pub same_who-true : (v w : Who) → same_who v w ≡ true → v ≡ w
same_who-true v w e = λ i. record { actor = actors i; instance = instances i }
  where
    actors : v.actor ≡ w.actor
    actors = grind (arith, nat_tests, e)

    instances : v.instance ≡ w.instance
    instances = grind (arith, nat_tests, e)

pub same_who-below : (v w : Who) → is_below v w ≡ true → same_who v w ≡ false
same_who-below v w h = grind (arith, nat_tests)

-- an instance with a clock has a reading
pub record Reads (w : Who) (clocks : Clocks) : Type 0 where
  pub reading : ℕ
  pub is : reading_of w clocks ≡ Some reading

pub reads : (clocks : Clocks) (w : Who) (r : ℕ) → Contains clocks (w, r) → Reads w clocks
reads [] w r has = Contains-empty (w, r) has
reads (c ∷ cs) w r has = by (same_who c.0 w) refl (reads cs w r)
  where
    by : (t : Bool) → same_who c.0 w ≡ t → (Contains cs (w, r) → Reads w cs) → Reads w (c ∷ cs)
    by true e rest = record { reading = c.1; is = rw e refl }
    by false e rest = elim (Contains-cases c (w, r) cs has) as (λ _. Reads w (c ∷ cs)) [
      | inl h ↦
          let same : c.0 ≡ w = ap (λ (x : Who × ℕ). x.0) h in
          let test : same_who c.0 w ≡ true = subst (λ x. same_who x w ≡ true) (sym same) (same_who-refl w) in
          absurd (cc (e, test))
      | inr k ↦ let again = rest k in record { reading = again.reading; is = rw e again.is }
    ]

-- what is read stands there
pub read_there : (clocks : Clocks) (w : Who) (r : ℕ) → reading_of w clocks ≡ Some r → Contains clocks (w, r)
read_there [] w r e = absurd (cc (e))
read_there (c ∷ cs) w r e = by (same_who c.0 w) refl (read_there cs w r)
  where
    by : (t : Bool) → same_who c.0 w ≡ t → (reading_of w cs ≡ Some r → Contains cs (w, r)) → Contains (c ∷ cs) (w, r)
    by true h rest =
        let found : Some c.1 ≡ Some r = rw h at e in
        let number : c.1 ≡ r = cc (found) in
        let who : c.0 ≡ w = same_who-true c.0 w h in
        subst (λ x. Contains (c ∷ cs) x) (λ i. (who i, number i)) (Contains-first c cs)
    by false h rest = Contains-rest c (w, r) cs (rest (rw h at e))

-- with one clock more behind them

reading-push : (cs : Clocks) (c : Who × ℕ) (w : Who) (r : ℕ) → reading_of w cs ≡ Some r → reading_of w (cs ++ c ∷ []) ≡ Some r
reading-push [] c w r e = absurd (cc (e))
reading-push (d ∷ cs) c w r e = by (same_who d.0 w) refl (reading-push cs c w r)
  where
    by : (t : Bool) → same_who d.0 w ≡ t → (reading_of w cs ≡ Some r → reading_of w (cs ++ c ∷ []) ≡ Some r) → reading_of w ((d ∷ cs) ++ c ∷ []) ≡ Some r
    by true h rest = let found : Some d.1 ≡ Some r = rw h at e in rw h found
    by false h rest = rw h (rest (rw h at e))

reading-last : (cs : Clocks) (c : Who × ℕ) → reading_of c.0 cs ≡ None → reading_of c.0 (cs ++ c ∷ []) ≡ Some c.1
reading-last [] c e = rw (same_who-refl c.0) refl
reading-last (d ∷ cs) c e = by (same_who d.0 c.0) refl (reading-last cs c)
  where
    by : (t : Bool) → same_who d.0 c.0 ≡ t → (reading_of c.0 cs ≡ None → reading_of c.0 (cs ++ c ∷ []) ≡ Some c.1) → reading_of c.0 ((d ∷ cs) ++ c ∷ []) ≡ Some c.1
    by true h rest = let found : Some d.1 ≡ None = rw h at e in absurd (cc (found))
    by false h rest = rw h (rest (rw h at e))

-- the clocks so far rise to the last
pub record RiseTo (cs : Clocks) (last : Option Who) : Type 0 where
  pub firsts : EachIsFirst cs
  pub below : (w : Who) (r : ℕ) → Contains cs (w, r) → (x : Who) → comes_after last x ≡ true → is_below w x ≡ true

pub rise_none : RiseTo [] None
rise_none = record { firsts = λ w r has. Contains-empty (w, r) has; below = λ w r has x after. Contains-empty (w, r) has }

below_chain : (u v w : Who) → is_below u v ≡ true → is_below v w ≡ true → is_below u w ≡ true
below_chain u v w h k = grind (arith, nat_tests)

rise_push : (cs : Clocks) (last : Option Who) (c : Who × ℕ) → RiseTo cs last → comes_after last c.0 ≡ true → RiseTo (cs ++ c ∷ []) (Some c.0)
rise_push cs last c rise after = record { firsts = firsts; below = below }
  where
    new : reading_of c.0 cs ≡ None
    new = by (reading_of c.0 cs) refl
      where
        by : (o : Option ℕ) → reading_of c.0 cs ≡ o → reading_of c.0 cs ≡ None
        by None e = e
        by (Some r) e =
            let lower = rise.below c.0 r (read_there cs c.0 r e) c.0 after in
            let test : same_who c.0 c.0 ≡ false = same_who-below c.0 c.0 lower in
            absurd (cc (test, same_who-refl c.0))

    firsts : EachIsFirst (cs ++ c ∷ [])
    firsts w r has = elim (Contains-push_cases cs c (w, r) has) as (λ _. reading_of w (cs ++ c ∷ []) ≡ Some r) [
      | inl h ↦ reading-push cs c w r (rise.firsts w r h)
      | inr e ↦ subst (λ (x : Who × ℕ). reading_of x.0 (cs ++ c ∷ []) ≡ Some x.1) e (reading-last cs c new)
    ]

    below : (w : Who) (r : ℕ) → Contains (cs ++ c ∷ []) (w, r) → (x : Who) → is_below c.0 x ≡ true → is_below w x ≡ true
    below w r has x above = elim (Contains-push_cases cs c (w, r) has) as (λ _. is_below w x ≡ true) [
      | inl h ↦ below_chain w c.0 x (rise.below w r h c.0 after) above
      | inr e ↦ subst (λ (y : Who × ℕ). is_below y.0 x ≡ true) e above
    ]

pub rise_on : (cs : Clocks) (i : ℕ) (last : Option Who) (c : Who × ℕ) → i < length cs → c ≡ get_or cs i c → RiseTo (take i cs) last → comes_after last c.0 ≡ true → RiseTo (take (i + 1) cs) (Some c.0)
rise_on cs i last c h is rise after =
    let longer : take (i + 1) cs ≡ take i cs ++ c ∷ [] = take_more cs i c h ∙ ap (λ x. take i cs ++ x ∷ []) (sym is) in
    subst (λ l. RiseTo l (Some c.0)) (sym longer) (rise_push (take i cs) last c rise after)

pub rise_all : (cs : Clocks) (i : ℕ) (last : Option Who) → length cs ≤ i → RiseTo (take i cs) last → EachIsFirst cs
rise_all cs i last h rise = subst (λ l. EachIsFirst l) (take_all i cs h) rise.firsts
