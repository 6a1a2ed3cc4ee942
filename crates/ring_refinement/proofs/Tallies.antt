-- What a tally counts is a majority of the machine's answers.
use Rattle.std.proofs.Common.{◌≡◌, ℕ, ◌+◌, ◌*◌, ◌<◌, ◌≤◌, ◌==◌, ◌&&◌, ◌||◌, nat_le, not, Bool, true, false, cond, List, [], ◌∷◌, ◌++◌, length, IsTrue, refl, sym, ap, ◌∙◌, subst, inl, inr, ⊎_elim, arith}
use Rattle.std.specs.Prelude.{count_by}
use Rattle.std.proofs.lemmas.Bool.{eqb-true, leb-true, ltb-true, and_parts, not-true}
use Rattle.std.proofs.lemmas.List.Sums.{sum_by-cons}
use Rattle.ring_points.specs.declared.who.Ruling.{Ruling}
use Rattle.ring_points.specs.declared.who.Ruling.TheVariants.{Granted, Taken, Refused}
use Rattle.ring_points.specs.declared.who.Who.{Who}
use Rattle.fabric_terms.specs.declared.config.FabricConfig.{FabricConfig}
use Rattle.arbiter_quorum.specs.Counted.{are_counted, count_given}
use Rattle.arbiter_quorum.specs.Tallies.{Tally, is_majority, has_answered, noted, is_granted, is_refused, count_of, is_heir, is_discharged, is_lost, verdict_of}
use Rattle.arbiter_quorum.specs.declared.verdict.Verdict.{Verdict}
use Rattle.arbiter_quorum.specs.declared.verdict.Verdict.TheVariants as verdict
use Rattle.arbiter_quorum.proofs.Majorities.{are_counted-push}
use Rattle.fabric_lemmas.specs.Members.{IsMember}
use Rattle.ring_machine.specs.Frames.{Frame, Ruled}
use Rattle.ring_machine.specs.World.{Settings}
use Rattle.ring_machine.specs.Arbitration as machine
use Rattle.ring_machine.specs.Arbitration.{HeirBy, by_grant, AnsweredBy, Answered}
use Rattle.ring_machine.proofs.Counts.{is_in, AreArbiters, is_majority-list}
use Rattle.ring_machine.proofs.Lists.{IsMember-append_cases}
use Rattle.ring_refinement.specs.Images.{machine_of}
use Rattle.ring_refinement.specs.Tables.{SoundTally}

-- the arbitrators whose answers pass
abbrev pub chosen : {A : Type 0} → (A → Bool) → List (ℕ × A) → List ℕ
chosen p [] = []
chosen p (answer ∷ answers) = cond (p answer.1) (answer.0 ∷ chosen p answers) (chosen p answers)

chosen_count : {A : Type 0} (p : A → Bool) (answers : List (ℕ × A)) → length (chosen p answers) ≡ count_by (λ answer. p answer.1) answers
chosen_count p [] = refl
chosen_count {A = A} p (answer ∷ answers) = one (p answer.1) (chosen_count p answers) ∙ sym (sum_by-cons (λ (answer : ℕ × A). cond (p answer.1) 1 0) answer answers)
  where
    one : (b : Bool) → length (chosen p answers) ≡ count_by (λ answer. p answer.1) answers →
        length (cond b (answer.0 ∷ chosen p answers) (chosen p answers)) ≡ cond b 1 0 + count_by (λ answer. p answer.1) answers
    one true e = omega arith
    one false e = omega arith

-- who has not answered is not chosen
not_chosen : {A : Type 0} (p : A → Bool) (a : ℕ) (answers : List (ℕ × A)) → has_answered a answers ≡ false → is_in (chosen p answers) a ≡ false
not_chosen p a [] h = refl
not_chosen p a (answer ∷ answers) h = one (p answer.1) (answer.0 == a) refl h (not_chosen p a answers)
  where
    one : (b d : Bool) → answer.0 == a ≡ d → d || has_answered a answers ≡ false → (has_answered a answers ≡ false → is_in (chosen p answers) a ≡ false) →
        is_in (cond b (answer.0 ∷ chosen p answers) (chosen p answers)) a ≡ false
    one b true e h rest = absurd (cc (h))
    one true false e h rest = subst (λ (d : Bool). d || is_in (chosen p answers) a ≡ false) (sym e) (rest h)
    one false false e h rest = rest h

-- each is an arbitrator, and no two are equal
chosen_arbiters : {A : Type 0} (k : Settings) (p : A → Bool) (answers : List (ℕ × A)) → IsTrue (are_counted k.arbiters answers) → AreArbiters k (chosen p answers)
chosen_arbiters k p [] h = tt
chosen_arbiters k p (answer ∷ answers) h =
    let a = and_parts (nat_le 1 answer.0 && nat_le answer.0 k.arbiters && not (has_answered answer.0 answers)) (are_counted k.arbiters answers) h in
    let b = and_parts (nat_le 1 answer.0 && nat_le answer.0 k.arbiters) (not (has_answered answer.0 answers)) a.0 in
    let d = and_parts (nat_le 1 answer.0) (nat_le answer.0 k.arbiters) b.0 in
    one (p answer.1) (leb-true 1 answer.0 d.0) (leb-true answer.0 k.arbiters d.1)
    (not_chosen p answer.0 answers (not-true (has_answered answer.0 answers) b.1)) (chosen_arbiters k p answers a.1)
  where
    one : (b : Bool) → 0 < answer.0 → answer.0 ≤ k.arbiters → is_in (chosen p answers) answer.0 ≡ false → AreArbiters k (chosen p answers) →
        AreArbiters k (cond b (answer.0 ∷ chosen p answers) (chosen p answers))
    one true from to new rest = (from, to, new, rest)
    one false from to new rest = rest

-- who is chosen gave an answer that passes
pub record Gave {A : Type 0} (p : A → Bool) (a : ℕ) (answers : List (ℕ × A)) : Type 0 where
  pub answer : A
  pub member : IsMember (a, answer) answers
  pub passes : p answer ≡ true

pub chosen_gave : {A : Type 0} (p : A → Bool) (a : ℕ) (answers : List (ℕ × A)) → is_in (chosen p answers) a ≡ true → Gave p a answers
chosen_gave p a [] h = absurd (cc (h))
chosen_gave p a (answer ∷ answers) h = one (p answer.1) refl h (chosen_gave p a answers)
  where
    later : Gave p a answers → Gave p a (answer ∷ answers)
    later e = record { answer = e.answer; member = inr e.member; passes = e.passes }

    here : (d : Bool) → answer.0 == a ≡ d → p answer.1 ≡ true → d || is_in (chosen p answers) a ≡ true → (is_in (chosen p answers) a ≡ true → Gave p a answers) →
        Gave p a (answer ∷ answers)
    here true e passes h rest = record {
      answer = answer.1;
      member = inl (let same : a ≡ answer.0 = sym (eqb-true answer.0 a e) in λ j. (same j, answer.1));
      passes = passes;
    }
    here false e passes h rest = later (rest h)

    one : (b : Bool) → p answer.1 ≡ b → is_in (cond b (answer.0 ∷ chosen p answers) (chosen p answers)) a ≡ true →
        (is_in (chosen p answers) a ≡ true → Gave p a answers) → Gave p a (answer ∷ answers)
    one true passes h rest = here (answer.0 == a) refl passes h rest
    one false passes h rest = later (rest h)

-- a majority of the counted answers is one of the arbitrators
pub chosen_most : {A : Type 0} (k : Settings) (p : A → Bool) (answers : List (ℕ × A)) → IsTrue (are_counted k.arbiters answers) →
    is_majority k.arbiters (count_given p answers) ≡ true → machine.is_majority k (is_in (chosen p answers)) ≡ true
chosen_most k p answers counted h = is_majority-list k (chosen p answers) (chosen_arbiters k p answers counted) enough
  where
    enough : k.arbiters < length (chosen p answers) + length (chosen p answers)
    enough =
        let over : k.arbiters < 2 * count_given p answers = ltb-true k.arbiters (2 * count_given p answers) h in
        let count = chosen_count p answers in
        omega arith

module _ {c : FabricConfig} {x victim : Who} {sent : List Frame} (t : Tally) (s : SoundTally c x victim sent t) where
  -- a majority of the counted answers is one of the arbitrators
  most : (p : Ruling → Bool) → is_majority t.arbitrators (count_of p t) ≡ true → machine.is_majority (machine_of c) (is_in (chosen p t.answers)) ≡ true
  most p h =
      chosen_most (machine_of c) p t.answers (subst (λ (n : ℕ). IsTrue (are_counted n t.answers)) s.arbitrators s.counted)
      (subst (λ (n : ℕ). is_majority n (count_of p t) ≡ true) s.arbitrators h)

  pub granted_by : is_heir t ≡ true → HeirBy (machine_of c) sent x victim
  granted_by h = record {
    round = 1;
    kept = record {
      by = is_in (chosen is_granted t.answers);
      tells = λ a e. let o = chosen_gave is_granted a t.answers e in by_grant refl (go a o.answer o.member o.passes);
      most = most is_granted h;
    };
  }
    where
      go : (a : ℕ) (ruling : Ruling) → IsMember (a, ruling) t.answers → is_granted ruling ≡ true → IsMember (Ruled a x victim Granted) sent
      go a Granted member passes = s.each a Granted member
      go a Taken member passes = absurd (cc (passes))
      go a Refused member passes = absurd (cc (passes))

  -- what a majority granted, a majority answered
  pub heir_answered : is_heir t ≡ true → AnsweredBy (machine_of c) sent x victim
  heir_answered h = record {
    by = is_in (chosen is_granted t.answers);
    answers = λ a e. let o = chosen_gave is_granted a t.answers e in go a o.answer o.member o.passes;
    most = most is_granted h;
  }
    where
      go : (a : ℕ) (ruling : Ruling) → IsMember (a, ruling) t.answers → is_granted ruling ≡ true → Answered sent a x victim
      go a Granted member passes = inl (s.each a Granted member)
      go a Taken member passes = absurd (cc (passes))
      go a Refused member passes = absurd (cc (passes))

  pub answered_by : is_discharged t ≡ true → AnsweredBy (machine_of c) sent x victim
  answered_by h = record {
    by = is_in (chosen (λ r. not (is_refused r)) t.answers);
    answers = λ a e. let o = chosen_gave (λ r. not (is_refused r)) a t.answers e in go a o.answer o.member o.passes;
    most = most (λ r. not (is_refused r)) h;
  }
    where
      go : (a : ℕ) (ruling : Ruling) → IsMember (a, ruling) t.answers → not (is_refused ruling) ≡ true → Answered sent a x victim
      go a Granted member passes = inl (s.each a Granted member)
      go a Taken member passes = inr (s.each a Taken member)
      go a Refused member passes = absurd (cc (passes))

  -- one answer more
  pub tally_noted : (a : ℕ) (ruling : Ruling) → 1 ≤ a → a ≤ length c.arbiters → IsMember (Ruled a x victim ruling) sent → SoundTally c x victim sent (noted t a ruling)
  tally_noted a ruling from to came = one (has_answered a t.answers) refl
    where
      one : (b : Bool) → has_answered a t.answers ≡ b → SoundTally c x victim sent (record t { answers = cond b t.answers (t.answers ++ (a, ruling) ∷ []) })
      one true e = s
      one false e = record {
        arbitrators = s.arbitrators;
        counted = are_counted-push t.arbitrators a ruling t.answers from (let n = s.arbitrators in omega arith) e s.counted;
        each = λ b r m. ⊎_elim (λ h. s.each b r h) (λ h. ⊎_elim (λ i. here b r i) (λ n. absurd n) h) (IsMember-append_cases (b, r) t.answers ((a, ruling) ∷ []) m);
      }
        where
          here : (b : ℕ) (r : Ruling) → ◌≡◌ {A = ℕ × Ruling} (b, r) (a, ruling) → IsMember (Ruled b x victim r) sent
          here b r i =
              let same : b ≡ a = ap (λ (q : ℕ × Ruling). q.0) i in
              let same_ruling : r ≡ ruling = ap (λ (q : ℕ × Ruling). q.1) i in
              subst (λ (r : Ruling). IsMember (Ruled b x victim r) sent) (sym same_ruling) (subst (λ (b : ℕ). IsMember (Ruled b x victim ruling) sent) (sym same) came)

-- on what a verdict rests
abbrev pub RestsOn : Tally → Verdict → Type 0
RestsOn t verdict.Heir = is_heir t ≡ true
RestsOn t verdict.Discharged = is_discharged t ≡ true
RestsOn t _ = Unit {0}

pub verdict_rests : (t : Tally) → RestsOn t (verdict_of t)
verdict_rests t = by_heir (is_heir t) refl
  where
    by_lost : (b : Bool) → RestsOn t (cond b verdict.Lost verdict.Open)
    by_lost true = tt
    by_lost false = tt

    by_discharged : (b : Bool) → is_discharged t ≡ b → RestsOn t (cond b verdict.Discharged (cond (is_lost t) verdict.Lost verdict.Open))
    by_discharged true e = e
    by_discharged false e = by_lost (is_lost t)

    by_heir : (b : Bool) → is_heir t ≡ b → RestsOn t (cond b verdict.Heir (cond (is_discharged t) verdict.Discharged (cond (is_lost t) verdict.Lost verdict.Open)))
    by_heir true e = e
    by_heir false e = by_discharged (is_discharged t) refl
