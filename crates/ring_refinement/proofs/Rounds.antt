-- What a tally of a round amounts to, by the machine: a majority that keeps x, or a round that is split.
use Rattle.std.proofs.Common.{◌≡◌, ◌∙◌, ℕ, zero, suc, ◌+◌, ◌-◌, ◌*◌, ◌<◌, ◌≤◌, ◌==◌, ◌&&◌, ◌||◌, nat_le, not, Bool, true, false, cond, List, [], ◌∷◌, ◌++◌, length, IsTrue, Option, Some, None, refl, sym, ap, subst, inl, inr, ⊎_elim, arith}
use Rattle.std.specs.List.{list_any}
use Rattle.std.proofs.lemmas.Bool.{eqb-true, eqb-false, eq-eqb, leb-true, ltb-true, ltb-false, and_parts, not-true, cases_order}
use Rattle.std.proofs.lemmas.List.Sums.{sum_by-cons}
use Rattle.ring_points.specs.declared.who.Who.{Who}
use Rattle.ring_points.specs.Whos.{same_who}
use Rattle.fabric_terms.specs.declared.config.FabricConfig.{FabricConfig}
use Rattle.arbiter_quorum.specs.Counted.{are_counted, count_given}
use Rattle.arbiter_quorum.specs.Tallies.{is_majority, has_answered}
use Rattle.arbiter_quorum.proofs.Majorities.{are_counted-push, few_counted}
use Rattle.heir_rounds.specs.Rounds.{RoundTally, kept_count, unanswered, has_majority, may_win, is_won, one_may_win, after_split, round_verdict_of, round_counted, gone_on}
use Rattle.heir_rounds.specs.declared.verdict.RoundVerdict.{RoundVerdict}
use Rattle.heir_rounds.specs.declared.verdict.RoundVerdict.TheVariants as verdict
use Rattle.fabric_lemmas.specs.Members.{IsMember}
use Rattle.ring_machine.specs.Frames.{Frame, Kept}
use Rattle.ring_machine.specs.Arbitration as machine
use Rattle.ring_machine.specs.Arbitration.{by_kept, HeirBy, may_keep, IsSplit, IsOpen, count_to}
use Rattle.ring_machine.proofs.Counts.{is_in, count_to-same, count_to-more}
use Rattle.ring_machine.proofs.Lists.{IsMember-append_cases}
use Rattle.ring_points.proofs.Whos.{same_who-true}
use Rattle.ring_machine.proofs.Whos.{test}
use Rattle.ring_refinement.specs.Images.{machine_of}
use Rattle.ring_refinement.specs.Tables.{SoundRounds}
use Rattle.ring_refinement.proofs.Tallies.{chosen, chosen_gave, chosen_most}

-- whom an arbitrator keeps, if it answered
abbrev told_by : List (ℕ × Who) → ℕ → Option Who
told_by [] a = None
told_by (answer ∷ answers) a = cond (answer.0 == a) (Some answer.1) (told_by answers a)

told_member : (answers : List (ℕ × Who)) (a : ℕ) (z : Who) → told_by answers a ≡ Some z → IsMember (a, z) answers
told_member [] a z h = absurd (cc (h))
told_member (answer ∷ answers) a z h = go (answer.0 == a) refl h (told_member answers a z)
  where
    go : (b : Bool) → answer.0 == a ≡ b → cond b (Some answer.1) (told_by answers a) ≡ Some z → (told_by answers a ≡ Some z → IsMember (a, z) answers) →
        IsMember (a, z) (answer ∷ answers)
    go true e k rest =
        let same : a ≡ answer.0 = sym (eqb-true answer.0 a e) in
        let kept : z ≡ answer.1 = cc in inl (λ j. (same j, kept j))
    go false e k rest = inr (rest k)

-- who has not answered told nothing
not_told : (answers : List (ℕ × Who)) (a : ℕ) → has_answered a answers ≡ false → told_by answers a ≡ None
not_told [] a h = refl
not_told (answer ∷ answers) a h = go (answer.0 == a) refl h (not_told answers a)
  where
    go : (b : Bool) → answer.0 == a ≡ b → b || has_answered a answers ≡ false → (has_answered a answers ≡ false → told_by answers a ≡ None) →
        cond b (Some answer.1) (told_by answers a) ≡ None
    go true e k rest = absurd (cc (k))
    go false e k rest = rest k

count_given-cons : (z : Who) (answer : ℕ × Who) (answers : List (ℕ × Who)) →
    count_given (λ kept. same_who kept z) (answer ∷ answers) ≡ cond (same_who answer.1 z) 1 0 + count_given (λ kept. same_who kept z) answers
count_given-cons z answer answers = sum_by-cons (λ (answer : ℕ × Who). cond (same_who answer.1 z) 1 0) answer answers

-- all n count
count_all : (n : ℕ) → count_to (λ a. true) n ≡ n
count_all zero = refl
count_all (suc n) = ap suc (count_all n)

-- those that may keep z are those that do and those that have not answered
may_count : (n : ℕ) (z : Who) (answers : List (ℕ × Who)) → IsTrue (are_counted n answers) →
    count_to (λ a. may_keep z (told_by answers a)) n ≡ count_given (λ kept. same_who kept z) answers + (n - length answers)
may_count n z [] h =
    let all : count_to (λ a. may_keep z (told_by [] a)) n ≡ n = count_all n in
    let none : count_given (λ kept. same_who kept z) [] ≡ 0 = refl in
    let long : length {A = ℕ × Who} [] ≡ 0 = refl in
    omega arith
may_count n z (answer ∷ answers) h =
    let a = and_parts (nat_le 1 answer.0 && nat_le answer.0 n && not (has_answered answer.0 answers)) (are_counted n answers) h in
    let b = and_parts (nat_le 1 answer.0 && nat_le answer.0 n) (not (has_answered answer.0 answers)) a.0 in
    let d = and_parts (nat_le 1 answer.0) (nat_le answer.0 n) b.0 in
    let few = few_counted n (answer ∷ answers) h in
    one (leb-true 1 answer.0 d.0) (leb-true answer.0 n d.1) (not-true (has_answered answer.0 answers) b.1) (few_all few) (may_count n z answers a.1)
    (same_who answer.1 z) refl
  where
    now : ℕ → Bool
    now a = may_keep z (told_by (answer ∷ answers) a)

    before : ℕ → Bool
    before a = may_keep z (told_by answers a)

    few_all : length (answer ∷ answers) ≤ n → suc (length answers) ≤ n
    few_all h = h

    -- at its own arbitrator, and elsewhere
    cases : (P : ℕ → Bool → Type 0) → ((a : ℕ) → answer.0 ≡ a → P a (same_who answer.1 z)) → ((a : ℕ) → (answer.0 ≡ a → ⊥) → P a (before a)) →
        (a : ℕ) → P a (now a)
    cases P here there a = go (answer.0 == a) refl
      where
        go : (q : Bool) → answer.0 == a ≡ q → P a (may_keep z (cond q (Some answer.1) (told_by answers a)))
        go true e = here a (eqb-true answer.0 a e)
        go false e = there a (eqb-false answer.0 a e)

    one : 0 < answer.0 → answer.0 ≤ n → has_answered answer.0 answers ≡ false → suc (length answers) ≤ n →
        count_to before n ≡ count_given (λ kept. same_who kept z) answers + (n - length answers) → (q : Bool) → same_who answer.1 z ≡ q →
        count_to now n ≡ count_given (λ kept. same_who kept z) (answer ∷ answers) + (n - length (answer ∷ answers))
    one from to new few rest true e =
        let was : before answer.0 ≡ true = ap (may_keep z) (not_told answers answer.0 new) in
        let alike : (a : ℕ) → now a ≡ before a =
        cases (λ a d. d ≡ before a) (λ a i. e ∙ (sym was ∙ ap before i)) (λ a i. refl) in
        let same = count_to-same now before n (λ a le. alike a) in
        let given = count_given-cons z answer answers in
        let here : ◌≡◌ {A = ℕ} (cond (same_who answer.1 z) 1 0) 1 = ap (λ (b : Bool). cond {A = ℕ} b 1 0) e in
        omega arith
    one from to new few rest false e =
        let was : before answer.0 ≡ true = ap (may_keep z) (not_told answers answer.0 new) in
        let is : now answer.0 ≡ false = cases (λ a d. answer.0 ≡ a → d ≡ false) (λ a i j. e) (λ a i j. absurd (i j)) answer.0 refl in
        let alike : (a : ℕ) → before a ≡ (answer.0 == a || now a) =
        cases (λ a d. before a ≡ (answer.0 == a || d)) (λ a i. ap before (sym i) ∙ (was ∙ sym (ap (λ (b : Bool). b || same_who answer.1 z) (eq-eqb answer.0 a i))))
        (λ a i. sym (ap (λ (b : Bool). b || before a) (differs a i))) in
        let same = count_to-same before (λ a. answer.0 == a || now a) n (λ a le. alike a) in
        let more = count_to-more now answer.0 n from to is in
        let given = count_given-cons z answer answers in
        let here : ◌≡◌ {A = ℕ} (cond (same_who answer.1 z) 1 0) 0 = ap (λ (b : Bool). cond {A = ℕ} b 1 0) e in
        omega arith
      where
        differs : (a : ℕ) → (answer.0 ≡ a → ⊥) → answer.0 == a ≡ false
        differs a i = test (answer.0 == a) (λ k. absurd (i (eqb-true answer.0 a k))) (λ k. k)

-- one whom nobody keeps is kept by none
none_given : (z : Who) (answers : List (ℕ × Who)) → list_any (λ answer. same_who answer.1 z) answers ≡ false →
    count_given (λ kept. same_who kept z) answers ≡ 0
none_given z [] h = refl
none_given z (answer ∷ answers) h = go (same_who answer.1 z) refl h (none_given z answers)
  where
    go : (q : Bool) → same_who answer.1 z ≡ q → q || list_any (λ answer. same_who answer.1 z) answers ≡ false →
        (list_any (λ answer. same_who answer.1 z) answers ≡ false → count_given (λ kept. same_who kept z) answers ≡ 0) →
        count_given (λ kept. same_who kept z) (answer ∷ answers) ≡ 0
    go true e k rest = absurd (cc (k))
    go false e k rest =
        let given = count_given-cons z answer answers in
        let here : ◌≡◌ {A = ℕ} (cond (same_who answer.1 z) 1 0) 0 = ap (λ (b : Bool). cond {A = ℕ} b 1 0) e in
        let none = rest k in omega arith

-- a test that fails on all fails on one that somebody keeps
fails_on : (p : Who → Bool) (z : Who) (answers : List (ℕ × Who)) → list_any (λ answer. p answer.1) answers ≡ false →
    list_any (λ answer. same_who answer.1 z) answers ≡ true → p z ≡ false
fails_on p z [] h k = absurd (cc (k))
fails_on p z (answer ∷ answers) h k = go (same_who answer.1 z) refl (p answer.1) refl h k (fails_on p z answers)
  where
    go : (q : Bool) → same_who answer.1 z ≡ q → (r : Bool) → p answer.1 ≡ r → r || list_any (λ answer. p answer.1) answers ≡ false →
        q || list_any (λ answer. same_who answer.1 z) answers ≡ true →
        (list_any (λ answer. p answer.1) answers ≡ false → list_any (λ answer. same_who answer.1 z) answers ≡ true → p z ≡ false) → p z ≡ false
    go q e true i h k rest = absurd (cc (h))
    go true e false i h k rest = ap p (sym (same_who-true answer.1 z e)) ∙ i
    go false e false i h k rest = rest h k

or_fails : (a b : Bool) → a || b ≡ false → (a ≡ false) × (b ≡ false)
or_fails true b h = absurd (cc (h))
or_fails false b h = (refl, h)

-- what nobody can win, z can't
nobody_wins : (t : RoundTally) → one_may_win t ≡ false → (z : Who) → may_win t z ≡ false
nobody_wins t h z =
    let both = or_fails (is_majority t.arbitrators (unanswered t)) (list_any (λ answer. may_win t answer.1) t.answers) h in
    test (list_any (λ answer. same_who answer.1 z) t.answers) (λ k. fails_on (may_win t) z t.answers both.1 k)
    (λ k.
    let none = none_given z t.answers k in
    let left : kept_count t z + unanswered t ≡ unanswered t = omega arith in ap (λ (m : ℕ). is_majority t.arbitrators m) left ∙ both.0)

-- on what a verdict of a round rests
abbrev pub RoundRestsOn : RoundTally → RoundVerdict → Type 0
RoundRestsOn t verdict.Won = has_majority t t.me ≡ true
RoundRestsOn t (verdict.Next r) = (r ≡ t.round + 1) × (one_may_win t ≡ false)
RoundRestsOn t _ = Unit {0}

pub round_rests : (t : RoundTally) → RoundRestsOn t (round_verdict_of t)
round_rests t = by_me (has_majority t t.me) refl
  where
    by_limit : (b : Bool) → one_may_win t ≡ false → RoundRestsOn t (cond b verdict.Over (verdict.Next (t.round + 1)))
    by_limit true e = tt
    by_limit false e = (refl, e)

    by_open : (b : Bool) → one_may_win t ≡ b → RoundRestsOn t (cond b verdict.Open (after_split t))
    by_open true e = tt
    by_open false e = by_limit (nat_le t.limit t.round) e

    by_won : (b : Bool) → RoundRestsOn t (cond b verdict.Over (cond (one_may_win t) verdict.Open (after_split t)))
    by_won true = tt
    by_won false = by_open (one_may_win t) refl

    by_me : (b : Bool) → has_majority t t.me ≡ b →
        RoundRestsOn t (cond b verdict.Won (cond (is_won t) verdict.Over (cond (one_may_win t) verdict.Open (after_split t))))
    by_me true e = e
    by_me false e = by_won (is_won t)

module _ {c : FabricConfig} {x victim : Who} {sent : List Frame} (t : RoundTally) (s : SoundRounds c x victim sent t) where
  -- a majority keeps x
  pub heir_by_round : has_majority t t.me ≡ true → HeirBy (machine_of c) sent x victim
  heir_by_round h = record {
    round = t.round;
    kept = record {
      by = is_in (chosen (λ kept. same_who kept x) t.answers);
      tells = λ a e. let o = chosen_gave (λ kept. same_who kept x) a t.answers e in by_kept (go a o.answer o.member o.passes);
      most = chosen_most (machine_of c) (λ kept. same_who kept x) t.answers s.counted most;
    };
  }
    where
      most : is_majority (length c.arbiters) (count_given (λ kept. same_who kept x) t.answers) ≡ true
      most = subst (λ (y : Who). is_majority (length c.arbiters) (count_given (λ kept. same_who kept y) t.answers) ≡ true) s.me
          (subst (λ (n : ℕ). is_majority n (count_given (λ kept. same_who kept t.me) t.answers) ≡ true) s.arbitrators h)

      go : (a : ℕ) (z : Who) → IsMember (a, z) t.answers → same_who z x ≡ true → IsMember (Kept a victim t.round x) sent
      go a z member passes = subst (λ (y : Who). IsMember (Kept a victim t.round y) sent) (same_who-true z x passes) (s.each a z member)

  -- nobody can have a majority of the round
  pub round_split : one_may_win t ≡ false → IsSplit (machine_of c) sent victim t.round
  round_split h = record {
    told = told_by t.answers;
    tells = λ a z e. by_kept (s.each a z (told_member t.answers a z e));
    none = λ z. no_majority z (may_count (length c.arbiters) z t.answers s.counted) (nobody_wins t h z);
  }
    where
      no_majority : (z : Who) → count_to (λ a. may_keep z (told_by t.answers a)) (length c.arbiters) ≡
          count_given (λ kept. same_who kept z) t.answers + (length c.arbiters - length t.answers) → may_win t z ≡ false →
          machine.is_majority (machine_of c) (λ a. may_keep z (told_by t.answers a)) ≡ false
      no_majority z count fails =
          let k = count_to (λ a. may_keep z (told_by t.answers a)) (length c.arbiters) in
          test (machine.is_majority (machine_of c) (λ a. may_keep z (told_by t.answers a)))
          (λ e.
          absurd
          (let over : length c.arbiters < k + k = ltb-true (length c.arbiters) (k + k) e in
          let few = ltb-false t.arbitrators (2 * (kept_count t z + unanswered t)) fails in
          let n = s.arbitrators in omega arith))
          (λ e. e)

  -- the next round may be claimed, and has no answers
  pub round_gone_on : (u : RoundVerdict) → RoundRestsOn t u → SoundRounds c x victim sent (gone_on t u)
  round_gone_on verdict.Won rests = s
  round_gone_on verdict.Over rests = s
  round_gone_on verdict.Open rests = s
  round_gone_on (verdict.Next r) rests = record {
    me = s.me;
    arbitrators = s.arbitrators;
    counted = refl;
    each = λ a z n. absurd n;
    is_open = subst (λ (n : ℕ). IsOpen (machine_of c) sent victim n) (sym rests.0) (record {
      counted = omega arith;
      before = λ q pos lt.
          ⊎_elim (λ (e : q ≡ t.round). subst (λ (n : ℕ). IsSplit (machine_of c) sent victim n) (sym e) (round_split rests.1))
          (λ o. ⊎_elim (λ le. s.is_open.before q pos le) (λ gt. absurd (omega arith)) o) (cases_order q t.round);
    });
  }

  -- an answer more
  pub round_heard : (round a : ℕ) (z : Who) → 1 ≤ a → a ≤ length c.arbiters → IsMember (Kept a victim round z) sent →
      SoundRounds c x victim sent (round_counted t round a z)
  round_heard round a z from to came = one (round == t.round) refl
    where
      two : (b : Bool) → has_answered a t.answers ≡ b → round ≡ t.round →
          SoundRounds c x victim sent (record t { answers = cond b t.answers (t.answers ++ (a, z) ∷ []) })
      two true e same = s
      two false e same = record {
        me = s.me;
        arbitrators = s.arbitrators;
        counted = are_counted-push (length c.arbiters) a z t.answers from to e s.counted;
        each = λ b y m. ⊎_elim (λ h. s.each b y h) (λ h. ⊎_elim (λ i. here b y i) (λ n. absurd n) h) (IsMember-append_cases (b, y) t.answers ((a, z) ∷ []) m);
        is_open = s.is_open;
      }
        where
          here : (b : ℕ) (y : Who) → ◌≡◌ {A = ℕ × Who} (b, y) (a, z) → IsMember (Kept b victim t.round y) sent
          here b y i =
              let same_a : a ≡ b = sym (ap (λ (q : ℕ × Who). q.0) i) in
              let same_z : z ≡ y = sym (ap (λ (q : ℕ × Who). q.1) i) in
              subst (λ (q : ℕ × ℕ × Who). IsMember (Kept q.0 victim q.1 q.2) sent) (λ j. (same_a j, same j, same_z j)) came

      one : (b : Bool) → round == t.round ≡ b →
          SoundRounds c x victim sent (cond b (record t { answers = cond (has_answered a t.answers) t.answers (t.answers ++ (a, z) ∷ []) }) t)
      one true e = two (has_answered a t.answers) refl (eqb-true round t.round e)
      one false e = s
