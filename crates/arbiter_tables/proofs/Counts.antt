-- How many entries registers have, after a change and of tables.
use Rattle.std.proofs.Common.{◌≡◌, ℕ, ◌+◌, Bool, true, false, List, [], ◌∷◌, length, Option, Some, None, refl, ap, ◌∙◌, arith, length-append}
use Rattle.std.specs.Prelude.{◌==◌, nat_eq, nat_lt, nat_le}
use Rattle.std.specs.List.{IsDistinct, AllByRecursion}
use Rattle.std.specs.Map.{lookup, keys_of}
use Rattle.std.proofs.lemmas.Bool.{and_parts}
use Rattle.std.proofs.lemmas.Bool.Decides.{nat_tests}
use Rattle.std.proofs.lemmas.List.Sums.{sum_by-cons}
use Rattle.std.proofs.lemmas.Map.Keys.{IsDistinct-head, IsDistinct-tail}
use Rattle.ring_points.specs.declared.unit.Config.{Config}
use Rattle.fabric_lemmas.specs.Maps.{at, put, put_here, rises_from, rises}
use Rattle.fabric_lemmas.proofs.SameMaps.{at-below}
use Rattle.unit_rules.specs.declared.register.Preparation.{Preparation}
use Rattle.unit_rules.specs.Registers.{Register, Registers, empty_register, register_of, changed}
use Rattle.arbiter_tables.specs.Registers.{with_prepared, with_vote, with_done, put_all, voted_all, registers_of, one_of, entries_in, registered}
use Rattle.arbiter_tables.proofs.Changes.{rises-changed}
use Rattle.arbiter_tables.proofs.LookUps.{put-found, put-left}
use Rattle.arbiter_tables.proofs.Views.{rises-put_all, rises_always}

abbrev weigh : ℕ × Register → ℕ
weigh e = entries_in e.1

-- in place of the entries that stood at the partition
pub registered-put : (low p : ℕ) (x : Register) (rs : Registers) → rises_from low rs ≡ true
    → registered (put p x rs) + entries_in (register_of p rs) ≡ registered rs + entries_in x
registered-put low p x [] up = omega (arith, sum_by-cons weigh (p, x) [])
registered-put low p x (e ∷ es) up = by (nat_lt p e.0) refl (p == e.0) refl (registered-put (e.0 + 1) p x es parts.1)
  where
    parts : (nat_le low e.0 ≡ true) × (rises_from (e.0 + 1) es ≡ true)
    parts = and_parts (nat_le low e.0) (rises_from (e.0 + 1) es) up

    by : (lt : Bool) → nat_lt p e.0 ≡ lt → (same : Bool) → (p == e.0) ≡ same
        → registered (put p x es) + entries_in (register_of p es) ≡ registered es + entries_in x
        → registered (put_here p x e es (put p x es) lt same) + entries_in (register_of p (e ∷ es)) ≡ registered (e ∷ es) + entries_in x
    by true f same g rest =
        let other : (e.0 == p) ≡ false = grind (arith, nat_tests, f) in
        let none : at p es ≡ None = at-below (e.0 + 1) es p (grind (arith, nat_tests, f)) parts.1 in
        let empty : register_of p (e ∷ es) ≡ empty_register = rw (other, none) refl in
        omega (arith, ap entries_in empty, sum_by-cons weigh (p, x) (e ∷ es))
    by false f true g rest =
        let here : (e.0 == p) ≡ true = grind (arith, nat_tests, g) in
        let there : register_of p (e ∷ es) ≡ e.1 = rw here refl in
        omega (arith, ap entries_in there, sum_by-cons weigh (p, x) es, sum_by-cons weigh e es)
    by false f false g rest =
        let other : (e.0 == p) ≡ false = grind (arith, nat_tests, g) in
        let there : register_of p (e ∷ es) ≡ register_of p es = rw other refl in
        omega (arith, rest, ap entries_in there, sum_by-cons weigh e (put p x es), sum_by-cons weigh e es)

-- After a change of each kind.

pub prepared_counted : (p : ℕ) (x : Preparation) (rs : Registers) → rises rs ≡ true
    → registered (changed p (with_prepared x) rs) + one_of (register_of p rs).prepared ≡ registered rs + 1
prepared_counted p x rs up = omega (arith, registered-put 0 p (with_prepared x (register_of p rs)) rs up)

pub done_counted : (p : ℕ) (x : Config) (rs : Registers) → rises rs ≡ true
    → registered (changed p (with_done x) rs) + one_of (register_of p rs).done ≡ registered rs + 1
done_counted p x rs up = omega (arith, registered-put 0 p (with_done x (register_of p rs)) rs up)

pub vote_counted : (vote : Config) (rs : Registers) → rises rs ≡ true → registered (changed vote.partition (with_vote vote) rs) ≡ registered rs + 1
vote_counted vote rs up =
    omega (arith, registered-put 0 vote.partition (with_vote vote (register_of vote.partition rs)) rs up, length-append (register_of vote.partition rs).votes (vote ∷ []))

-- Of tables.

lookup-absent : {X : Type 0} (es : List (ℕ × X)) (k : ℕ) → AllByRecursion (λ y. nat_eq k y ≡ false) (keys_of es) → lookup (nat_eq k) es ≡ None
lookup-absent [] k none = refl
lookup-absent (e ∷ es) k none = rw none.0 (lookup-absent es k none.1)

put-counted : {X : Type 0} (get : Register → Option X) (set : X → Register → Register) (es : List (ℕ × X)) (rs : Registers) → rises rs ≡ true
    → IsDistinct nat_eq (keys_of es) → ((x : X) (r : Register) → get (set x r) ≡ Some x)
    → ((x : X) (r : Register) → get r ≡ None → entries_in (set x r) ≡ entries_in r + 1) → ((q : ℕ) → get (register_of q rs) ≡ None)
    → registered (put_all set es rs) ≡ registered rs + length es
put-counted get set [] rs up once sets more none = omega arith
put-counted get set (e ∷ es) rs up once sets more none =
    let before : Registers = put_all set es rs in
    let absent = lookup-absent es e.0 (IsDistinct-head nat_eq e.0 (keys_of es) once) in
    let free : get (register_of e.0 before) ≡ None = put-found get set es rs e.0 sets (none e.0) ∙ absent in
    omega (
      arith,
      registered-put 0 e.0 (set e.1 (register_of e.0 before)) before (rises-put_all set es rs up),
      more e.1 (register_of e.0 before) free,
      put-counted get set es rs up (IsDistinct-tail nat_eq e.0 (keys_of es) once) sets more none,
    )

voted-counted : (votes : List Config) (rs : Registers) → rises rs ≡ true → registered (voted_all votes rs) ≡ registered rs + length votes
voted-counted [] rs up = omega arith
voted-counted (vote ∷ votes) rs up =
    omega (
      arith,
      vote_counted vote rs up,
      voted-counted votes (changed vote.partition (with_vote vote) rs) (rises-changed vote.partition (with_vote vote) rs up),
    )

prepared-more : (x : Preparation) (r : Register) → r.prepared ≡ None → entries_in (with_prepared x r) ≡ entries_in r + 1
prepared-more x r none = omega (arith, ap (λ (o : Option Preparation). one_of o) none)

done-more : (x : Config) (r : Register) → r.done ≡ None → entries_in (with_done x r) ≡ entries_in r + 1
done-more x r none = omega (arith, ap (λ (o : Option Config). one_of o) none)

pub registers_counted : (prepared : List (ℕ × Preparation)) (votes : List Config) (done : List (ℕ × Config))
    → IsDistinct nat_eq (keys_of prepared) → IsDistinct nat_eq (keys_of done)
    → registered (registers_of prepared votes done) ≡ length prepared + length votes + length done
registers_counted prepared votes done once once' =
    let first : Registers = put_all with_prepared prepared [] in
    let up = rises-put_all with_prepared prepared [] refl in
    let none : (q : ℕ) → (register_of q first).done ≡ None = λ q. put-left (λ r. r.done) with_prepared prepared [] q (λ x r. refl) in
    omega (
      arith,
      put-counted (λ r. r.prepared) with_prepared prepared [] refl once (λ x r. refl) prepared-more (λ q. refl),
      put-counted (λ r. r.done) with_done done first up once' (λ x r. refl) done-more none,
      voted-counted votes (put_all with_done done first) (rises-put_all with_done done first up),
    )

-- Of tables after a change.

pub prepared_now : (prepared : List (ℕ × Preparation)) (votes : List Config) (done : List (ℕ × Config)) (p : ℕ) (x : Preparation)
    → registered (changed p (with_prepared x) (registers_of prepared votes done)) + one_of (register_of p (registers_of prepared votes done)).prepared
    ≡ registered (registers_of prepared votes done) + 1
prepared_now prepared votes done p x = prepared_counted p x (registers_of prepared votes done) (rises_always prepared votes done)

pub vote_now : (prepared : List (ℕ × Preparation)) (votes : List Config) (done : List (ℕ × Config)) (vote : Config)
    → registered (changed vote.partition (with_vote vote) (registers_of prepared votes done)) ≡ registered (registers_of prepared votes done) + 1
vote_now prepared votes done vote = vote_counted vote (registers_of prepared votes done) (rises_always prepared votes done)

pub done_now : (prepared : List (ℕ × Preparation)) (votes : List Config) (done : List (ℕ × Config)) (p : ℕ) (x : Config)
    → registered (changed p (with_done x) (registers_of prepared votes done)) + one_of (register_of p (registers_of prepared votes done)).done
    ≡ registered (registers_of prepared votes done) + 1
done_now prepared votes done p x = done_counted p x (registers_of prepared votes done) (rises_always prepared votes done)

pub ruleset as_counts = (prepared_now, vote_now, done_now)
