-- The registers of tables in which a value more is kept.
use Rattle.std.proofs.Common.{◌≡◌, ℕ, Bool, true, false, List, [], ◌∷◌, ◌++◌, refl, sym, ap, ◌∙◌, arith}
use Rattle.std.specs.Prelude.{◌==◌, nat_eq}
use Rattle.std.proofs.lemmas.Bool.Decides.{nat_tests}
use Rattle.indexmap.specs.IndexMap.{insert_entry}
use Rattle.ring_points.specs.declared.unit.Config.{Config}
use Rattle.fabric_lemmas.specs.Maps.{rises}
use Rattle.unit_rules.specs.declared.register.Preparation.{Preparation}
use Rattle.unit_rules.specs.Registers.{Register, Registers, changed}
use Rattle.arbiter_tables.specs.Registers.{with_prepared, with_vote, with_done, put_all, voted_all, registers_of}
use Rattle.arbiter_tables.proofs.Changes.{rises-changed, changed-swap, changed-again}

pub rises-put_all : {X : Type 0} (set : X → Register → Register) (es : List (ℕ × X)) (rs : Registers) → rises rs ≡ true
    → rises (put_all set es rs) ≡ true
rises-put_all set [] rs up = up
rises-put_all set (e ∷ es) rs up = rises-changed e.0 (set e.1) (put_all set es rs) (rises-put_all set es rs up)

pub rises-voted_all : (votes : List Config) (rs : Registers) → rises rs ≡ true → rises (voted_all votes rs) ≡ true
rises-voted_all [] rs up = up
rises-voted_all (vote ∷ votes) rs up =
    rises-voted_all votes (changed vote.partition (with_vote vote) rs) (rises-changed vote.partition (with_vote vote) rs up)

-- a change before others that do not touch it
past_put : {X : Type 0} (set : X → Register → Register) (es : List (ℕ × X)) (p : ℕ) (f : Register → Register) (rs : Registers) → rises rs ≡ true
    → ((x : X) (r : Register) → set x (f r) ≡ f (set x r)) → put_all set es (changed p f rs) ≡ changed p f (put_all set es rs)
past_put set [] p f rs up apart = refl
past_put set (e ∷ es) p f rs up apart =
    ap (λ s. changed e.0 (set e.1) s) (past_put set es p f rs up apart)
    ∙ changed-swap e.0 p (set e.1) f (put_all set es rs) (rises-put_all set es rs up) (λ same r. apart e.1 r)

past_votes : (votes : List Config) (p : ℕ) (f : Register → Register) (rs : Registers) → rises rs ≡ true
    → ((vote : Config) (r : Register) → with_vote vote (f r) ≡ f (with_vote vote r)) → voted_all votes (changed p f rs) ≡ changed p f (voted_all votes rs)
past_votes [] p f rs up apart = refl
past_votes (vote ∷ votes) p f rs up apart =
    ap (λ s. voted_all votes s) (changed-swap vote.partition p (with_vote vote) f rs up (λ same r. apart vote r))
    ∙ past_votes votes p f (changed vote.partition (with_vote vote) rs) (rises-changed vote.partition (with_vote vote) rs up) apart

-- a value that is inserted is the last that is set
put-inserted : {X : Type 0} (set : X → Register → Register) (es : List (ℕ × X)) (p : ℕ) (x : X) (rs : Registers) → rises rs ≡ true
    → ((x y : X) (r : Register) → set x (set y r) ≡ set x r)
    → put_all set (insert_entry nat_eq es p x) rs ≡ changed p (set x) (put_all set es rs)
put-inserted set [] p x rs up covers = refl
put-inserted {X = X} set (e ∷ es) p x rs up covers = by (p == e.0) refl (put-inserted set es p x rs up covers)
  where
    before : Registers
    before = put_all set es rs

    by : (b : Bool) → (p == e.0) ≡ b → put_all set (insert_entry nat_eq es p x) rs ≡ changed p (set x) (put_all set es rs)
        → put_all set (insert_entry nat_eq (e ∷ es) p x) rs ≡ changed p (set x) (put_all set (e ∷ es) rs)
    by true same rest =
        let there : e.0 ≡ p = grind (arith, nat_tests, same) in
        rw same (sym (changed-again e.0 (set x) (set e.1) before (rises-put_all set es rs up) (covers x e.1))
        ∙ ap (λ k. changed k (set x) (changed e.0 (set e.1) before)) there)
    by false other rest =
        rw other (ap (λ s. changed e.0 (set e.1) s) rest
        ∙ changed-swap e.0 p (set e.1) (set x) before (rises-put_all set es rs up)
        (λ same r. let here : (p == e.0) ≡ true = grind (arith, nat_tests, same) in absurd (cc)))

rises-done : (prepared : List (ℕ × Preparation)) (done : List (ℕ × Config)) → rises (put_all with_done done (put_all with_prepared prepared [])) ≡ true
rises-done prepared done = rises-put_all with_done done (put_all with_prepared prepared []) (rises-put_all with_prepared prepared [] refl)

pub rises_always : (prepared : List (ℕ × Preparation)) (votes : List Config) (done : List (ℕ × Config)) → rises (registers_of prepared votes done) ≡ true
rises_always prepared votes done =
    rises-voted_all votes (put_all with_done done (put_all with_prepared prepared [])) (rises-done prepared done)

pub prepared_inserted : (prepared : List (ℕ × Preparation)) (votes : List Config) (done : List (ℕ × Config)) (p : ℕ) (x : Preparation)
    → registers_of (insert_entry nat_eq prepared p x) votes done ≡ changed p (with_prepared x) (registers_of prepared votes done)
prepared_inserted prepared votes done p x =
    ap (λ s. voted_all votes (put_all with_done done s)) (put-inserted with_prepared prepared p x [] refl (λ x y r. refl))
    ∙ ap (λ s. voted_all votes s)
    (past_put with_done done p (with_prepared x) (put_all with_prepared prepared []) (rises-put_all with_prepared prepared [] refl) (λ c r. refl))
    ∙ past_votes votes p (with_prepared x) (put_all with_done done (put_all with_prepared prepared [])) (rises-done prepared done) (λ c r. refl)

pub done_inserted : (prepared : List (ℕ × Preparation)) (votes : List Config) (done : List (ℕ × Config)) (p : ℕ) (x : Config)
    → registers_of prepared votes (insert_entry nat_eq done p x) ≡ changed p (with_done x) (registers_of prepared votes done)
done_inserted prepared votes done p x =
    ap (λ s. voted_all votes s)
    (put-inserted with_done done p x (put_all with_prepared prepared []) (rises-put_all with_prepared prepared [] refl) (λ x y r. refl))
    ∙ past_votes votes p (with_done x) (put_all with_done done (put_all with_prepared prepared [])) (rises-done prepared done) (λ c r. refl)

voted_last : (votes : List Config) (vote : Config) (rs : Registers)
    → voted_all (votes ++ vote ∷ []) rs ≡ changed vote.partition (with_vote vote) (voted_all votes rs)
voted_last [] vote rs = refl
voted_last (v ∷ votes) vote rs = voted_last votes vote (changed v.partition (with_vote v) rs)

pub vote_added : (prepared : List (ℕ × Preparation)) (votes : List Config) (done : List (ℕ × Config)) (vote : Config)
    → registers_of prepared (votes ++ vote ∷ []) done ≡ changed vote.partition (with_vote vote) (registers_of prepared votes done)
vote_added prepared votes done vote = voted_last votes vote (put_all with_done done (put_all with_prepared prepared []))

pub ruleset as_changes = (prepared_inserted, done_inserted, vote_added)
