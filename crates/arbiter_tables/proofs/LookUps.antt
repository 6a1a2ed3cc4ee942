-- What stands in the registers of tables.
use Rattle.std.proofs.Common.{◌≡◌, ℕ, Bool, true, false, cond, List, [], ◌∷◌, ◌++◌, Option, Some, None, refl, ap, ◌∙◌, arith}
use Rattle.std.specs.Prelude.{◌==◌, ◌&&◌, nat_eq}
use Rattle.std.proofs.lemmas.Bool.Decides.{nat_tests}
use Rattle.std.specs.Map.{lookup}
use Rattle.ring_points.specs.declared.unit.Config.{Config}
use Rattle.ring_points.specs.declared.unit.Epoch.{Epoch}
use Rattle.ring_points.specs.Epochs.{same_epoch}
use Rattle.unit_rules.specs.declared.register.Preparation.{Preparation}
use Rattle.unit_rules.specs.Registers.{Register, Registers, register_of, changed, vote_in}
use Rattle.arbiter_tables.specs.Ballots.{first_vote}
use Rattle.arbiter_tables.specs.Registers.{with_prepared, with_vote, with_done, put_all, voted_all, registers_of}
use Rattle.arbiter_tables.proofs.Changes.{register_of-changed}

-- A part of a register that a change sets or leaves.

changed-left : {Y : Type 0} (get : Register → Y) (p : ℕ) (f : Register → Register) (rs : Registers) (q : ℕ) → ((r : Register) → get (f r) ≡ get r)
    → get (register_of q (changed p f rs)) ≡ get (register_of q rs)
changed-left {Y = Y} get p f rs q leaves = ap get (register_of-changed p f rs q) ∙ by (p == q) refl
  where
    by : (b : Bool) → (p == q) ≡ b → get (cond b (f (register_of p rs)) (register_of q rs)) ≡ get (register_of q rs)
    by true same =
        let there : p ≡ q = grind (arith, nat_tests, same) in
        leaves (register_of p rs) ∙ ap (λ k. get (register_of k rs)) there
    by false other = refl

pub put-left : {X Y : Type 0} (get : Register → Y) (set : X → Register → Register) (es : List (ℕ × X)) (rs : Registers) (q : ℕ)
    → ((x : X) (r : Register) → get (set x r) ≡ get r) → get (register_of q (put_all set es rs)) ≡ get (register_of q rs)
put-left get set [] rs q leaves = refl
put-left get set (e ∷ es) rs q leaves =
    changed-left get e.0 (set e.1) (put_all set es rs) q (leaves e.1) ∙ put-left get set es rs q leaves

voted-left : {Y : Type 0} (get : Register → Y) (votes : List Config) (rs : Registers) (q : ℕ)
    → ((vote : Config) (r : Register) → get (with_vote vote r) ≡ get r) → get (register_of q (voted_all votes rs)) ≡ get (register_of q rs)
voted-left get [] rs q leaves = refl
voted-left get (vote ∷ votes) rs q leaves =
    voted-left get votes (changed vote.partition (with_vote vote) rs) q leaves
    ∙ changed-left get vote.partition (with_vote vote) rs q (leaves vote)

pub put-found : {X : Type 0} (get : Register → Option X) (set : X → Register → Register) (es : List (ℕ × X)) (rs : Registers) (q : ℕ)
    → ((x : X) (r : Register) → get (set x r) ≡ Some x) → get (register_of q rs) ≡ None
    → get (register_of q (put_all set es rs)) ≡ lookup (nat_eq q) es
put-found get set [] rs q sets none = none
put-found {X = X} get set (e ∷ es) rs q sets none =
    ap get (register_of-changed e.0 (set e.1) (put_all set es rs) q) ∙ by (e.0 == q) refl (put-found get set es rs q sets none)
  where
    by : (b : Bool) → (e.0 == q) ≡ b → get (register_of q (put_all set es rs)) ≡ lookup (nat_eq q) es
        → get (cond b (set e.1 (register_of e.0 (put_all set es rs))) (register_of q (put_all set es rs))) ≡ lookup (nat_eq q) (e ∷ es)
    by true same rest = let turned : nat_eq q e.0 ≡ true = grind (arith, nat_tests, same) in rw turned (sets e.1 (register_of e.0 (put_all set es rs)))
    by false other rest = let turned : nat_eq q e.0 ≡ false = grind (arith, nat_tests, other) in rw turned rest

-- The votes, in their order.

-- the first of two that is there
abbrev or_else : {X : Type 0} → Option X → Option X → Option X
or_else None other = other
or_else (Some x) other = Some x

vote_in-last : (e : Epoch) (votes : List Config) (vote : Config)
    → vote_in e (votes ++ vote ∷ []) ≡ or_else (vote_in e votes) (cond (same_epoch vote.epoch e) (Some vote) None)
vote_in-last e [] vote = refl
vote_in-last e (v ∷ votes) vote = by (same_epoch v.epoch e) (vote_in-last e votes vote)
  where
    by : (b : Bool) → vote_in e (votes ++ vote ∷ []) ≡ or_else (vote_in e votes) (cond (same_epoch vote.epoch e) (Some vote) None)
        → cond b (Some v) (vote_in e (votes ++ vote ∷ [])) ≡ or_else (cond b (Some v) (vote_in e votes)) (cond (same_epoch vote.epoch e) (Some vote) None)
    by true rest = refl
    by false rest = rest

-- a vote more, and then the others
vote-behind : (e : Epoch) (vote : Config) (rs : Registers) (q : ℕ) (others : Option Config)
    → or_else (vote_in e (register_of q (changed vote.partition (with_vote vote) rs)).votes) others
    ≡ or_else (vote_in e (register_of q rs).votes) (cond (vote.partition == q && same_epoch vote.epoch e) (Some vote) others)
vote-behind e vote rs q others =
    ap (λ r. or_else (vote_in e r.votes) others) (register_of-changed vote.partition (with_vote vote) rs q) ∙ by (vote.partition == q) refl
  where
    placed : (o : Option Config) (b : Bool) → or_else (or_else o (cond b (Some vote) None)) others ≡ or_else o (cond b (Some vote) others)
    placed None true = refl
    placed None false = refl
    placed (Some x) b = refl

    by : (b : Bool) → (vote.partition == q) ≡ b
        → or_else (vote_in e (cond b (with_vote vote (register_of vote.partition rs)) (register_of q rs)).votes) others
        ≡ or_else (vote_in e (register_of q rs).votes) (cond (b && same_epoch vote.epoch e) (Some vote) others)
    by true same =
        let there : vote.partition ≡ q = grind (arith, nat_tests, same) in
        ap (λ o. or_else o others) (vote_in-last e (register_of vote.partition rs).votes vote)
        ∙ placed (vote_in e (register_of vote.partition rs).votes) (same_epoch vote.epoch e)
        ∙ ap (λ k. or_else (vote_in e (register_of k rs).votes) (cond (same_epoch vote.epoch e) (Some vote) others)) there
    by false other = refl

votes-found : (votes : List Config) (rs : Registers) (q : ℕ) (e : Epoch)
    → vote_in e (register_of q (voted_all votes rs)).votes ≡ or_else (vote_in e (register_of q rs).votes) (first_vote q e votes)
votes-found [] rs q e = by (vote_in e (register_of q rs).votes)
  where
    by : (o : Option Config) → o ≡ or_else o None
    by None = refl
    by (Some x) = refl
votes-found (vote ∷ votes) rs q e =
    votes-found votes (changed vote.partition (with_vote vote) rs) q e ∙ vote-behind e vote rs q (first_vote q e votes)

-- What each table has of a partition.

pub prepared-is : (prepared : List (ℕ × Preparation)) (votes : List Config) (done : List (ℕ × Config)) (q : ℕ)
    → (register_of q (registers_of prepared votes done)).prepared ≡ lookup (nat_eq q) prepared
prepared-is prepared votes done q =
    voted-left (λ r. r.prepared) votes (put_all with_done done (put_all with_prepared prepared [])) q (λ c r. refl)
    ∙ put-left (λ r. r.prepared) with_done done (put_all with_prepared prepared []) q (λ c r. refl)
    ∙ put-found (λ r. r.prepared) with_prepared prepared [] q (λ x r. refl) refl

pub done-is : (prepared : List (ℕ × Preparation)) (votes : List Config) (done : List (ℕ × Config)) (q : ℕ)
    → (register_of q (registers_of prepared votes done)).done ≡ lookup (nat_eq q) done
done-is prepared votes done q =
    voted-left (λ r. r.done) votes (put_all with_done done (put_all with_prepared prepared [])) q (λ c r. refl)
    ∙ put-found (λ r. r.done) with_done done (put_all with_prepared prepared []) q (λ x r. refl)
    (put-left (λ r. r.done) with_prepared prepared [] q (λ x r. refl))

pub vote-is : (prepared : List (ℕ × Preparation)) (votes : List Config) (done : List (ℕ × Config)) (q : ℕ) (e : Epoch)
    → vote_in e (register_of q (registers_of prepared votes done)).votes ≡ first_vote q e votes
vote-is prepared votes done q e =
    votes-found votes (put_all with_done done (put_all with_prepared prepared [])) q e
    ∙ ap (λ vs. or_else (vote_in e vs) (first_vote q e votes))
    (put-left (λ r. r.votes) with_done done (put_all with_prepared prepared []) q (λ c r. refl)
    ∙ put-left (λ r. r.votes) with_prepared prepared [] q (λ c r. refl))

pub ruleset as_registers = (prepared-is, done-is, vote-is)
