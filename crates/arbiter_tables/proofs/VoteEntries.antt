-- A table of votes, as an `IndexMap` keeps it, is a list of votes.
use Rattle.std.proofs.Common.{◌≡◌, ℕ, Bool, true, false, cond, List, [], ◌∷◌, ◌++◌, length, Some, None, refl, ap, ◌∙◌, arith}
use Rattle.std.specs.Prelude.{◌&&◌, nat_eq}
use Rattle.std.proofs.lemmas.Bool.Decides.{nat_tests}
use Rattle.std.specs.Map.{lookup}
use Rattle.indexmap.specs.IndexMap.{insert_entry}
use Rattle.ring_points.specs.declared.unit.Config.{Config}
use Rattle.ring_points.specs.declared.unit.Epoch.{Epoch}
use Rattle.arbiter_tables.specs.declared.ballot.Ballot.{Ballot}
use Rattle.arbiter_tables.specs.contracts.ballot.BallotPartialEq.TheImpl.{eq-value}
use Rattle.arbiter_tables.specs.Ballots.{ballot_of, is_vote_of, first_vote, votes_of, AreFiled}

-- what `==` says of two keys
abbrev pub same_key : Ballot → Ballot → Bool
same_key = (eq-value).it

test : (p : ℕ) (e : Epoch) (vote : Config) → same_key (ballot_of p e) (ballot_of vote.partition vote.epoch) ≡ is_vote_of p e vote
test p e vote = by (is_vote_of p e vote) refl
  where
    by : (b : Bool) → is_vote_of p e vote ≡ b
        → (nat_eq p vote.partition && (nat_eq e.data_loss vote.epoch.data_loss && nat_eq e.configuration vote.epoch.configuration)) ≡ is_vote_of p e vote
    by true s = grind (arith, nat_tests, s)
    by false s = grind (arith, nat_tests, s)

test_at : (p : ℕ) (e : Epoch) (entry : Ballot × Config) → entry.0 ≡ ballot_of entry.1.partition entry.1.epoch
    → same_key (ballot_of p e) entry.0 ≡ is_vote_of p e entry.1
test_at p e entry filed = ap (λ k. same_key (ballot_of p e) k) filed ∙ test p e entry.1

pub lookup-votes : (es : List (Ballot × Config)) (p : ℕ) (e : Epoch) → AreFiled es → lookup (same_key (ballot_of p e)) es ≡ first_vote p e (votes_of es)
lookup-votes [] p e filed = refl
lookup-votes (x ∷ es) p e filed =
    rw (test_at p e x filed.0) (ap (λ o. cond (is_vote_of p e x.1) (Some x.1) o) (lookup-votes es p e filed.1))

pub length-votes : (es : List (Ballot × Config)) → length (votes_of es) ≡ length es
length-votes [] = refl
length-votes (x ∷ es) = omega (arith, length-votes es)

-- a vote in front of others, and what stands behind it
behind_none : (p : ℕ) (e : Epoch) (vote : Config) (votes : List Config) → is_vote_of p e vote ≡ false
    → first_vote p e (vote ∷ votes) ≡ None → first_vote p e votes ≡ None
behind_none p e vote votes other none = rw other at none

pub vote_inserted : (es : List (Ballot × Config)) (vote : Config) → AreFiled es → first_vote vote.partition vote.epoch (votes_of es) ≡ None
    → votes_of (insert_entry same_key es (ballot_of vote.partition vote.epoch) vote) ≡ votes_of es ++ vote ∷ []
vote_inserted [] vote filed none = refl
vote_inserted (x ∷ es) vote filed none = by (is_vote_of vote.partition vote.epoch x.1) refl (vote_inserted es vote filed.1)
  where
    by : (b : Bool) → is_vote_of vote.partition vote.epoch x.1 ≡ b
        → (first_vote vote.partition vote.epoch (votes_of es) ≡ None
        → votes_of (insert_entry same_key es (ballot_of vote.partition vote.epoch) vote) ≡ votes_of es ++ vote ∷ [])
        → votes_of (insert_entry same_key (x ∷ es) (ballot_of vote.partition vote.epoch) vote) ≡ votes_of (x ∷ es) ++ vote ∷ []
    by true same rest = let some : Some x.1 ≡ None = rw same at none in absurd (cc)
    by false other rest =
        rw (test_at vote.partition vote.epoch x filed.0, other)
        (ap (λ l. x.1 ∷ l) (rest (behind_none vote.partition vote.epoch x.1 (votes_of es) other none)))

pub vote_filed : (es : List (Ballot × Config)) (vote : Config) → AreFiled es → first_vote vote.partition vote.epoch (votes_of es) ≡ None
    → AreFiled (insert_entry same_key es (ballot_of vote.partition vote.epoch) vote)
vote_filed [] vote filed none = (refl, tt)
vote_filed (x ∷ es) vote filed none = by (is_vote_of vote.partition vote.epoch x.1) refl (vote_filed es vote filed.1)
  where
    by : (b : Bool) → is_vote_of vote.partition vote.epoch x.1 ≡ b
        → (first_vote vote.partition vote.epoch (votes_of es) ≡ None
        → AreFiled (insert_entry same_key es (ballot_of vote.partition vote.epoch) vote))
        → AreFiled (insert_entry same_key (x ∷ es) (ballot_of vote.partition vote.epoch) vote)
    by true same rest = let some : Some x.1 ≡ None = rw same at none in absurd (cc)
    by false other rest =
        rw (test_at vote.partition vote.epoch x filed.0, other)
        (filed.0, rest (behind_none vote.partition vote.epoch x.1 (votes_of es) other none))

pub ruleset as_votes = (lookup-votes, length-votes, vote_inserted, vote_filed)
