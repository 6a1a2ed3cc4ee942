-- The arbitrators that have not voted, one after the other.
use Rattle.std.proofs.Common.{◌≡◌, ℕ, suc, ◌+◌, true, false, List, [], ◌∷◌, ◌++◌, refl, ap, ◌∙◌, arith}
use Rattle.std.proofs.lemmas.List.{append-nil}
use Rattle.std.proofs.lemmas.List.Elements.{filter-append}
use Rattle.std.specs.Prelude.{not, filter}
use Rattle.ring_points.specs.Whos.{arbiter_actor}
use Rattle.arbiter_quorum.specs.Tallies.{has_answered}
use Rattle.arbiter_quorum.specs.Votes.{VoteTally}
use Rattle.unit_rules.specs.Polls.{arbiters_to}
use Rattle.unit_rules.specs.Questions.{has_voted}

-- the first k arbitrators without those that have voted
abbrev pub awaited_to : VoteTally → ℕ → List ℕ
awaited_to votes k = filter (λ actor. not (has_voted votes actor)) (arbiters_to k)

asked_as : (votes : VoteTally) (k : ℕ) → has_voted votes (arbiter_actor (suc k)) ≡ has_answered (k + 1) votes.answers
asked_as votes k = ap (λ (a : ℕ). has_answered a votes.answers) (omega arith)

-- an arbitrator that has not voted is one more
pub waits : (votes : VoteTally) (k : ℕ) → has_answered (k + 1) votes.answers ≡ false
    → awaited_to votes (k + 1) ≡ awaited_to votes k ++ (32768 + 1 + k) ∷ []
waits votes k is =
    let one : k + 1 ≡ suc k = omega arith in
    let same : arbiter_actor (suc k) ≡ 32768 + 1 + k = omega arith in
    rw one (filter-append (λ actor. not (has_voted votes actor)) (arbiters_to k) (arbiter_actor (suc k) ∷ []) ∙ rw (asked_as votes k ∙ is, same) refl)

-- and one that has voted is not
pub waits_not : (votes : VoteTally) (k : ℕ) → has_answered (k + 1) votes.answers ≡ true → awaited_to votes (k + 1) ≡ awaited_to votes k
waits_not votes k is =
    let one : k + 1 ≡ suc k = omega arith in
    rw one (filter-append (λ actor. not (has_voted votes actor)) (arbiters_to k) (arbiter_actor (suc k) ∷ [])
    ∙ rw (asked_as votes k ∙ is) (append-nil (awaited_to votes k)))
