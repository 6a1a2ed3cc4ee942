-- Polls: those that are asked, each with its answer once it came.
use Rattle.std.specs.Prelude.{ℕ, zero, suc, Bool, not, ◌&&◌, ◌==◌, List, [], ◌∷◌, ◌++◌, length, map, filter, filter_map, Option, Some, None, is_some, option_map, unwrap_or, if◌then◌else◌}
use Rattle.std.specs.List.{list_any}
use Rattle.ring_points.specs.Whos.{arbiter_actor}
use Rattle.arbiter_quorum.specs.Counted.{count_given}
use Rattle.arbiter_quorum.specs.Tallies.{is_majority}

-- actors in the order in which they are asked
abbrev pub Poll : Type 0 → Type 0
Poll A = List (ℕ × Option A)

-- nobody has answered
abbrev pub poll_of : {A : Type 0} → List ℕ → Poll A
poll_of actors = map (λ actor. (actor, None)) actors

-- the first k arbitrators, in their order
abbrev pub arbiters_to : ℕ → List ℕ
arbiters_to zero = []
arbiters_to (suc k) = arbiters_to k ++ arbiter_actor (suc k) ∷ []

-- the first answer of an actor that is asked counts
abbrev pub answered : {A : Type 0} → ℕ → A → Poll A → Poll A
answered actor x [] = []
answered actor x (e ∷ es) = if e.0 == actor then (e.0, Some (unwrap_or e.1 x)) ∷ es else e ∷ answered actor x es

-- the answers, each with who gave it
abbrev pub answers_in : {A : Type 0} → Poll A → List (ℕ × A)
answers_in poll = filter_map (λ e. option_map (λ x. (e.0, x)) e.1) poll

-- those that have not answered
abbrev pub waiting : {A : Type 0} → Poll A → List ℕ
waiting poll = map (λ e. e.0) (filter (λ e. not (is_some e.1)) poll)

-- a majority of the asked has answered
abbrev pub is_carried : {A : Type 0} → Poll A → Bool
is_carried poll = is_majority (length poll) (count_given is_some poll)

-- this one has answered
abbrev pub has_answered : {A : Type 0} → ℕ → Poll A → Bool
has_answered actor poll = list_any (λ e. e.0 == actor && is_some e.1) poll
