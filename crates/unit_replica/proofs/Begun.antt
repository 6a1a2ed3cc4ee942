-- Replica states that are put in front of others, and what comes back of them.
use Rattle.std.proofs.Common.{◌≡◌, ℕ, ◌+◌, true, List, [], ◌∷◌, ◌++◌, refl, sym, ap, ◌∙◌, arith}
use Rattle.std.proofs.lemmas.Bool.{and_parts}
use Rattle.std.proofs.lemmas.Bool.Decides.{nat_tests}
use Rattle.std.proofs.lemmas.List.{append-nil}
use Rattle.std.specs.Prelude.{nat_le, nat_lt}
use Rattle.fabric_lemmas.specs.Maps.{put, rises, rises_from}
use Rattle.keep_log.proofs.MapEntries.{rises-mapped}
use Rattle.replica_core.specs.Replicas.{Replica, uncollected}
use Rattle.unit_replica.specs.Starts.{replicas_in, bare_state, state_uncollected, states_from, states_of, states_uncollected, with_replica}
use Rattle.unit_replica.specs.Tables.{ReplicaStates}

module _ {X : Type 0} where
  -- what stands behind an entry begins above it
  above_last : (low k : ℕ) (x : X) (es more : List (ℕ × X)) → rises_from low (es ++ (k, x) ∷ more) ≡ true → rises_from (k + 1) more ≡ true
  above_last low k x [] more up =
      let parts : (nat_le low k ≡ true) × (rises_from (k + 1) more ≡ true) = and_parts (nat_le low k) (rises_from (k + 1) more) up in
      parts.1
  above_last low k x (e ∷ es) more up =
      let parts : (nat_le low e.0 ≡ true) × (rises_from (e.0 + 1) (es ++ (k, x) ∷ more) ≡ true) =
      and_parts (nat_le low e.0) (rises_from (e.0 + 1) (es ++ (k, x) ∷ more)) up in
      above_last (e.0 + 1) k x es more parts.1

  put-first : (k : ℕ) (x : X) (es : List (ℕ × X)) → rises_from (k + 1) es ≡ true → put k x es ≡ (k, x) ∷ es
  put-first k x [] up = refl
  put-first k x (e ∷ es) up =
      let parts : (nat_le (k + 1) e.0 ≡ true) × (rises_from (e.0 + 1) es ≡ true) = and_parts (nat_le (k + 1) e.0) (rises_from (e.0 + 1) es) up in
      let less : nat_lt k e.0 ≡ true = grind (arith, nat_tests, parts.0) in
      rw less refl

states_of-last : (r : Replica) (front : List Replica) (es : ReplicaStates) → states_of (front ++ r ∷ []) ++ es ≡ states_of front ++ (r.partition, bare_state r) ∷ es
states_of-last r [] es = refl
states_of-last r (f ∷ front) es = ap (λ (s : ReplicaStates). (f.partition, bare_state f) ∷ s) (states_of-last r front es)

-- the last replica is put in front of the states that stand
pub one_put : (r : Replica) (rs front : List Replica) (es new all : ReplicaStates) → rises all ≡ true → states_of rs ++ es ≡ all → rs ≡ front ++ r ∷ []
    → new ≡ with_replica r es → states_of front ++ new ≡ all
one_put r rs front es new all up is popped made =
    let moved : states_of front ++ (r.partition, bare_state r) ∷ es ≡ all =
    sym (states_of-last r front es) ∙ (ap (λ (l : List Replica). states_of l ++ es) (sym popped) ∙ is) in
    let whole : rises (states_of front ++ (r.partition, bare_state r) ∷ es) ≡ true = ap (λ (l : ReplicaStates). rises l) moved ∙ up in
    let first : put r.partition (bare_state r) es ≡ (r.partition, bare_state r) ∷ es =
    put-first r.partition (bare_state r) es (above_last 0 r.partition (bare_state r) (states_of front) es whole) in
    ap (λ (l : ReplicaStates). states_of front ++ l) (made ∙ first) ∙ moved

-- where none is left, all are put in
all_put : (rs all : List Replica) (es : ReplicaStates) → states_of rs ++ es ≡ states_of all ++ [] → rs ≡ [] → es ≡ states_of all
all_put rs all es is none = ap (λ (l : List Replica). states_of l ++ es) (sym none) ∙ (is ∙ append-nil (states_of all))

replicas_in-states : (rs : List Replica) (es : ReplicaStates) → replicas_in (states_of rs ++ es) ≡ rs ++ replicas_in es
replicas_in-states [] es = refl
replicas_in-states (r ∷ rs) es = ap (λ (l : List Replica). r ∷ l) (replicas_in-states rs es)

-- what was put in comes back behind what was not
pub given_back : (rs all : List Replica) (es : ReplicaStates) → states_of rs ++ es ≡ states_of all ++ [] → rs ++ replicas_in es ≡ all
given_back rs all es is =
    sym (replicas_in-states rs es) ∙ (ap (λ (l : ReplicaStates). replicas_in l) is ∙ (replicas_in-states all [] ∙ append-nil all))

uncollected-of : (rs : List Replica) → states_uncollected (states_of rs) ≡ states_from rs
uncollected-of [] = refl
uncollected-of (r ∷ rs) = ap (λ (s : ReplicaStates). (r.partition, bare_state (uncollected r)) ∷ s) (uncollected-of rs)

-- where none is left, and every collection has ended, the node begins
pub all_begun : (rs all : List Replica) (es new : ReplicaStates) → states_of rs ++ es ≡ states_of all ++ [] → rs ≡ [] → new ≡ states_uncollected es → new ≡ states_from all
all_begun rs all es new is none ended =
    ended ∙ (ap (λ (s : ReplicaStates). states_uncollected s) (all_put rs all es is none) ∙ uncollected-of all)

pub rises-from : (rs : List Replica) → rises (states_of rs) ≡ true → rises (states_from rs) ≡ true
rises-from rs up = ap (λ (s : ReplicaStates). rises s) (sym (uncollected-of rs)) ∙ (rises-mapped state_uncollected 0 (states_of rs) ∙ up)
