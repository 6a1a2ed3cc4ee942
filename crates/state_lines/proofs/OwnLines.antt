-- Each replica of a node has one line.
use Rattle.std.proofs.Common.{◌≡◌, ℕ, ◌+◌, ◌<◌, true, false, cond, List, [], ◌∷◌, ◌++◌, Some, refl, ap, ◌∙◌, arith}
use Rattle.std.specs.Prelude.{◌==◌, nat_le, map, flat_map}
use Rattle.std.proofs.lemmas.Bool.{and_parts, eq-eqb}
use Rattle.std.proofs.lemmas.Bool.Decides.{nat_tests}
use Rattle.fabric_lemmas.specs.Maps.{at, rises_from}
use Rattle.unit_replica.specs.Tables.{replica_at, replica_of_state}
use Rattle.unit_rules.specs.ReplicaStates.{ReplicaState}
use Rattle.door_lines.specs.Words.{Words}
use Rattle.state_lines.specs.Laws.{EachReplicaHasALine, own_line}
use Rattle.state_lines.specs.States.{replica_line, replica_lines}

-- the lines of these partitions, by these states
abbrev lines_by : List (ℕ × ReplicaState) → List (ℕ × ReplicaState) → List Words
lines_by all es = flat_map (λ p. replica_line p (replica_at p all)) (map (λ e. e.0) es)

-- a replica of a partition below these is none of theirs
behind : (low : ℕ) (e : ℕ × ReplicaState) (all es : List (ℕ × ReplicaState)) → e.0 < low → rises_from low es ≡ true → lines_by (e ∷ all) es ≡ lines_by all es
behind low e all [] below h = refl
behind low e all (x ∷ es) below h =
    let parts : (nat_le low x.0 ≡ true) × (rises_from (x.0 + 1) es ≡ true) = and_parts (nat_le low x.0) (rises_from (x.0 + 1) es) h in
    let other : (e.0 == x.0) ≡ false = grind (arith, nat_tests, parts.0) in
    let more : e.0 < x.0 + 1 = grind (arith, nat_tests, parts.0) in
    ap (λ b. replica_line x.0 (replica_of_state (cond b (Some e.1) (at x.0 all))) ++ lines_by (e ∷ all) es) other
    ∙ ap (λ t. replica_line x.0 (replica_at x.0 all) ++ t) (behind (x.0 + 1) e all es more parts.1)

each_line : (low : ℕ) (states : List (ℕ × ReplicaState)) → rises_from low states ≡ true → replica_lines states ≡ map own_line states
each_line low [] h = refl
each_line low (e ∷ es) h =
    let parts : (nat_le low e.0 ≡ true) × (rises_from (e.0 + 1) es ≡ true) = and_parts (nat_le low e.0) (rises_from (e.0 + 1) es) h in
    ap (λ b. replica_line e.0 (replica_of_state (cond b (Some e.1) (at e.0 es))) ++ lines_by (e ∷ es) es) (eq-eqb e.0 e.0 refl)
    ∙ ap (λ t. own_line e ∷ t) (behind (e.0 + 1) e es es (omega arith) parts.1 ∙ each_line (e.0 + 1) es parts.1)

pub each_replica : EachReplicaHasALine
each_replica states h = each_line 0 states h
