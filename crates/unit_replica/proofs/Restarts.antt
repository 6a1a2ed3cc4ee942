-- Replica states of which some are gone rise as all of them did.
use Rattle.std.proofs.Common.{◌≡◌, ℕ, ◌+◌, ◌≤◌, Bool, true, false, cond, List, [], ◌∷◌, filter, length, map, refl, ◌∙◌, arith}
use Rattle.std.proofs.lemmas.Bool.{and_parts, and_from}
use Rattle.std.proofs.lemmas.Bool.Decides.{nat_tests}
use Rattle.std.proofs.lemmas.List.{length-map}
use Rattle.std.specs.Prelude.{nat_le}
use Rattle.fabric_lemmas.specs.Maps.{rises, rises_from}
use Rattle.fabric_lemmas.proofs.Maps.{rises_from-lower}
use Rattle.keep_log.proofs.MapEntries.{rises-mapped}
use Rattle.unit_rules.specs.ReplicaStates.{ReplicaState}
use Rattle.unit_desk.proofs.Puts.{fewer_kept}
use Rattle.unit_replica.specs.Starts.{is_recorded, state_again, states_again}
use Rattle.unit_replica.specs.Tables.{ReplicaStates}

module _ {X : Type 0} where
  rises_from-filter : (low : ℕ) (test : ℕ × X → Bool) (es : List (ℕ × X)) → rises_from low es ≡ true → rises_from low (filter test es) ≡ true
  rises_from-filter low test [] up = refl
  rises_from-filter low test (e ∷ es) up =
      let parts : (nat_le low e.0 ≡ true) × (rises_from (e.0 + 1) es ≡ true) = and_parts (nat_le low e.0) (rises_from (e.0 + 1) es) up in
      by (test e) parts.0 (rises_from-filter (e.0 + 1) test es parts.1)
    where
      by : (b : Bool) → nat_le low e.0 ≡ true → rises_from (e.0 + 1) (filter test es) ≡ true → rises_from low (cond b (e ∷ filter test es) (filter test es)) ≡ true
      by true here behind = and_from (nat_le low e.0) (rises_from (e.0 + 1) (filter test es)) here behind
      by false here behind = rises_from-lower (e.0 + 1) low (filter test es) (grind (arith, nat_tests, here)) behind

pub rises-again : (es : ReplicaStates) → rises es ≡ true → rises (states_again es) ≡ true
rises-again es up =
    rises_from-filter 0 (λ e. is_recorded e.1.replica) (map (λ e. (e.0, state_again e.1)) es) (rises-mapped state_again 0 es ∙ up)

pub fewer_again : (es : ReplicaStates) → length (states_again es) ≤ length es
fewer_again es =
    let all : ReplicaStates = map (λ e. (e.0, state_again e.1)) es in
    let less = fewer_kept (λ (e : ℕ × ReplicaState). is_recorded e.1.replica) all in
    let same : length all ≡ length es = length-map es _ in
    omega (arith, less, same)
