-- A firing of many replicas is that of one after another.
use Rattle.std.proofs.Common.{◌≡◌, ℕ, suc, ◌+◌, ◌*◌, ◌≤◌, List, [], ◌∷◌, ◌++◌, flat_map, length, refl, sym, ap, ◌∙◌, arith, length-append}
use Rattle.std.proofs.lemmas.List.{append_assoc, length-map, map-append}
use Rattle.std.specs.Map.{values_of}
use Rattle.ring_points.specs.declared.who.Who.{Who}
use Rattle.fabric_terms.specs.declared.message.Body.{Body}
use Rattle.fabric_terms.specs.declared.message.Message.{Message}
use Rattle.fabric_terms.specs.Sent.{from_all}
use Rattle.unit_rules.specs.Deeds.{Deed, frames_of}
use Rattle.unit_rules.specs.ReplicaStates.{ReplicaState}
use Rattle.unit_rules.specs.Writes.{state_fired}
use Rattle.unit_desk.proofs.Deeds.{frames_of-append}
use Rattle.unit_replica.specs.Limits.{most_peers}
use Rattle.unit_replica.specs.Tables.{ReplicaStates, fired}

-- the numbers do not count
pub fired_values : (states : ReplicaStates) → fired states ≡ flat_map state_fired (values_of states)
fired_values [] = refl
fired_values (e ∷ states) = ap (λ (ds : List Deed). state_fired e.1 ++ ds) (fired_values states)

-- one more is sent, and the others are to come
pub one_fired : (me : Who) (s : ReplicaState) (rest : List ReplicaState) (before now : List Message) → now ≡ before ++ from_all me (frames_of (state_fired s))
    → now ++ from_all me (frames_of (flat_map state_fired rest)) ≡ before ++ from_all me (frames_of (flat_map state_fired (s ∷ rest)))
one_fired me s rest before now is =
    let one : from_all me (frames_of (flat_map state_fired (s ∷ rest))) ≡ from_all me (frames_of (state_fired s)) ++ from_all me (frames_of (flat_map state_fired rest)) =
    ap (from_all me) (frames_of-append (state_fired s) (flat_map state_fired rest)) ∙ map-append _ (frames_of (state_fired s)) (frames_of (flat_map state_fired rest)) in
    ap (λ (ms : List Message). ms ++ from_all me (frames_of (flat_map state_fired rest))) is
    ∙ (append_assoc before (from_all me (frames_of (state_fired s))) (from_all me (frames_of (flat_map state_fired rest)))
    ∙ ap (λ (ms : List Message). before ++ ms) (sym one))

-- one more sends little
pub few_fired : (me : Who) (s : ReplicaState) (left rest : List ReplicaState) (all : ℕ) (now next : List Message) (clear out : List (Who × Body)) → left ≡ s ∷ rest
    → next ≡ now ++ from_all me out → clear ≡ [] → length out ≤ length clear + most_peers → length now + most_peers * length left ≤ all
    → length next + most_peers * length rest ≤ all
few_fired me s left rest all now next clear out steps behind none few so_far =
    let many : length next ≡ length now + length out =
    ap (λ (ms : List Message). length ms) behind ∙ (length-append now (from_all me out) ∙ ap (λ (n : ℕ). length now + n) (length-map {B = Message} out _)) in
    let nothing : length clear ≡ 0 = ap (λ (ms : List (Who × Body)). length ms) none in
    let one : length left ≡ suc (length rest) = ap (λ (l : List ReplicaState). length l) steps in
    omega (arith, many, nothing, few, one, so_far)
