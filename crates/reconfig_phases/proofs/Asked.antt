-- Asking one actor after the other.
use Rattle.std.proofs.Common.{◌≡◌, ℕ, suc, ◌+◌, ◌<◌, ◌≤◌, false, List, [], ◌∷◌, ◌++◌, length, subst, drop, get_or, add-one, drop-cons, refl, ap, sym, ◌∙◌, arith, length-append}
use Rattle.std.proofs.Math.ListN.{drop_of_length-le}
use Rattle.ring_points.specs.declared.who.Who.{Who}
use Rattle.ring_points.specs.Whos.{node_instance}
use Rattle.fabric_terms.specs.declared.message.Body.{Body}
use Rattle.world_rules.specs.Above.{is_ring_frame}
use Rattle.unit_rules.specs.Deeds.{frames_of}
use Rattle.unit_rules.specs.Questions.{asks, question}
use Rattle.unit_rules.specs.Reconfigs.{Reconfig, Prepare, Phase0, Phase1, Decide, Phase2, Phase3, Phase4}

question_own : (r : Reconfig) → is_ring_frame (question r) ≡ false
question_own (Prepare p) = refl
question_own (Phase0 p) = refl
question_own (Phase1 p) = refl
question_own (Decide p) = refl
question_own (Phase2 p) = refl
question_own (Phase3 p) = refl
question_own (Phase4 p) = refl

asks_one : (r : Reconfig) (a : ℕ) (rest : List ℕ) → frames_of (asks r (a ∷ rest)) ≡ (node_instance a 0, question r) ∷ frames_of (asks r rest)
asks_one r a rest = rw (question_own r) refl

-- so much is sent, and the rest is to be asked
pub record IsAsking (r : Reconfig) (actors rest : List ℕ) (before now : List (Who × Body)) : Type 0 where
  pub sent : now ++ frames_of (asks r rest) ≡ before ++ frames_of (asks r actors)
  pub room : length now + length rest ≤ 192
  pub many : length now + length rest ≡ length before + length actors

behind : (xs : List (Who × Body)) (y : Who × Body) (ys : List (Who × Body)) → (xs ++ y ∷ []) ++ ys ≡ xs ++ y ∷ ys
behind [] y ys = refl
behind (x ∷ xs) y ys = ap (λ zs. x ∷ zs) (behind xs y ys)

asked_one : (r : Reconfig) (actors rest : List ℕ) (a : ℕ) (before now : List (Who × Body))
    → IsAsking r actors (a ∷ rest) before now → IsAsking r actors rest before (now ++ (node_instance a 0, question r) ∷ [])
asked_one r actors rest a before now state = record {
  sent = behind now (node_instance a 0, question r) (frames_of (asks r rest)) ∙ ap (λ ys. now ++ ys) (sym (asks_one r a rest)) ∙ state.sent;
  room = omega (arith, state.room, length-append now ((node_instance a 0, question r) ∷ []));
  many = omega (arith, state.many, length-append now ((node_instance a 0, question r) ∷ []));
}

pub next_rest : (actors : List ℕ) (i a : ℕ) → i < length actors → a ≡ get_or actors i a → drop i actors ≡ a ∷ drop (i + 1) actors
next_rest actors i a inside is = rw (add-one, drop-cons actors i a) (ap (λ x. x ∷ drop (suc i) actors) (sym is))

pub asked_more : (r : Reconfig) (actors : List ℕ) (i a : ℕ) (before now : List (Who × Body)) → i < length actors → a ≡ get_or actors i a
    → IsAsking r actors (drop i actors) before now → IsAsking r actors (drop (i + 1) actors) before (now ++ (node_instance a 0, question r) ∷ [])
asked_more r actors i a before now inside is state =
    let P : List ℕ → Type 0 = λ rest. IsAsking r actors rest before now in
    asked_one r actors (drop (i + 1) actors) a before now (subst P (next_rest actors i a inside is) state)

nothing_behind : (xs : List (Who × Body)) → xs ++ [] ≡ xs
nothing_behind [] = refl
nothing_behind (x ∷ xs) = ap (λ ys. x ∷ ys) (nothing_behind xs)

pub asked_all : (r : Reconfig) (actors : List ℕ) (i : ℕ) (before now : List (Who × Body)) → length actors ≤ i
    → IsAsking r actors (drop i actors) before now → now ≡ before ++ frames_of (asks r actors)
asked_all r actors i before now end state =
    let P : List ℕ → Type 0 = λ rest. IsAsking r actors rest before now in
    sym (nothing_behind now) ∙ (subst P (drop_of_length-le actors end) state).sent

pub asked_many : (r : Reconfig) (actors : List ℕ) (i : ℕ) (before now : List (Who × Body)) → length actors ≤ i
    → IsAsking r actors (drop i actors) before now → length now ≡ length before + length actors
asked_many r actors i before now end state =
    let P : List ℕ → Type 0 = λ rest. IsAsking r actors rest before now in
    omega (arith, (subst P (drop_of_length-le actors end) state).many)
