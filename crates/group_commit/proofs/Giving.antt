-- What links are given, one frame after another.
use Rattle.std.proofs.Common.{arith, ◌≡◌, ◌<◌, ◌≤◌, ◌+◌, ◌^◌, ℕ, true, false, List, [], ◌∷◌, ◌++◌, map, take, length, get_or, Option, Some, refl, ap, sym, subst, ◌∙◌, inl, inr, add-one}
use Rattle.std.specs.Prelude.{◌⊎◌}
use Rattle.std.proofs.Math.Seq.{take-suc}
use Rattle.std.proofs.lemmas.List.{append-nil, append_assoc, map-append}
use Rattle.edge_io.specs.Edge.{Grew, HasRisen}
use Rattle.edge_io.specs.declared.datagram.Datagram.{Datagram}
use Rattle.group_commit.specs.Given.{Given, Try, lost, went}
use Rattle.group_commit.specs.Queues.{queue_of, waiting_as}
use Rattle.group_commit.specs.declared.waiting.Waiting.{Waiting}

went-append : (a b : List Try) → went (a ++ b) ≡ went a ++ went b
went-append [] b = refl
went-append ((d, true) ∷ a) b = ap (λ (l : List Datagram). d ∷ l) (went-append a b)
went-append ((d, false) ∷ a) b = went-append a b

lost-append : (a b : List Try) → lost (a ++ b) ≡ lost a + lost b
lost-append [] b = omega arith
lost-append ((d, true) ∷ a) b = lost-append a b
lost-append ((d, false) ∷ a) b = omega (arith, lost-append a b)

-- nothing is given
pub given_none : (old : Option (List Datagram)) (before : ℕ) → Given [] old old before before
given_none old before = record {
  tries = [];
  whole = refl;
  sent = λ held told. told ∙ ap (λ (l : List Datagram). Some l) (sym (append-nil held));
  counted = inl (omega arith);
}

pub given_sent : (d : Datagram) (old new : Option (List Datagram)) (before : ℕ) → Grew old new (d ∷ []) → Given (d ∷ []) old new before before
given_sent d old new before grew = record {
  tries = (d, true) ∷ [];
  whole = refl;
  sent = grew;
  counted = inl (omega arith);
}

pub given_lost : (d : Datagram) (old new : Option (List Datagram)) (before now : ℕ) → new ≡ old → HasRisen before now → Given (d ∷ []) old new before now
given_lost d old new before now same risen = record {
  tries = (d, false) ∷ [];
  whole = refl;
  sent = λ held told. same ∙ told ∙ ap (λ (l : List Datagram). Some l) (sym (append-nil held));
  counted = elim risen [ inl more ↦ inl (omega arith) | inr end ↦ inr end ];
}

-- so often lost, and then so often more
both_counted : (x y z b c : ℕ) → y ≤ z → (x + b ≤ y) ⊎ (2 ^ 64 ≤ y + 1) → (y + c ≤ z) ⊎ (2 ^ 64 ≤ z + 1) → (x + (b + c) ≤ z) ⊎ (2 ^ 64 ≤ z + 1)
both_counted x y z b c later (inl p) (inl q) = inl (omega arith)
both_counted x y z b c later (inr p) (inl q) = inr (omega arith)
both_counted x y z b c later p (inr q) = inr q

pub given_then : (all more : List Datagram) (old mid new : Option (List Datagram)) (x y z : ℕ) → y ≤ z → Given all old mid x y → Given more mid new y z → Given (all ++ more) old new x z
given_then all more old mid new x y z later p q = record {
  tries = p.tries ++ q.tries;
  whole = map-append (λ (t : Try). t.0) p.tries q.tries ∙ ap (λ (l : List Datagram). l ++ map (λ (t : Try). t.0) q.tries) p.whole ∙ ap (λ (l : List Datagram). all ++ l) q.whole;
  sent = λ held told. q.sent (held ++ went p.tries) (p.sent held told) ∙ ap (λ (l : List Datagram). Some l) (append_assoc held (went p.tries) (went q.tries) ∙ ap (λ (l : List Datagram). held ++ l) (sym (went-append p.tries q.tries)));
  counted = subst (λ (n : ℕ). (x + n ≤ z) ⊎ (2 ^ 64 ≤ z + 1)) (sym (lost-append p.tries q.tries)) (both_counted x y z (lost p.tries) (lost q.tries) later p.counted q.counted);
}

-- what the links say of a frame that they sent
pub given_as : (actor : ℕ) (w : Waiting) (to bytes : List ℕ) (old new : Option (List Datagram)) (before : ℕ) → to ≡ w.to → bytes ≡ w.bytes →
    Grew old new (record { from = actor; to = to; bytes = bytes } ∷ []) → Given (waiting_as actor w ∷ []) old new before before
given_as actor w to bytes old new before same_to same_bytes grew =
    let P : List ℕ → Type 0 = λ t. Grew old new (record { from = actor; to = t; bytes = bytes } ∷ []) in
    let Q : List ℕ → Type 0 = λ b. Grew old new (record { from = actor; to = w.to; bytes = b } ∷ []) in
    given_sent (waiting_as actor w) old new before (subst Q same_bytes (subst P same_to grew))

-- one more of the queue is given
pub given_next : (actor : ℕ) (ws : List Waiting) (i : ℕ) (w : Waiting) (old mid new : Option (List Datagram)) (x y z : ℕ) →
    i < length ws → w ≡ get_or ws i w → y ≤ z → Given (queue_of actor (take i ws)) old mid x y → Given (waiting_as actor w ∷ []) mid new y z → Given (queue_of actor (take (i + 1) ws)) old new x z
given_next actor ws i w old mid new x y z within is later p q =
    let grown : take (i + 1) ws ≡ take i ws ++ w ∷ [] = ap (λ n. take n ws) (add-one i) ∙ take-suc ws i w within ∙ ap (λ (v : Waiting). take i ws ++ v ∷ []) (sym is) in
    subst (λ (l : List Datagram). Given l old new x z) (sym (ap (queue_of actor) grown ∙ map-append (waiting_as actor) (take i ws) (w ∷ [])))
    (given_then (queue_of actor (take i ws)) (waiting_as actor w ∷ []) old mid new x y z later p q)
