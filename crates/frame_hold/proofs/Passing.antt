-- What links are given, one frame after another.
use Rattle.std.proofs.Common.{arith, ◌≡◌, ◌<◌, ◌≤◌, ◌+◌, ◌^◌, ℕ, Bool, true, false, List, [], ◌∷◌, ◌++◌, map, take, length, get_or, Option, Some, Result, Ok, Err, refl, ap, sym, subst, ◌∙◌, inl, inr, add-one}
use Rattle.std.specs.Prelude.{◌⊎◌, ◌&&◌, ◌==◌}
use Rattle.std.specs.Result.{OnOk, OnErr}
use Rattle.std.proofs.Math.Seq.{take-suc}
use Rattle.std.proofs.lemmas.Bool.{cases_Bool}
use Rattle.std.proofs.lemmas.List.{append-nil, append_assoc, map-append}
use Rattle.std.proofs.lemmas.List.Elements.{filter-append}
use Rattle.edge_io.specs.Edge.{Grew, HasRisen}
use Rattle.edge_io.specs.declared.datagram.Datagram.{Datagram}
use Rattle.edge_io.specs.declared.refusal.EdgeRefusal.{EdgeRefusal}
use Rattle.frame_hold.specs.Kept.{free_of, is_free}
use Rattle.frame_hold.specs.Promises.{Given, NeverBeforeDone, NoneWaits, Try, lost, went}
use Rattle.frame_hold.specs.Waits.{frame_waits}
use Rattle.frame_hold.specs.declared.holding.Owed.{Owed}

went-append : (a b : List Try) → went (a ++ b) ≡ went a ++ went b
went-append [] b = refl
went-append ((d, true) ∷ a) b = ap (λ (l : List Datagram). d ∷ l) (went-append a b)
went-append ((d, false) ∷ a) b = went-append a b

lost-append : (a b : List Try) → lost (a ++ b) ≡ lost a + lost b
lost-append [] b = omega arith
lost-append ((d, true) ∷ a) b = lost-append a b
lost-append ((d, false) ∷ a) b = omega (arith, lost-append a b)

-- nothing is given
pub given_none : (old : Option (List Datagram)) (before : ℕ) → Given [] old old before before
given_none old before = record {
  tries = [];
  whole = refl;
  sent = λ held told. told ∙ ap (λ (l : List Datagram). Some l) (sym (append-nil held));
  failed = inl (omega arith);
}

pub given_sent : (d : Datagram) (old new : Option (List Datagram)) (before now : ℕ) → Grew old new (d ∷ []) → before ≤ now → Given (d ∷ []) old new before now
given_sent d old new before now grew later = record {
  tries = (d, true) ∷ [];
  whole = refl;
  sent = grew;
  failed = inl (omega arith);
}

pub given_lost : (d : Datagram) (old new : Option (List Datagram)) (before now : ℕ) → new ≡ old → HasRisen before now → Given (d ∷ []) old new before now
given_lost d old new before now same risen = record {
  tries = (d, false) ∷ [];
  whole = refl;
  sent = λ held told. same ∙ told ∙ ap (λ (l : List Datagram). Some l) (sym (append-nil held));
  failed = elim risen [ inl more ↦ inl (omega arith) | inr end ↦ inr end ];
}

-- so often lost, and then so often more
both_failed : (x y z b c : ℕ) → (x + b ≤ y) ⊎ (2 ^ 64 ≤ y + 1) → (y + c ≤ z) ⊎ (2 ^ 64 ≤ z + 1) → (x + (b + c) ≤ z) ⊎ (2 ^ 64 ≤ z + 1)
both_failed x y z b c (inl p) (inl q) = inl (omega arith)
both_failed x y z b c (inr p) (inl q) = inr (omega arith)
both_failed x y z b c p (inr q) = inr q

pub given_then : (all more : List Datagram) (old mid new : Option (List Datagram)) (x y z : ℕ) → Given all old mid x y → Given more mid new y z → Given (all ++ more) old new x z
given_then all more old mid new x y z p q = record {
  tries = p.tries ++ q.tries;
  whole = map-append (λ (t : Try). t.0) p.tries q.tries ∙ ap (λ (l : List Datagram). l ++ map (λ (t : Try). t.0) q.tries) p.whole ∙ ap (λ (l : List Datagram). all ++ l) q.whole;
  sent = λ held told. q.sent (held ++ went p.tries) (p.sent held told) ∙ ap (λ (l : List Datagram). Some l) (append_assoc held (went p.tries) (went q.tries) ∙ ap (λ (l : List Datagram). held ++ l) (sym (went-append p.tries q.tries)));
  failed = subst (λ (n : ℕ). (x + n ≤ z) ⊎ (2 ^ 64 ≤ z + 1)) (sym (lost-append p.tries q.tries)) (both_failed x y z (lost p.tries) (lost q.tries) p.failed q.failed);
}

-- one more of the frames that were looked at
free_next : (actor : ℕ) (owed : List Owed) (held : List Datagram) (i : ℕ) (d : Datagram) → i < length held → d ≡ get_or held i d → free_of actor owed (take (i + 1) held) ≡ free_of actor owed (take i held) ++ free_of actor owed (d ∷ [])
free_next actor owed held i d within is =
    ap (free_of actor owed) (ap (λ n. take n held) (add-one i) ∙ take-suc held i d within ∙ ap (λ (x : Datagram). take i held ++ x ∷ []) (sym is))
    ∙ filter-append (is_free actor owed) (take i held) (d ∷ [])

-- a frame that is free is given
pub given_next : (actor : ℕ) (owed : List Owed) (held : List Datagram) (i : ℕ) (d : Datagram) (old mid new : Option (List Datagram)) (x y z : ℕ) →
    i < length held → d ≡ get_or held i d → is_free actor owed d ≡ true →
    Given (free_of actor owed (take i held)) old mid x y → Given (d ∷ []) mid new y z → Given (free_of actor owed (take (i + 1) held)) old new x z
given_next actor owed held i d old mid new x y z within is free p q =
    let one : free_of actor owed (d ∷ []) ≡ d ∷ [] = rw free refl in
    subst (λ (l : List Datagram). Given l old new x z) (sym (free_next actor owed held i d within is ∙ ap (λ (l : List Datagram). free_of actor owed (take i held) ++ l) one)) (given_then (free_of actor owed (take i held)) (d ∷ []) old mid new x y z p q)

-- another frame is left where it is
pub given_over : (actor : ℕ) (owed : List Owed) (held : List Datagram) (i : ℕ) (d : Datagram) (old new : Option (List Datagram)) (x y : ℕ) →
    i < length held → d ≡ get_or held i d → is_free actor owed d ≡ false →
    Given (free_of actor owed (take i held)) old new x y → Given (free_of actor owed (take (i + 1) held)) old new x y
given_over actor owed held i d old new x y within is stays p =
    let none : free_of actor owed (d ∷ []) ≡ [] = rw stays refl in
    subst (λ (l : List Datagram). Given l old new x y) (sym (free_next actor owed held i d within is ∙ ap (λ (l : List Datagram). free_of actor owed (take i held) ++ l) none ∙ append-nil (free_of actor owed (take i held)))) p

-- what is given of frames that do not wait does not wait
went_free : (owed : List Owed) (tries : List Try) → NoneWaits owed (map (λ (t : Try). t.0) tries) → NoneWaits owed (went tries)
went_free owed [] none = none
went_free owed ((d, true) ∷ ts) none = (none.0, went_free owed ts none.1)
went_free owed ((d, false) ∷ ts) none = went_free owed ts none.1

free_none : (actor : ℕ) (owed : List Owed) (d : Datagram) → is_free actor owed d ≡ true → frame_waits owed d.bytes ≡ false
free_none actor owed d free = elim (cases_Bool (frame_waits owed d.bytes)) [
  | inl waits ↦ absurd (not_free (d.from == actor) (rw waits at free))
  | inr none ↦ none
]
  where
    not_free : (b : Bool) → (b && false) ≡ true → ⊥
    not_free true e = cc
    not_free false e = cc

free_waits : (actor : ℕ) (owed : List Owed) (held : List Datagram) → NoneWaits owed (free_of actor owed held)
free_waits actor owed [] = tt
free_waits actor owed (d ∷ held) = elim (cases_Bool (is_free actor owed d)) [
  | inl free ↦ rw free (free_none actor owed d free, free_waits actor owed held)
  | inr stays ↦ rw stays (free_waits actor owed held)
]

pub never_early : (actor : ℕ) (owed : List Owed) (held : List Datagram) (old new : Option (List Datagram)) (x y : ℕ) → Given (free_of actor owed held) old new x y → NeverBeforeDone owed old new
never_early actor owed held old new x y p sent told =
    (went p.tries, p.sent sent told, went_free owed p.tries (subst (NoneWaits owed) (sym p.whole) (free_waits actor owed held)))

pub never_same : (owed : List Owed) (old new : Option (List Datagram)) → new ≡ old → NeverBeforeDone owed old new
never_same owed old new same sent told = ([], same ∙ told ∙ ap (λ (l : List Datagram). Some l) (sym (append-nil sent)), tt)

pub never_passed : (owed : List Owed) (d : Datagram) (old new : Option (List Datagram)) (result : Result (Unit {0}) EdgeRefusal) → frame_waits owed d.bytes ≡ false →
    OnOk result (Grew old new (d ∷ [])) → OnErr result (new ≡ old) → NeverBeforeDone owed old new
never_passed owed d old new (Ok done) free grew same sent told = (d ∷ [], grew sent told, (free, tt))
never_passed owed d old new (Err error) free grew same sent told = never_same owed old new same sent told

-- what the links say of a datagram that they sent
pub given_as : (d : Datagram) (to bytes : List ℕ) (old new : Option (List Datagram)) (before now : ℕ) → to ≡ d.to → bytes ≡ d.bytes →
    Grew old new (record { from = d.from; to = to; bytes = bytes } ∷ []) → before ≤ now → Given (d ∷ []) old new before now
given_as d to bytes old new before now same_to same_bytes grew later =
    let P : List ℕ → Type 0 = λ t. Grew old new (record { from = d.from; to = t; bytes = bytes } ∷ []) in
    let Q : List ℕ → Type 0 = λ b. Grew old new (record { from = d.from; to = d.to; bytes = b } ∷ []) in
    given_sent d old new before now (subst Q same_bytes (subst P same_to grew)) later
