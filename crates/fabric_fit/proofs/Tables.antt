-- Maps with one value more: what holds of each entry, and how many there are.
use Rattle.std.proofs.Common.{◌≡◌, ℕ, ◌+◌, ◌≤◌, Bool, true, false, cond, List, [], ◌∷◌, length, Some, refl, sym, arith}
use Rattle.std.specs.Prelude.{◌==◌, All, nat_le, nat_lt}
use Rattle.std.proofs.lemmas.Bool.{and_from, and_parts, eq-eqb, eqb-true, le-leb, ltb-true}
use Rattle.std.proofs.lemmas.List.Elements.{All-cons, All-head, All-tail}
use Rattle.fabric_lemmas.specs.Maps.{at, put, put_here, rises_from}
use Rattle.fabric_lemmas.proofs.SameMaps.{at-below}

module _ {X : Type 0} where
  pub put_all : (P : ℕ × X → Type 0) (k : ℕ) (x : X) (es : List (ℕ × X)) → P (k, x) → All P es → All P (put k x es)
  put_all P k x [] h m = All-cons P (k, x) [] h m
  put_all P k x (e ∷ es) h m = placed (nat_lt k e.0) (k == e.0) (put_all P k x es h (All-tail P e es m))
    where
      placed : (lt same : Bool) → All P (put k x es) → All P (put_here k x e es (put k x es) lt same)
      placed true same rest = All-cons P (k, x) (e ∷ es) h m
      placed false true rest = All-cons P (k, x) es h (All-tail P e es m)
      placed false false rest = All-cons P e (put k x es) (All-head P e es m) rest

  -- one more at most
  pub put_more : (k : ℕ) (x : X) (es : List (ℕ × X)) → length (put k x es) ≤ length es + 1
  put_more k x [] = omega arith
  put_more k x (e ∷ es) =
      let all = placed (nat_lt k e.0) (k == e.0) (put_more k x es) in omega arith
    where
      placed : (lt same : Bool) → length (put k x es) ≤ length es + 1 → length (put_here k x e es (put k x es) lt same) ≤ length es + 2
      placed true same rest = omega arith
      placed false true rest = omega arith
      placed false false rest = omega arith

  -- and as many, where one stands there
  pub put_same : (low k : ℕ) (x y : X) (es : List (ℕ × X)) → rises_from low es ≡ true → at k es ≡ Some y → length (put k x es) ≡ length es
  put_same low k x y [] h e = absurd (cc (e))
  put_same low k x y (f ∷ fs) h e = placed (nat_lt k f.0) (k == f.0) refl refl (λ g j. put_same (f.0 + 1) k x y fs g j)
    where
      parts : (nat_le low f.0 ≡ true) × (rises_from (f.0 + 1) fs ≡ true)
      parts = and_parts (nat_le low f.0) (rises_from (f.0 + 1) fs) h

      own : rises_from f.0 (f ∷ fs) ≡ true
      own = and_from (nat_le f.0 f.0) (rises_from (f.0 + 1) fs) (le-leb f.0 f.0 (omega arith)) parts.1

      behind : (b : Bool) → (f.0 == k) ≡ b → cond b (Some f.1) (at k fs) ≡ Some y → (k == f.0) ≡ false → at k fs ≡ Some y
      behind true g found other = let same = eq-eqb k f.0 (sym (eqb-true f.0 k g)) in absurd (cc (same, other))
      behind false g found other = found

      placed : (lt same : Bool) → nat_lt k f.0 ≡ lt → (k == f.0) ≡ same →
          (rises_from (f.0 + 1) fs ≡ true → at k fs ≡ Some y → length (put k x fs) ≡ length fs) →
          length (put_here k x f fs (put k x fs) lt same) ≡ length (f ∷ fs)
      placed true same g j rest = let none = at-below f.0 (f ∷ fs) k (ltb-true k f.0 g) own in absurd (cc (none, e))
      placed false true g j rest = refl
      placed false false g j rest = let as_many = rest parts.1 (behind (f.0 == k) refl e j) in omega arith
