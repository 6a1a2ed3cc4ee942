-- What stands at a place of a list or at a number of a map, where each value is in range.
use Rattle.std.proofs.Common.{◌≡◌, ℕ, Bool, true, false, cond, not, List, [], ◌∷◌, Some, subst}
use Rattle.std.specs.Prelude.{◌==◌, All, nat_lt, slice_get}
use Rattle.std.proofs.lemmas.List.Elements.{All-cons, All-filter, All-get_or, All-head, All-tail}
use Rattle.std.proofs.lemmas.Option.{get_or_from_slice_get, slice_get_within}
use Rattle.fabric_lemmas.specs.Maps.{at, put, put_here, without}

pub got_all : {X : Type 0} (P : X → Type 0) (xs : List X) (k : ℕ) (x : X) → All P xs → slice_get xs k ≡ Some x → P x
got_all P xs k x h e = subst P (get_or_from_slice_get xs k x x e) (All-get_or P xs k x (slice_get_within xs k x e) h)

module _ {X : Type 0} (P : X → Type 0) where
  abbrev pub Each : List (ℕ × X) → Type 0
  Each es = All (λ e. P e.1) es

  pub put_each : (k : ℕ) (x : X) (es : List (ℕ × X)) → P x → Each es → Each (put k x es)
  put_each k x [] h m = All-cons (λ e. P e.1) (k, x) [] h m
  put_each k x (e ∷ es) h m = placed (nat_lt k e.0) (k == e.0) (put_each k x es h (All-tail (λ e. P e.1) e es m))
    where
      placed : (lt same : Bool) → Each (put k x es) → Each (put_here k x e es (put k x es) lt same)
      placed true same rest = All-cons (λ e. P e.1) (k, x) (e ∷ es) h m
      placed false true rest = All-cons (λ e. P e.1) (k, x) es h (All-tail (λ e. P e.1) e es m)
      placed false false rest = All-cons (λ e. P e.1) e (put k x es) (All-head (λ e. P e.1) e es m) rest

  pub without_each : (k : ℕ) (es : List (ℕ × X)) → Each es → Each (without k es)
  without_each k es h = All-filter (λ e. not (e.0 == k)) (λ e. P e.1) es h

  pub at_each : (k : ℕ) (es : List (ℕ × X)) (x : X) → Each es → at k es ≡ Some x → P x
  at_each k [] x h e = absurd (cc (e))
  at_each k (f ∷ fs) x h e = by_test (f.0 == k) (at_each k fs x (All-tail (λ e. P e.1) f fs h)) e
    where
      by_test : (b : Bool) → (at k fs ≡ Some x → P x) → cond b (Some f.1) (at k fs) ≡ Some x → P x
      by_test true rest g = let same : f.1 ≡ x = cc (g) in subst P same (All-head (λ e. P e.1) f fs h)
      by_test false rest g = rest g
