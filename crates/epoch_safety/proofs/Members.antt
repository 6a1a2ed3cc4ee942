-- Elements of lists, by their places and as members.
use Rattle.std.proofs.Common.{◌≡◌, ℕ, zero, suc, ◌<◌, List, [], ◌∷◌, length, sym, inl, inr, arith}
use Rattle.std.specs.Prelude.{Contains, slice_index_or}
use Rattle.fabric_lemmas.specs.Members.{IsMember}

pub contained : {X : Type 0} (x : X) (xs : List X) → Contains xs x → IsMember x xs
contained {X = X} x xs h = go xs h.0 h.1 h.2
  where
    go : (xs : List X) (k : ℕ) → k < length xs → slice_index_or xs k x ≡ x → IsMember x xs
    go [] k lt e = absurd (omega arith)
    go (y ∷ ys) zero lt e = inl (sym e)
    go (y ∷ ys) (suc k) lt e = inr (go ys k (omega arith) e)
