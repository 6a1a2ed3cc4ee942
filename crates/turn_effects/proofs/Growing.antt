-- Lists that grow where they are told, and fronts of what they grow by.
use Rattle.std.proofs.Common.{◌≡◌, ℕ, zero, suc, ◌+◌, ◌<◌, List, [], ◌∷◌, ◌++◌, length, take, drop, Option, Some, None, refl, ap, sym, ◌∙◌, inl, inr, ⊎_elim, append_assoc}
use Rattle.std.specs.Prelude.{slice_index_or, ◌⊎◌}
use Rattle.std.proofs.Math.Seq.{take-append_seam}
use Rattle.std.proofs.lemmas.List.{append-nil, take_more, take-append-drop}
use Rattle.edge_io.specs.Edge.{Grew, GrewOrNot}

pub take_nil : {X : Type 0} (n : ℕ) → take {A = X} n [] ≡ []
take_nil zero = refl
take_nil (suc n) = refl

-- a front of what stands in the middle is a front of the whole, behind what stands before
part_first : {Y : Type 0} (one post : List Y) (n : ℕ) → (m : ℕ) × (take m (one ++ post) ≡ take n one)
part_first [] post n = (0, sym (take_nil n))
part_first (x ∷ xs) post zero = (0, refl)
part_first {Y} (x ∷ xs) post (suc n) = let k = part_first xs post n in (suc k.0, ap (λ (ys : List Y). x ∷ ys) k.1)

part_behind : {Y : Type 0} (before one post : List Y) (n : ℕ) → (m : ℕ) × (take m (before ++ (one ++ post)) ≡ before ++ take n one)
part_behind [] one post n = part_first one post n
part_behind {Y} (x ∷ xs) one post n = let k = part_behind xs one post n in (suc k.0, ap (λ (ys : List Y). x ∷ ys) k.1)

-- What is made of a list, part by part.
module _ {X Y : Type 0} (f : List X → List Y) (adds : (xs ys : List X) → f (xs ++ ys) ≡ f xs ++ f ys) (xs : List X) (i : ℕ) (x : X) (h : i < length xs)
    (e : x ≡ slice_index_or xs i x) where
  front : take (i + 1) xs ≡ take i xs ++ x ∷ []
  front = take_more xs i x h ∙ ap (λ (y : X). take i xs ++ y ∷ []) (sym e)

  -- of one more
  pub made_next : f (take (i + 1) xs) ≡ f (take i xs) ++ f (x ∷ [])
  made_next = ap f front ∙ adds (take i xs) (x ∷ [])

  -- a front of what is made of this one is a front of the whole, behind what is made of those before
  pub made_part : (n : ℕ) → (m : ℕ) × (take m (f xs) ≡ f (take i xs) ++ take n (f (x ∷ [])))
  made_part n =
      let whole : f xs ≡ f (take i xs) ++ (f (x ∷ []) ++ f (drop (i + 1) xs)) =
      ap f (sym (take-append-drop (i + 1) xs)) ∙ adds (take (i + 1) xs) (drop (i + 1) xs) ∙ ap (λ (ys : List Y). ys ++ f (drop (i + 1) xs)) made_next
      ∙ append_assoc (f (take i xs)) (f (x ∷ [])) (f (drop (i + 1) xs)) in
      let k = part_behind (f (take i xs)) (f (x ∷ [])) (f (drop (i + 1) xs)) n in
      (k.0, ap (take k.0) whole ∙ k.1)

pub grew_on : {A : Type 0} (x y z : Option (List A)) (more rest : List A) → Grew x y more → Grew y z rest → Grew x z (more ++ rest)
grew_on x y z more rest p q held e = q (held ++ more) (p held e) ∙ ap Some (append_assoc held more rest)

pub grew_none : {A : Type 0} (x y : Option (List A)) → y ≡ x → Grew x y []
grew_none x y same held e = same ∙ e ∙ ap Some (sym (append-nil held))

-- it has these more, or nothing
pub grew_or_none : {A : Type 0} (x y : Option (List A)) (more : List A) → GrewOrNot x y more → Grew x y [] ⊎ Grew x y more
grew_or_none {A} None y more g = inl (λ (held : List A) (e : None ≡ Some held). cc)
grew_or_none {A} (Some all) y more g =
    ⊎_elim
    (λ same. inl (λ (held : List A) (e : Some all ≡ Some held). same ∙ e ∙ ap Some (sym (append-nil held))))
    (λ (grew : y ≡ Some (all ++ more)). inr (λ (held : List A) (e : Some all ≡ Some held). let h : all ≡ held = cc in grew ∙ ap (λ (l : List A). Some (l ++ more)) h))
    (g all refl)

-- what was written to the front of a buffer
pub encoded : (into spelled old : List ℕ) (n : ℕ) → into ≡ spelled ++ drop (length spelled) old → n ≡ length spelled → take n into ≡ spelled
encoded into spelled old n e f =
    ap (λ (k : ℕ). take k into) f ∙ ap (take (length spelled)) e ∙ take-append_seam spelled (drop (length spelled) old)
