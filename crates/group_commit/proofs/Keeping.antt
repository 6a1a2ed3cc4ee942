-- The records of a keeper in memory.
use Rattle.std.proofs.Common.{◌≡◌, ◌<◌, ◌+◌, ℕ, true, false, List, [], ◌∷◌, ◌++◌, map, take, length, get_or, Vec, refl, ap, sym, ◌∙◌, add-one}
use Rattle.std.specs.Prelude.{◌==◌, filter}
use Rattle.std.specs.declared.alloc.Global.{Global}
use Rattle.std.proofs.Math.Seq.{take-suc}
use Rattle.std.proofs.lemmas.List.{append-nil, map-append}
use Rattle.std.proofs.lemmas.List.Elements.{filter-append}
use Rattle.group_commit.specs.Memory.{Entry, of_actor, told_entry}

pub of_more : (actor : ℕ) (a b : List Entry) → of_actor actor (a ++ b) ≡ of_actor actor a ++ of_actor actor b
of_more actor a b = ap (map (λ (e : Entry). e.1)) (filter-append (λ (e : Entry). e.0 == actor) a b) ∙ map-append (λ (e : Entry). e.1) (filter (λ (e : Entry). e.0 == actor) a) (filter (λ (e : Entry). e.0 == actor) b)

-- a record more of the actor, or of another one
pub of_own : (actor : ℕ) (e : Entry) → (e.0 == actor) ≡ true → of_actor actor (e ∷ []) ≡ e.1 ∷ []
of_own actor e own = rw own refl

pub of_other : (actor : ℕ) (e : Entry) → (e.0 == actor) ≡ false → of_actor actor (e ∷ []) ≡ []
of_other actor e other = rw other refl

abbrev Held : Type 0
Held = ℕ × Vec ℕ Global

told_next : (held : List Held) (i : ℕ) (e : Held) → i < length held → e ≡ get_or held i e → map told_entry (take (i + 1) held) ≡ map told_entry (take i held) ++ told_entry e ∷ []
told_next held i e within is =
    ap (λ n. map told_entry (take n held)) (add-one i) ∙ ap (map told_entry) (take-suc held i e within ∙ ap (λ (x : Held). take i held ++ x ∷ []) (sym is)) ∙ map-append told_entry (take i held) (e ∷ [])

pub own_next : (actor : ℕ) (held : List Held) (i : ℕ) (e : Held) → i < length held → e ≡ get_or held i e → (e.0 == actor) ≡ true →
    of_actor actor (map told_entry (take (i + 1) held)) ≡ of_actor actor (map told_entry (take i held)) ++ e.1.items ∷ []
own_next actor held i e within is own =
    ap (of_actor actor) (told_next held i e within is) ∙ of_more actor (map told_entry (take i held)) (told_entry e ∷ []) ∙ ap (λ (l : List (List ℕ)). of_actor actor (map told_entry (take i held)) ++ l) (of_own actor (told_entry e) own)

pub other_next : (actor : ℕ) (held : List Held) (i : ℕ) (e : Held) → i < length held → e ≡ get_or held i e → (e.0 == actor) ≡ false →
    of_actor actor (map told_entry (take (i + 1) held)) ≡ of_actor actor (map told_entry (take i held))
other_next actor held i e within is other =
    ap (of_actor actor) (told_next held i e within is) ∙ of_more actor (map told_entry (take i held)) (told_entry e ∷ []) ∙ ap (λ (l : List (List ℕ)). of_actor actor (map told_entry (take i held)) ++ l) (of_other actor (told_entry e) other) ∙ append-nil (of_actor actor (map told_entry (take i held)))
