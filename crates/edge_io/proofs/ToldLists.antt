-- Lists of records as they are held, with a record more.
use Rattle.std.proofs.Common.{arith, ◌≡◌, ℕ, zero, suc, ◌<◌, true, List, [], ◌∷◌, ◌++◌, length, map, get_or, set, ap, sym, refl, ◌∙◌, Some, None, Vec, vec_items, false, inl, inr}
use Rattle.std.proofs.Math.ListN.{get_or-map}
use Rattle.std.proofs.lemmas.Bool.{cases_Bool}
use Rattle.std.proofs.lemmas.List.{map-set, map-append, length-map}
use Rattle.std.proofs.lemmas.List.Quantifiers.{position-Some}
use Rattle.std.specs.Prelude.{◌==◌}
use Rattle.std.specs.List.{list_any, position}
use Rattle.std.specs.declared.alloc.Global.{Global}
use Rattle.edge_io.specs.Lists.{records_of, AddsRecord}
use Rattle.edge_io.specs.Memory.{told_list}
use Rattle.edge_io.proofs.Lists.{adds_at, adds_list, had_none}
use Rattle.edge_io.proofs.Positions.{position-None}

abbrev Held : Type 0
Held = ℕ × Vec (Vec ℕ Global) Global

none_told : (items : List Held) (actor : ℕ) → list_any (λ l. l.0 == actor) items ≡ false → list_any (λ l. l.0 == actor) (map told_list items) ≡ false
none_told [] actor none = refl
none_told (item ∷ items) actor none = elim (cases_Bool (item.0 == actor)) [
  | inl passes ↦ (let some = rw passes at none in cc)
  | inr fails ↦ (let later = rw fails at none in rw fails (none_told items actor later))
]

-- a list more, of an actor that has none
pub adds_told_list : (items : List Held) (actor : ℕ) (bytes : List ℕ) (new : Held) → position (λ e. e.0 == actor) items ≡ None → told_list new ≡ (actor, bytes ∷ []) → AddsRecord actor bytes (map told_list items) (map told_list (items ++ new ∷ []))
adds_told_list items actor bytes new none is =
    rw (map-append told_list items (new ∷ []), is) (adds_list (map told_list items) actor bytes (none_told items actor (position-None (λ e. e.0 == actor) items none)))

-- a record more at the end of the first list of the actor
pub adds_told_at : (items : List Held) (place actor : ℕ) (bytes : List ℕ) (now new : Held) → position (λ e. e.0 == actor) items ≡ Some place → now ≡ get_or items place now → told_list new ≡ (now.0, map vec_items now.1.items ++ bytes ∷ []) → AddsRecord actor bytes (map told_list items) (map told_list (set items place new))
adds_told_at items place actor bytes now new found read is =
    let first = position-Some (λ e. e.0 == actor) items place now found in
    let there : (k : ℕ) → get_or (map told_list items) k (told_list now) ≡ told_list (get_or items k now) = λ k. get_or-map told_list items k now in
    let adds = adds_at (map told_list items) place actor bytes (told_list now)
    (rw length-map first.0)
    (λ k below. ap (λ l. l.0 == actor) (there k) ∙ first.2 k below)
    (ap (λ l. l.0 == actor) (there place) ∙ first.1) in
    let last : told_list new ≡ ((get_or (map told_list items) place (told_list now)).0, (get_or (map told_list items) place (told_list now)).1 ++ bytes ∷ []) =
    is ∙ ap (λ l. (l.0, l.1 ++ bytes ∷ [])) (ap told_list read ∙ sym (there place)) in
    rw (map-set told_list items place new, last) adds

records_at : (items : List Held) (place actor : ℕ) (d : Held) → place < length items → ((k : ℕ) → k < place → ((get_or items k d).0 == actor) ≡ false) → ((get_or items place d).0 == actor) ≡ true → records_of actor (map told_list items) ≡ map vec_items (get_or items place d).1.items
records_at [] place actor d within before here = absurd (omega arith)
records_at (item ∷ items) zero actor d within before here = rw here refl
records_at (item ∷ items) (suc place) actor d within before here =
    let fails : (item.0 == actor) ≡ false = before 0 (omega arith) in
    rw fails (records_at items place actor d (omega arith) (λ k below. before (suc k) (omega arith)) here)

-- an actor without a list has no records
pub records_of_none : (items : List Held) (actor : ℕ) → position (λ e. e.0 == actor) items ≡ None → records_of actor (map told_list items) ≡ []
records_of_none items actor none = had_none (map told_list items) actor (none_told items actor (position-None (λ e. e.0 == actor) items none))

-- the records of the first list of the actor
pub records_of_at : (items : List Held) (place actor : ℕ) (d : Held) → position (λ e. e.0 == actor) items ≡ Some place → records_of actor (map told_list items) ≡ map vec_items (get_or items place d).1.items
records_of_at items place actor d found = let first = position-Some (λ e. e.0 == actor) items place d found in records_at items place actor d first.0 first.2 first.1
