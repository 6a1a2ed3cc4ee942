-- Lists of records, each with its actor, with a record more.
use Rattle.std.proofs.Common.{arith, ◌≡◌, ◌≢◌, ℕ, zero, suc, ◌<◌, true, false, cond, List, [], ◌∷◌, ◌++◌, length, get_or, set, ap, sym, refl, ◌∙◌, inl, inr}
use Rattle.std.specs.Prelude.{◌==◌}
use Rattle.std.specs.List.{list_any}
use Rattle.std.proofs.lemmas.Bool.{cases_Bool, eqb-true, eq-eqb, ne_eqb}
use Rattle.edge_io.specs.Lists.{Lists, records_of, AddsRecord}

-- an actor without a list has no records
pub had_none : (lists : Lists) (actor : ℕ) → list_any (λ l. l.0 == actor) lists ≡ false → records_of actor lists ≡ []
had_none [] actor none = refl
had_none (list ∷ rest) actor none = elim (cases_Bool (list.0 == actor)) [
  | inl passes ↦ (let some = rw passes at none in cc)
  | inr fails ↦ (let later = rw fails at none in rw fails (had_none rest actor later))
]

has_new : (lists : Lists) (actor : ℕ) (records : List (List ℕ)) → list_any (λ l. l.0 == actor) lists ≡ false → records_of actor (lists ++ (actor, records) ∷ []) ≡ records
has_new [] actor records none = rw (eq-eqb actor actor refl) refl
has_new (list ∷ rest) actor records none = elim (cases_Bool (list.0 == actor)) [
  | inl passes ↦ (let some = rw passes at none in cc)
  | inr fails ↦ (let later = rw fails at none in rw fails (has_new rest actor records later))
]

others_stay : (lists : Lists) (actor : ℕ) (records : List (List ℕ)) (other : ℕ) → other ≢ actor → records_of other (lists ++ (actor, records) ∷ []) ≡ records_of other lists
others_stay [] actor records other differ = rw (ne_eqb actor other (λ e. differ (sym e))) refl
others_stay (list ∷ rest) actor records other differ = ap (λ r. cond (list.0 == other) list.1 r) (others_stay rest actor records other differ)

-- a list more, of an actor that has none, at the end
pub adds_list : (lists : Lists) (actor : ℕ) (bytes : List ℕ) → list_any (λ l. l.0 == actor) lists ≡ false → AddsRecord actor bytes lists (lists ++ (actor, bytes ∷ []) ∷ [])
adds_list lists actor bytes none = record {
  added = has_new lists actor (bytes ∷ []) none ∙ sym (ap (λ r. r ++ bytes ∷ []) (had_none lists actor none));
  others = others_stay lists actor (bytes ∷ []);
}

-- a record more at the end of the first list of the actor
pub adds_at : (lists : Lists) (place : ℕ) (actor : ℕ) (bytes : List ℕ) (d : ℕ × List (List ℕ)) → place < length lists → ((k : ℕ) → k < place → ((get_or lists k d).0 == actor) ≡ false) → ((get_or lists place d).0 == actor) ≡ true → AddsRecord actor bytes lists (set lists place ((get_or lists place d).0, (get_or lists place d).1 ++ bytes ∷ []))
adds_at [] place actor bytes d within before here = absurd (omega arith)
adds_at (list ∷ rest) zero actor bytes d within before here = record {
  added = rw here refl;
  others = λ other differ. let differs : (list.0 == other) ≡ false = ne_eqb list.0 other (λ e. differ (sym e ∙ eqb-true list.0 actor here)) in rw differs refl;
}
adds_at (list ∷ rest) (suc place) actor bytes d within before here =
    let first : (list.0 == actor) ≡ false = before 0 (omega arith) in
    let rest_adds = adds_at rest place actor bytes d (omega arith) (λ k below. before (suc k) (omega arith)) here in
    record {
      added = rw first rest_adds.added;
      others = λ other differ. ap (λ r. cond (list.0 == other) list.1 r) (rest_adds.others other differ);
    }
