-- What is to arrive at an actor, before and after its next arrival is taken.
use Rattle.std.proofs.Common.{arith, ◌≡◌, ◌≢◌, ℕ, zero, suc, ◌<◌, false, true, List, [], ◌∷◌, length, map, get_or, ap, sym, refl, ◌∙◌, Option, Some, None, Vec, inl, inr}
use Rattle.std.specs.Prelude.{◌==◌}
use Rattle.std.specs.List.{list_any, position, remove}
use Rattle.std.specs.declared.alloc.Global.{Global}
use Rattle.std.proofs.lemmas.Bool.{cases_Bool, eqb-true, ne_eqb}
use Rattle.std.proofs.lemmas.List.Quantifiers.{position-Some}
use Rattle.edge_io.specs.Memory.{told_datagram, told_arrival, arrivals_at}
use Rattle.edge_io.proofs.Positions.{position-None}

abbrev Held : Type 0
Held = ℕ × Option (Vec ℕ Global)

-- what the held arrivals say is to arrive at the actor
abbrev pub at : ℕ → List Held → List (Option (List ℕ))
at actor held = arrivals_at actor (map told_arrival held)

none_left : (held : List Held) (actor : ℕ) → list_any (λ e. e.0 == actor) held ≡ false → at actor held ≡ []
none_left [] actor none = refl
none_left (first ∷ held) actor none = elim (cases_Bool (first.0 == actor)) [
  | inl passes ↦ (let some = rw passes at none in cc)
  | inr fails ↦ (let later = rw fails at none in rw fails (none_left held actor later))
]

-- nothing is left to arrive
pub none_arrives : (held : List Held) (actor : ℕ) → position (λ e. e.0 == actor) held ≡ None → at actor held ≡ []
none_arrives held actor none = none_left held actor (position-None (λ e. e.0 == actor) held none)

next_at : (held : List Held) (place actor : ℕ) (d : Held) → place < length held → ((k : ℕ) → k < place → ((get_or held k d).0 == actor) ≡ false) → ((get_or held place d).0 == actor) ≡ true → at actor held ≡ told_datagram (get_or held place d).1 ∷ at actor (remove held place)
next_at [] place actor d within before here = absurd (omega arith)
next_at (first ∷ held) zero actor d within before here = rw here refl
next_at (first ∷ held) (suc place) actor d within before here =
    let fails : (first.0 == actor) ≡ false = before 0 (omega arith) in
    rw fails (next_at held place actor d (omega arith) (λ k below. before (suc k) (omega arith)) here)

others_at : (held : List Held) (place actor : ℕ) (d : Held) (other : ℕ) → place < length held → ((get_or held place d).0 == actor) ≡ true → other ≢ actor → at other (remove held place) ≡ at other held
others_at [] place actor d other within here differ = absurd (omega arith)
others_at (first ∷ held) zero actor d other within here differ =
    let fails : (first.0 == other) ≡ false = ne_eqb first.0 other (λ e. differ (sym e ∙ eqb-true first.0 actor here)) in rw fails refl
others_at (first ∷ held) (suc place) actor d other within here differ = elim (cases_Bool (first.0 == other)) [
  | inl passes ↦ rw passes (ap (λ rest. told_datagram first.1 ∷ rest) (others_at held place actor d other (omega arith) here differ))
  | inr fails ↦ rw fails (others_at held place actor d other (omega arith) here differ)
]

-- the first arrival of the actor is the next, and it is gone where it is removed
pub next_arrives : (held : List Held) (place actor : ℕ) (d : Held) → position (λ e. e.0 == actor) held ≡ Some place → at actor held ≡ told_datagram (get_or held place d).1 ∷ at actor (remove held place)
next_arrives held place actor d found = let first = position-Some (λ e. e.0 == actor) held place d found in next_at held place actor d first.0 first.2 first.1

pub others_stay : (held : List Held) (place actor : ℕ) (d : Held) → position (λ e. e.0 == actor) held ≡ Some place → (other : ℕ) → other ≢ actor → at other (remove held place) ≡ at other held
others_stay held place actor d found other differ = let first = position-Some (λ e. e.0 == actor) held place d found in others_at held place actor d other first.0 first.1 differ
