-- The actors of a process listen, one after another.
use Rattle.std.proofs.Common.{◌≡◌, ◌+◌, ℕ, Bool, true, false, List, [], ◌∷◌, ◌++◌, inl, inr, arith, ap, refl, ◌∙◌, ltb}
use Rattle.std.specs.Prelude.{◌==◌, ◌||◌}
use Rattle.std.specs.List.{list_any}
use Rattle.std.proofs.lemmas.Bool.{cases_Bool, eq-eqb, ltb-false, ltb-true}
use Rattle.std.proofs.lemmas.List.Folds.{list_any-append}
use Rattle.edge_io.specs.Arrivals.{IsListening}
use Rattle.edge_io.specs.declared.endpoint.Endpoint.{Endpoint}
use Rattle.part_tests.specs.Listeners.{AllListen}

or_true : (b : Bool) → (b || true) ≡ true
or_true true = refl
or_true false = refl

-- behind those below a number, its own actor listens too
pub one_more : (count : ℕ) (opened : List Endpoint) (at : List ℕ) → AllListen count opened → AllListen (count + 1) (opened ++ record { actor = count; at = at } ∷ [])
one_more count opened at all actor lower =
    let test : Endpoint → Bool = λ e. e.actor == actor in
    let last : List Endpoint = record { actor = count; at = at } ∷ [] in
    elim (cases_Bool (ltb actor count)) [
      | inl below ↦ list_any-append test opened last ∙ ap (λ (b : Bool). b || list_any test last) (all actor (ltb-true actor count below))
      | inr above ↦ (
          let same : count ≡ actor = (let least = ltb-false _ _ above in omega (arith, least, lower)) in
          list_any-append test opened last ∙ ap (λ (b : Bool). list_any test opened || (b || false)) (eq-eqb count actor same) ∙ or_true (list_any test opened)
          )
    ]

-- who was opened last listens
pub last_listens : (opened : List Endpoint) (actor : ℕ) (at : List ℕ) → IsListening actor (opened ++ record { actor = actor; at = at } ∷ [])
last_listens opened actor at =
    let test : Endpoint → Bool = λ e. e.actor == actor in
    let last : List Endpoint = record { actor = actor; at = at } ∷ [] in
    list_any-append test opened last ∙ ap (λ (b : Bool). list_any test opened || (b || false)) (eq-eqb actor actor refl) ∙ or_true (list_any test opened)
