-- The one actor of a service listens, so that all of its plan do.
use Rattle.std.proofs.Common.{◌≡◌, ℕ, Bool, true, false, List, [], ◌∷◌, ◌++◌, Some, length, arith, ap, refl, sym, subst, ◌∙◌}
use Rattle.std.specs.Prelude.{◌==◌, ◌||◌, slice_get}
use Rattle.std.specs.List.{list_any}
use Rattle.std.proofs.lemmas.Bool.{eq-eqb}
use Rattle.std.proofs.lemmas.List.Folds.{list_any-append}
use Rattle.std.proofs.lemmas.Option.{slice_get_within}
use Rattle.edge_io.specs.Arrivals.{IsListening}
use Rattle.edge_io.specs.declared.endpoint.Endpoint.{Endpoint}
use Rattle.fabric_turns.specs.Runs.{AllListen}
use Rattle.serve_rules.specs.Services.{IsService, actor_in, actor_of}
use Rattle.turn_rules.specs.Plans.{Plan}

or_true : (b : Bool) → (b || true) ≡ true
or_true true = refl
or_true false = refl

-- who was opened last listens
last_listens : (opened : List Endpoint) (actor : ℕ) (at : List ℕ) → IsListening actor (opened ++ record { actor = actor; at = at } ∷ [])
last_listens opened actor at =
    let test : Endpoint → Bool = λ e. e.actor == actor in
    let last : List Endpoint = record { actor = actor; at = at } ∷ [] in
    list_any-append test opened last ∙ ap (λ (b : Bool). list_any test opened || (b || false)) (eq-eqb actor actor refl) ∙ or_true (list_any test opened)

-- an endpoint at the first place is the one that the plan's actor is read from
first_is : (es : List Endpoint) (e : Endpoint) → slice_get es 0 ≡ Some e → actor_in (slice_get es 0) ≡ e.actor
first_is es e found = ap actor_in found

-- a list of one has no other place
only_first : (es : List Endpoint) (place : ℕ) (e : Endpoint) → length es ≡ 1 → slice_get es place ≡ Some e → slice_get es 0 ≡ Some e
only_first es place e one found =
    let within = slice_get_within es place e found in
    let first : place ≡ 0 = omega (arith, one, within) in
    subst (λ (k : ℕ). slice_get es k ≡ Some e) first found

-- where the actor of a service was opened, each actor of its plan listens
pub all_listen : (plan : Plan) (opened : List Endpoint) (at : List ℕ) → IsService plan → AllListen plan (opened ++ record { actor = actor_of plan; at = at } ∷ [])
all_listen plan opened at service place e found =
    let first = only_first plan.actors place e service.alone found in
    subst (λ (a : ℕ). IsListening a (opened ++ record { actor = actor_of plan; at = at } ∷ [])) (first_is plan.actors e first) (last_listens opened (actor_of plan) at)

-- the same of what it has opened
pub now_listen : (plan : Plan) (before after : List Endpoint) (actor : ℕ) (at : List ℕ) → IsService plan → actor ≡ actor_of plan → after ≡ before ++ record { actor = actor; at = at } ∷ [] → AllListen plan after
now_listen plan before after actor at service same grown =
    subst (λ (es : List Endpoint). AllListen plan es) (sym (grown ∙ ap (λ (a : ℕ). before ++ record { actor = a; at = at } ∷ []) same)) (all_listen plan before at service)

one_in : (es : List Endpoint) → length es ≡ 1 → (e : Endpoint) × ((slice_get es 0 ≡ Some e) × (actor_in (slice_get es 0) ≡ e.actor))
one_in [] one = cc
one_in (e ∷ es) one = (e, (refl, refl))

-- where each actor of its plan listens, the one actor of a service does
pub own_listens : (plan : Plan) (opened : List Endpoint) (actor : ℕ) → IsService plan → AllListen plan opened → actor ≡ actor_of plan → IsListening actor opened
own_listens plan opened actor service listens same =
    let one = one_in plan.actors service.alone in
    subst (λ (a : ℕ). IsListening a opened) (sym (same ∙ one.1.1)) (listens 0 one.0 one.1.0)
