-- Places where one actor takes its turns.
use Rattle.std.proofs.Common.{arith, ◌≡◌, ◌+◌, ℕ, List, [], ◌∷◌, Option, Some, Result, length, refl, ap, sym, subst, ◌∙◌}
use Rattle.std.specs.Prelude.{slice_get}
use Rattle.edge_io.specs.Told.{Receives, Told}
use Rattle.edge_io.specs.declared.endpoint.Endpoint.{Endpoint}
use Rattle.edge_io.specs.declared.refusal.Failed.{Failed}
use Rattle.fabric_turns.proofs.Places.{coming_end}
use Rattle.fabric_turns.specs.Runs.{AllListen}
use Rattle.serve_rules.specs.Events.{Event}
use Rattle.serve_rules.specs.Services.{actor_in, actor_of}
use Rattle.serve_turns.specs.Live.{Around, At, Beginning, Live}
use Rattle.serve_turns.specs.Moves.{ComesTo, Moves}
use Rattle.serve_turns.specs.Steps.{CanGoOn}
use Rattle.turn_rules.specs.Order.{TurnPosition, arrive, onward}
use Rattle.turn_rules.specs.Plans.{Plan}
use Rattle.turn_rules.specs.declared.stop_cause.StopCause.{StopCause}

-- behind its turn comes its next one
pub next_turn : (plan : Plan) (turn : ℕ) → length plan.actors ≡ 1 → onward plan turn 0 ≡ arrive plan (turn + 1) 0
next_turn plan turn one = coming_end plan turn (0 + 1) (omega (arith, one))

pub at_as : (plan : Plan) (o : Beginning) (b : Around) (l : Live) (es : List Event) (p q : TurnPosition) → p ≡ q → At plan o b l es p → At plan o b l es q
at_as plan o b l es p q e t = subst (λ (x : TurnPosition). At plan o b l es x) e t

pub comes_as : {A : Type 0} (plan : Plan) (o : Beginning) (b : Around) (l : Live) (p q : TurnPosition) (r : Result A StopCause) → p ≡ q → ComesTo plan o b l p r → ComesTo plan o b l q r
comes_as plan o b l p q r e k = subst (λ (x : TurnPosition). ComesTo plan o b l x r) e k

-- by other names of the places
pub moves_as : {A : Type 0} (plan : Plan) (b c : Around) (l l' : Live) (p q p' q' : TurnPosition) (r : Result A StopCause) → p' ≡ p → q ≡ q' → Moves plan b l p c l' q r → Moves plan b l p' c l' q' r
moves_as plan b c l l' p q p' q' r e f g o es t = comes_as plan o c l' q q' r f (g o es (at_as plan o b l es p' p e t))

-- the actor

one_in : (es : List Endpoint) → length es ≡ 1 → (e : Endpoint) × ((slice_get es 0 ≡ Some e) × (actor_in (slice_get es 0) ≡ e.actor))
one_in [] one = cc
one_in (e ∷ es) one = (e, (refl, refl))

pub one_actor : (plan : Plan) → length plan.actors ≡ 1 → (e : Endpoint) × ((slice_get plan.actors 0 ≡ Some e) × (actor_of plan ≡ e.actor))
one_actor plan one = one_in plan.actors one

-- the devices are as ready as before
pub can_on : (plan : Plan) (l : Live) (b c : Told) → c.opened ≡ b.opened → c.held ≡ b.held → CanGoOn plan l b → CanGoOn plan l c
can_on plan l b c opened held k = record {
  service = k.service;
  ready = record {
    good = k.ready.good;
    members = k.ready.members;
    listen = subst (λ (es : List Endpoint). AllListen plan es) (sym opened) k.ready.listen;
    last = k.ready.last;
  };
  runs = k.runs;
  going = k.going;
  silent = held ∙ k.silent;
}

pub can_received : (plan : Plan) (l : Live) (actor : ℕ) (into : List ℕ) (b : Told) (r : Result (Option ℕ) Failed) (c : Told) → Receives actor into b r c → CanGoOn plan l b → CanGoOn plan l c
can_received plan l actor into b r c k can = can_on plan l b c k.opened (ap (λ (t : Told). t.held) k.rest) can
