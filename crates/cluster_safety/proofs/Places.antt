-- What the place of a process says of its turn, and of the commands that are to come.
use Rattle.std.proofs.Common.{arith, ◌≡◌, ◌≤◌, ◌+◌, ℕ, suc, Bool, true, false, cond, List, [], ◌∷◌, length, map, filter, Some, None, refl, ap, sym, subst, ◌∙◌}
use Rattle.std.specs.Prelude.{◌==◌, ◌&&◌, nat_lt, slice_get, if◌then◌else◌}
use Rattle.std.proofs.lemmas.Bool.{eqb-true}
use Rattle.std.proofs.lemmas.Bool.Decides.{nat_tests}
use Rattle.edge_io.specs.declared.endpoint.Endpoint.{Endpoint}
use Rattle.fabric_terms.specs.declared.command.Command.{Command}
use Rattle.fabric_terms.specs.declared.config.FabricConfig.{FabricConfig}
use Rattle.turn_rules.specs.Happenings.{Datagram, Absent, Failed, Comes, Begins, Turns, Bids, Hears, Fires, Rests, History}
use Rattle.turn_rules.specs.Order.{Busy, Doing, Firing, GoesServed, IsServedOrder, TurnPosition, Starting, Turning, arrive, coming, hearing, onward, heard_all}
use Rattle.turn_rules.specs.Plans.{Plan, commands_in, is_node_at, is_order_at}
use Rattle.turn_rules.specs.declared.order.Order.{Order}
use Rattle.world_rules.specs.Schedules.{command_names}
use Rattle.cluster_safety.specs.Plans.{IsClusterPlan}

-- the actor may be told each of these
abbrev pub AllNamed : FabricConfig → ℕ → List Command → Type 0
AllNamed c actor [] = Unit {0}
AllNamed c actor (d ∷ ds) = (command_names c actor d ≡ true) × AllNamed c actor ds

abbrev pub AreNamed : Plan → ℕ → List Command → Type 0
AreNamed plan at ds = (e : Endpoint) → slice_get plan.actors at ≡ Some e → AllNamed plan.config e.actor ds

-- starts are turn 0; a node alone has readings and firings
abbrev pub Stands : Plan → ℕ → ℕ → Doing → Type 0
Stands plan turn at Starting = turn ≡ 0
Stands plan turn at Turning = (1 ≤ turn) × (is_node_at plan at ≡ true)
Stands plan turn at (Busy left n) = (1 ≤ turn) × AreNamed plan at left
Stands plan turn at Firing = (1 ≤ turn) × (is_node_at plan at ≡ true)

abbrev pub StandsAt : Plan → TurnPosition → Type 0
StandsAt plan p = Stands plan p.turn p.at p.doing

stands_arrive : (plan : Plan) (turn at : ℕ) → StandsAt plan (arrive plan turn at)
stands_arrive plan turn at = by_tests (turn == 0) refl (is_node_at plan at) refl
  where
    by_tests : (z : Bool) → (turn == 0) ≡ z → (b : Bool) → is_node_at plan at ≡ b → Stands plan turn at (if z then Starting else if b then Turning else Busy [] 0)
    by_tests true e b f = eqb-true turn 0 e
    by_tests false e true f = (grind (arith, nat_tests), f)
    by_tests false e false f = (grind (arith, nat_tests), λ d h. tt)

stands_coming : (plan : Plan) (turn at : ℕ) → StandsAt plan (coming plan turn at)
stands_coming plan turn at = by_test (nat_lt at (length plan.actors))
  where
    by_test : (b : Bool) → StandsAt plan (if b then arrive plan turn at else arrive plan (turn + 1) 0)
    by_test true = stands_arrive plan turn at
    by_test false = stands_arrive plan (turn + 1) 0

stands_heard_all : (plan : Plan) (turn at : ℕ) → 1 ≤ turn → StandsAt plan (heard_all plan turn at)
stands_heard_all plan turn at le = by_test (is_node_at plan at) refl
  where
    by_test : (b : Bool) → is_node_at plan at ≡ b → StandsAt plan (if b then record { turn = turn; at = at; doing = Firing } else onward plan turn at)
    by_test true e = (le, e)
    by_test false e = stands_coming plan turn (at + 1)

stands_hearing : (plan : Plan) (turn at n : ℕ) → 1 ≤ turn → StandsAt plan (hearing plan turn at n)
stands_hearing plan turn at n le = by_test (nat_lt n 64)
  where
    by_test : (b : Bool) → StandsAt plan (if b then record { turn = turn; at = at; doing = Busy [] n } else heard_all plan turn at)
    by_test true = (le, λ d h. tt)
    by_test false = stands_heard_all plan turn at le

-- the commands of a turn are commands of the plan
named_in : (plan : Plan) (turn at : ℕ) (e : Endpoint) → slice_get plan.actors at ≡ Some e → (os : List Order) →
    ((k : ℕ) (o : Order) (d : Endpoint) → slice_get os k ≡ Some o → slice_get plan.actors o.place ≡ Some d → command_names plan.config d.actor o.command ≡ true) →
    AllNamed plan.config e.actor (commands_in turn at os)
named_in plan turn at e here [] named = tt
named_in plan turn at e here (o ∷ os) named = by_tests (o.turn == turn) (o.place == at) refl (named_in plan turn at e here os (λ k. named (suc k)))
  where
    by_tests : (a b : Bool) → (o.place == at) ≡ b → AllNamed plan.config e.actor (commands_in turn at os) →
        AllNamed plan.config e.actor (map (λ x. x.command) (cond (a && b) (o ∷ filter (is_order_at turn at) os) (filter (is_order_at turn at) os)))
    by_tests true true f rest = (named 0 o e refl (ap (slice_get plan.actors) (eqb-true o.place at f) ∙ here), rest)
    by_tests true false f rest = rest
    by_tests false b f rest = rest

stands_next : (plan : Plan) (turn at : ℕ) (doing : Doing) (x : Comes) (p : TurnPosition) → IsClusterPlan plan → Stands plan turn at doing → GoesServed plan turn at doing x p → StandsAt plan p
stands_next plan turn at Starting (Begins None) p cp s g = subst (StandsAt plan) (sym g.1) (stands_coming plan turn (at + 1))
stands_next plan turn at Starting (Begins (Some reading)) p cp s g = subst (StandsAt plan) (sym g.1) (stands_coming plan turn (at + 1))
stands_next plan turn at Starting (Turns reading) p cp s g = absurd g
stands_next plan turn at Starting (Bids command) p cp s g = absurd g
stands_next plan turn at Starting (Hears answer) p cp s g = absurd g
stands_next plan turn at Starting Fires p cp s g = absurd g
stands_next plan turn at Starting Rests p cp s g = absurd g
stands_next plan turn at Turning (Begins reading) p cp s g = absurd g
stands_next plan turn at Turning (Turns reading) p cp s g =
    subst (StandsAt plan) (sym g) (s.0, λ e here. named_in plan turn at e here plan.orders cp.named)
stands_next plan turn at Turning (Bids command) p cp s g = absurd g
stands_next plan turn at Turning (Hears answer) p cp s g = absurd g
stands_next plan turn at Turning Fires p cp s g = absurd g
stands_next plan turn at Turning Rests p cp s g = absurd g
stands_next plan turn at (Busy [] n) (Begins reading) p cp s g = absurd g
stands_next plan turn at (Busy [] n) (Turns reading) p cp s g = absurd g
stands_next plan turn at (Busy [] n) (Bids command) p cp s g = subst (StandsAt plan) (sym g.2) s
stands_next plan turn at (Busy [] n) (Hears (Datagram bytes)) p cp s g = subst (StandsAt plan) (sym g) (stands_hearing plan turn at (n + 1) s.0)
stands_next plan turn at (Busy [] n) (Hears Absent) p cp s g = subst (StandsAt plan) (sym g) (stands_heard_all plan turn at s.0)
stands_next plan turn at (Busy [] n) (Hears Failed) p cp s g = subst (StandsAt plan) (sym g) (stands_heard_all plan turn at s.0)
stands_next plan turn at (Busy [] n) Fires p cp s g = absurd g
stands_next plan turn at (Busy [] n) Rests p cp s g = absurd g
stands_next plan turn at (Busy (d ∷ ds) n) (Begins reading) p cp s g = absurd g
stands_next plan turn at (Busy (d ∷ ds) n) (Turns reading) p cp s g = absurd g
stands_next plan turn at (Busy (d ∷ ds) n) (Bids command) p cp s g = subst (StandsAt plan) (sym g.1) (s.0, λ e here. (s.1 e here).1)
stands_next plan turn at (Busy (d ∷ ds) n) (Hears answer) p cp s g = absurd g
stands_next plan turn at (Busy (d ∷ ds) n) Fires p cp s g = absurd g
stands_next plan turn at (Busy (d ∷ ds) n) Rests p cp s g = absurd g
stands_next plan turn at Firing (Begins reading) p cp s g = absurd g
stands_next plan turn at Firing (Turns reading) p cp s g = absurd g
stands_next plan turn at Firing (Bids command) p cp s g = absurd g
stands_next plan turn at Firing (Hears answer) p cp s g = absurd g
stands_next plan turn at Firing Fires p cp s g = subst (StandsAt plan) (sym g) (stands_coming plan turn (at + 1))
stands_next plan turn at Firing Rests p cp s g = subst (StandsAt plan) (sym g) (stands_coming plan turn (at + 1))

pub stands : (plan : Plan) (h : History) (p : TurnPosition) → IsClusterPlan plan → IsServedOrder plan h p → StandsAt plan p
stands plan [] p cp o = subst (StandsAt plan) (sym o) (stands_arrive plan 0 0)
stands plan (x ∷ h) p cp o = let q = o.0 in stands_next plan q.turn q.at q.doing x.comes p cp (stands plan h q cp o.1.0) o.1.1.goes

-- Turns do not fall.

pub on_coming : (plan : Plan) (turn at : ℕ) → turn ≤ (coming plan turn at).turn
on_coming plan turn at = by_test (nat_lt at (length plan.actors))
  where
    by_test : (b : Bool) → turn ≤ (if b then arrive plan turn at else arrive plan (turn + 1) 0).turn
    by_test true = omega arith
    by_test false = omega arith

pub on_heard_all : (plan : Plan) (turn at : ℕ) → turn ≤ (heard_all plan turn at).turn
on_heard_all plan turn at = by_test (is_node_at plan at)
  where
    by_test : (b : Bool) → turn ≤ (if b then record { turn = turn; at = at; doing = Firing } else onward plan turn at).turn
    by_test true = omega arith
    by_test false = on_coming plan turn (at + 1)

pub on_hearing : (plan : Plan) (turn at n : ℕ) → turn ≤ (hearing plan turn at n).turn
on_hearing plan turn at n = by_test (nat_lt n 64)
  where
    by_test : (b : Bool) → turn ≤ (if b then record { turn = turn; at = at; doing = Busy [] n } else heard_all plan turn at).turn
    by_test true = omega arith
    by_test false = on_heard_all plan turn at

pub turns_on : (turn : ℕ) (p q : TurnPosition) → turn ≤ q.turn → p ≡ q → turn ≤ p.turn
turns_on turn p q le e = subst (λ (r : TurnPosition). turn ≤ r.turn) (sym e) le
