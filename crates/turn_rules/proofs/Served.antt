-- Whatever comes in a run of a plan may come in a served run, and a turn that rests does nothing.
use Rattle.std.proofs.Common.{◌≡◌, ℕ, [], ◌∷◌, Option, Some, refl, ap}
use Rattle.std.specs.Prelude.{slice_get}
use Rattle.turn_rules.specs.Happenings.{Comes, Begins, Turns, Bids, Hears, Fires, Rests}
use Rattle.turn_rules.specs.Laws.{IsIdleTurn, PlansAreServed, RestsAreIdle}
use Rattle.turn_rules.specs.Order.{Doing, Starting, Turning, Busy, Extends, Firing, Goes, GoesServed, TurnPosition}
use Rattle.turn_rules.specs.Plans.{Plan, Setting}
use Rattle.turn_rules.specs.Process.{Process, rests_at}
use Rattle.turn_rules.specs.Steps.{Arbiter, Member, Node, rested}

pub goes_served : Extends GoesServed
goes_served plan turn at Starting x p g = g
goes_served plan turn at Turning x p g = g
goes_served plan turn at (Busy (c ∷ cs) n) x p g = g
goes_served plan turn at (Busy [] n) (Begins reading) p g = g
goes_served plan turn at (Busy [] n) (Turns reading) p g = g
goes_served plan turn at (Busy [] n) (Bids command) p g = absurd g
goes_served plan turn at (Busy [] n) (Hears answer) p g = g
goes_served plan turn at (Busy [] n) Fires p g = g
goes_served plan turn at (Busy [] n) Rests p g = g
goes_served plan turn at Firing (Begins reading) p g = g
goes_served plan turn at Firing (Turns reading) p g = g
goes_served plan turn at Firing (Bids command) p g = g
goes_served plan turn at Firing (Hears answer) p g = g
goes_served plan turn at Firing Fires p g = g
goes_served plan turn at Firing Rests p g = absurd g

-- in a run of a plan no turn rests
pub never_rests : (plan : Plan) (turn at : ℕ) (doing : Doing) (p : TurnPosition) → Goes plan turn at doing Rests p → ⊥
never_rests plan turn at Starting p g = g
never_rests plan turn at Turning p g = g
never_rests plan turn at (Busy [] n) p g = g
never_rests plan turn at (Busy (c ∷ cs) n) p g = g
never_rests plan turn at Firing p g = g

pub plans_are_served : PlansAreServed
plans_are_served plan [] p o = o
plans_are_served plan (h ∷ hs) p o =
    let n = o.1.1 in
    let q = o.0 in
    (q, (plans_are_served plan hs q o.1.0, record { turn = n.turn; place = n.place; goes = goes_served plan q.turn q.at q.doing h.comes p n.goes }))

idle_turn : (s : Setting) (turn place : ℕ) (p : Process) (m : Member) → slice_get p.members place ≡ Some m → IsIdleTurn s turn place p
idle_turn s turn place p (Node n) here = record {
  step = rested turn p.last (Node n);
  is = ap (λ (o : Option Member). rests_at turn p o) here;
  nothing = (refl, refl, refl);
}
idle_turn s turn place p (Arbiter number a) here = record {
  step = rested turn p.last (Arbiter number a);
  is = ap (λ (o : Option Member). rests_at turn p o) here;
  nothing = (refl, refl, refl);
}

pub rests_are_idle : RestsAreIdle
rests_are_idle = idle_turn
