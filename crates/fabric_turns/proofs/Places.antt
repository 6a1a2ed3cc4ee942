-- Places of a run.
use Rattle.std.proofs.Common.{arith, ◌≡◌, ◌<◌, ◌≤◌, ◌+◌, ℕ, Bool, true, false, [], length, Result, ap, sym, subst, ◌∙◌, ⊎_elim, nat_lt}
use Rattle.std.specs.Prelude.{◌==◌, if◌then◌else◌}
use Rattle.std.proofs.lemmas.Bool.Decides.{nat_tests, eqb_tells}
use Rattle.fabric_turns.specs.Moves.{Asks, Goes, Leads, at_place}
use Rattle.fabric_turns.specs.Runs.{Run}
use Rattle.edge_io.specs.Told.{Told}
use Rattle.std.specs.Prelude.{Ok}
use Rattle.turn_rules.specs.Order.{TurnPosition, Starting, Turning, Busy, Firing, arrive, coming, onward, heard_all, hearing}
use Rattle.turn_rules.specs.Plans.{Plan, Setting, is_node_at}
use Rattle.turn_rules.specs.declared.stop_cause.StopCause.{StopCause}

-- Places.

below : (x y : ℕ) → x < y → nat_lt x y ≡ true
below x y h = grind (arith, nat_tests)

not_below : (x y : ℕ) → y ≤ x → nat_lt x y ≡ false
not_below x y h = grind (arith, nat_tests)

pub coming_at : (plan : Plan) (turn at : ℕ) → at < length plan.actors → coming plan turn at ≡ arrive plan turn at
coming_at plan turn at h = ap (λ (b : Bool). if b then arrive plan turn at else arrive plan (turn + 1) 0) (below at (length plan.actors) h)

pub coming_end : (plan : Plan) (turn at : ℕ) → length plan.actors ≤ at → coming plan turn at ≡ arrive plan (turn + 1) 0
coming_end plan turn at h = ap (λ (b : Bool). if b then arrive plan turn at else arrive plan (turn + 1) 0) (not_below at (length plan.actors) h)

no_start : (turn : ℕ) → 0 < turn → (turn == 0) ≡ false
no_start turn h = ⊎_elim (λ (same : ((turn == 0) ≡ true) × (turn ≡ 0)). absurd (omega (arith, same.1))) (λ differ. differ.0) (eqb_tells turn 0)

pub node_arrives : (plan : Plan) (turn at : ℕ) → 0 < turn → is_node_at plan at ≡ true → arrive plan turn at ≡ at_place turn at Turning
node_arrives plan turn at h node =
    ap (λ (b : Bool). at_place turn at (if b then Starting else if is_node_at plan at then Turning else Busy [] 0)) (no_start turn h)
    ∙ ap (λ (b : Bool). at_place turn at (if b then Turning else Busy [] 0)) node

pub arbiter_arrives : (plan : Plan) (turn at : ℕ) → 0 < turn → is_node_at plan at ≡ false → arrive plan turn at ≡ at_place turn at (Busy [] 0)
arbiter_arrives plan turn at h arbiter =
    ap (λ (b : Bool). at_place turn at (if b then Starting else if is_node_at plan at then Turning else Busy [] 0)) (no_start turn h)
    ∙ ap (λ (b : Bool). at_place turn at (if b then Turning else Busy [] 0)) arbiter

pub node_heard_all : (plan : Plan) (turn at : ℕ) → is_node_at plan at ≡ true → heard_all plan turn at ≡ at_place turn at Firing
node_heard_all plan turn at node = ap (λ (b : Bool). if b then at_place turn at Firing else onward plan turn at) node

pub arbiter_heard_all : (plan : Plan) (turn at : ℕ) → is_node_at plan at ≡ false → heard_all plan turn at ≡ onward plan turn at
arbiter_heard_all plan turn at arbiter = ap (λ (b : Bool). if b then at_place turn at Firing else onward plan turn at) arbiter

pub hears_on : (plan : Plan) (turn at n : ℕ) → n < 64 → hearing plan turn at n ≡ at_place turn at (Busy [] n)
hears_on plan turn at n h = ap (λ (b : Bool). if b then at_place turn at (Busy [] n) else heard_all plan turn at) (below n 64 h)

-- by other names of the places

pub goes_as : (s : Setting) (b c : Told) (run run' : Run) (p q p' q' : TurnPosition) (r : Result (Unit {0}) StopCause) → p' ≡ p → q ≡ q' → Goes s b run p c run' q r → Goes s b run p' c run' q' r
goes_as s b c run run' p q p' q' r e f g = subst (λ (x : TurnPosition). Goes s b run x c run' q' r) (sym e) (subst (λ (y : TurnPosition). Goes s b run p c run' y r) f g)

pub leads_to : (s : Setting) (b c : Told) (run run' : Run) (p q q' : TurnPosition) → q ≡ q' → Leads s b run p c run' q → Leads s b run p c run' q'
leads_to s b c run run' p q q' f g = subst (λ (y : TurnPosition). Leads s b run p c run' y) f g

-- by another name of its number, a turn of all actors
pub turn_numbered : (s : Setting) (b c : Told) (run run' : Run) (n m : ℕ) (r : Result (Unit {0}) StopCause) → n ≡ m → Goes s b run (arrive s.plan n 0) c run' (arrive s.plan (n + 1) 0) r → Goes s b run (arrive s.plan m 0) c run' (arrive s.plan (m + 1) 0) r
turn_numbered s b c run run' n m r e g = subst (λ (k : ℕ). Goes s b run (arrive s.plan k 0) c run' (arrive s.plan (k + 1) 0) r) e g

-- what a question was answered
pub asks_none : (s : Setting) (b c : Told) (run run' : Run) (p more none : TurnPosition) (answer : Bool) → answer ≡ false → Asks s b run p c run' more none (Ok answer) → Leads s b run p c run' none
asks_none s b c run run' p more none true e k = cc
asks_none s b c run run' p more none false e k = k

pub asks_more : (s : Setting) (b c : Told) (run run' : Run) (p more none : TurnPosition) (answer : Bool) → answer ≡ true → Asks s b run p c run' more none (Ok answer) → Leads s b run p c run' more
asks_more s b c run run' p more none true e k = k
asks_more s b c run run' p more none false e k = cc
