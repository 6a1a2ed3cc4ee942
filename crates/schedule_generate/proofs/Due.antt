-- The events of a generated schedule name what is there.
use Rattle.std.proofs.Common.{◌≡◌, ℕ, ◌+◌, ◌-◌, ◌≤◌, ◌<◌, zero, suc, Bool, true, false, cond, not, List, [], ◌∷◌, ◌++◌, length, get_or, take, map, Option, Some, None, refl, ap, sym, subst, ◌∙◌, arith, nat_lt, nat_le}
use Rattle.std.specs.Prelude.{◌==◌, ◌&&◌, ◌||◌, ◌%◌, is_some}
use Rattle.std.specs.List.{list_any}
use Rattle.std.proofs.lemmas.Bool.{and_from, eq-eqb}
use Rattle.std.proofs.lemmas.Bool.Decides.{nat_tests}
use Rattle.unit_rules.specs.Fabric.{fabric}
use Rattle.fabric_lemmas.proofs.Maps.{at-put}
use Rattle.fabric_lemmas.specs.Maps.{at, put}
use Rattle.fabric_terms.specs.declared.config.FabricConfig.{FabricConfig}
use Rattle.fabric_terms.specs.declared.event.Event.{Event}
use Rattle.fabric_terms.specs.declared.event.Event.TheVariants.{Fire, Give}
use Rattle.ring_rules.specs.declared.input.Input.{Input}
use Rattle.ring_world.specs.Answers.{Refuses}
use Rattle.frame_format.specs.Kinds.{is_frame}
use Rattle.unit_rules.specs.Ruled.{ruled}
use Rattle.ring_world.specs.declared.world.EventRefusal.{EventRefusal}
use Rattle.ring_world.specs.declared.world.EventRefusal.TheVariants as refusal
use Rattle.run_facts.proofs.Happens.{by_cases}
use Rattle.world_rules.specs.Events.{acts_at, world_step}
use Rattle.world_rules.specs.Runs.{History}
use Rattle.world_rules.specs.Schedules.{MayCome, is_configured_node, is_there, keeps_bound, node_runs, runs_as}
use Rattle.world_rules.specs.Worlds.{Running, World}
use Rattle.schedule_generate.specs.Course.{Course, arbiter_starts, asks_first, considered_next, considers, fires, gives_of, may_come, next_line, node_starts, opening, running, taken, taken_all, taken_if, taken_unless, turn_of}
use Rattle.schedule_generate.specs.Due.{AreDue}
use Rattle.schedule_generate.specs.Goes.{IsLimit}
use Rattle.schedule_generate.specs.Moves.{event_for, events_for}
use Rattle.schedule_generate.specs.Settings.{entry_of_node, generated_config, numbers_from}
use Rattle.schedule_generate.specs.declared.moves.Move.{Move}
use Rattle.schedule_generate.proofs.Steps.{taken_all_sticks, taken_may, taken_not}
use Rattle.rand_pcg.specs.Pcg.{pcg32}

-- an event that may come is refused for a limit alone
pub for_a_limit : (r : EventRefusal) (c : FabricConfig) (h : History) (e : Event) → MayCome is_frame c (ruled c h) e → Refuses r c h e → IsLimit r
for_a_limit refusal.NoSuch c h e may f = absurd (cc (may.there, f))
for_a_limit (refusal.DriftBroken broken) c h e may f = absurd (cc (may.bound, f.1))
for_a_limit refusal.TooLarge c h e may f = tt
for_a_limit refusal.OutOfMemory c h e may f = tt

-- one of some that are due
pub due_at : (c : FabricConfig) (moves : List Move) (i : ℕ) (d : Move) (g : Course) → i < length moves → AreDue c g.history (events_for moves) → g.refused ≡ None
    → (taken_all c (events_for (take i moves)) g).refused ≡ None → MayCome is_frame c (ruled c (taken_all c (events_for (take i moves)) g).history) (event_for (get_or moves i d))
due_at c [] i d g lt due going now = absurd (omega arith)
due_at c (m ∷ ms) zero d g lt due going now = due.0
due_at c (m ∷ ms) (suc i) d g lt due going now = by_may (may_come c g.history (event_for m)) refl (λ x a b e. due_at c ms i d x (omega arith) a b e)
  where
    new : Course
    new = record g { history = (next_line g.history, event_for m) ∷ g.history }

    Behind : Course → Type 0
    Behind x = (taken_all c (events_for (take i ms)) x).refused ≡ None → MayCome is_frame c (ruled c (taken_all c (events_for (take i ms)) x).history) (event_for (get_or ms i d))

    by_may : (may : Bool) → may_come c g.history (event_for m) ≡ may → ((x : Course) → AreDue c x.history (events_for ms) → x.refused ≡ None → Behind x)
        → MayCome is_frame c (ruled c (taken_all c (events_for (take i ms)) (taken c (event_for m) g)).history) (event_for (get_or ms i d))
    by_may true is behind = subst (λ (x : Course). Behind x) (sym (taken_may c (event_for m) g going is)) (behind new due.1 going) now
    by_may false is behind =
        let refused : (taken c (event_for m) g).refused ≡ Some (event_for m) = ap (λ (x : Course). x.refused) (taken_not c (event_for m) g going is) in
        let sticks = (taken_all_sticks c (events_for (take i ms))).sticks (taken c (event_for m) g) (event_for m) refused in
        absurd (cc (now, sticks.1))

-- Who runs.

put_runs : (k q : ℕ) (x : Running fabric) (es : List (ℕ × Running fabric)) → is_some (at q es) ≡ true → is_some (at q (put k x es)) ≡ true
put_runs k q x es h = ap is_some (at-put k x es q) ∙ by_key (k == q)
  where
    by_key : (b : Bool) → is_some (cond b (Some x) (at q es)) ≡ true
    by_key true = refl
    by_key false = h

put_stands : (k : ℕ) (x : Running fabric) (es : List (ℕ × Running fabric)) → is_some (at k (put k x es)) ≡ true
put_stands k x es = ap is_some (at-put k x es k) ∙ ap (λ b. is_some (cond b (Some x) (at k es))) (eq-eqb k k refl)

put_idle : (k q : ℕ) (x : Running fabric) (es : List (ℕ × Running fabric)) → k < q → is_some (at q es) ≡ false → is_some (at q (put k x es)) ≡ false
put_idle k q x es lt h =
    let apart : (k == q) ≡ false = grind (arith, nat_tests) in
    ap is_some (at-put k x es q) ∙ (ap (λ b. is_some (cond b (Some x) (at q es))) apart ∙ h)

acts_on : (c : FabricConfig) (w : World fabric) (node q : ℕ) (i : Input) (o : Option (Running fabric)) → node_runs w q ≡ true → node_runs (acts_at fabric c w node i o).world q ≡ true
acts_on c w node q i None h = h
acts_on c w node q i (Some s) h = put_runs node q _ w.nodes h

fire_on : (c : FabricConfig) (w : World fabric) (node q : ℕ) → node_runs w q ≡ true → node_runs (world_step fabric c w (Fire node)).world q ≡ true
unfolding world_step
fire_on c w node q h = acts_on c w node q _ (at node w.nodes) h

ask_on : (c : FabricConfig) (w : World fabric) (node q : ℕ) → node_runs w q ≡ true → node_runs (world_step fabric c w (asks_first node)).world q ≡ true
unfolding world_step
ask_on c w node q h = acts_on c w node q _ (at node w.nodes) h

start_on : (c : FabricConfig) (w : World fabric) (node q : ℕ) → node_runs w q ≡ true → node_runs (world_step fabric c w (node_starts node)).world q ≡ true
unfolding world_step
start_on c w node q h = put_runs node q _ w.nodes h

start_stands : (c : FabricConfig) (w : World fabric) (node : ℕ) → node_runs (world_step fabric c w (node_starts node)).world node ≡ true
unfolding world_step
start_stands c w node = put_stands node _ w.nodes

start_idle : (c : FabricConfig) (w : World fabric) (node q : ℕ) → node < q → node_runs w q ≡ false → node_runs (world_step fabric c w (node_starts node)).world q ≡ false
unfolding world_step
start_idle c w node q lt h = put_idle node q _ w.nodes lt h

-- Firings.

-- each of these numbers stands in the map
abbrev pub StandIn : List (ℕ × Running fabric) → List ℕ → Type 0
StandIn es [] = Unit {0}
StandIn es (k ∷ ks) = (is_some (at k es) ≡ true) × StandIn es ks

stand_behind : (e : ℕ × Running fabric) (es : List (ℕ × Running fabric)) (ks : List ℕ) → StandIn es ks → StandIn (e ∷ es) ks
stand_behind e es [] all = tt
stand_behind e es (k ∷ ks) all = (by_key (e.0 == k), stand_behind e es ks all.1)
  where
    by_key : (b : Bool) → is_some (cond b (Some e.1) (at k es)) ≡ true
    by_key true = refl
    by_key false = all.0

pub all_stand : (es : List (ℕ × Running fabric)) → StandIn es (map (λ e. e.0) es)
all_stand [] = tt
all_stand (e ∷ es) = (ap (λ b. is_some (cond b (Some e.1) (at e.0 es))) (eq-eqb e.0 e.0 refl), stand_behind e es (map (λ e. e.0) es) (all_stand es))

stand_on : (c : FabricConfig) (w : World fabric) (node : ℕ) (ks : List ℕ) → StandIn w.nodes ks → StandIn (world_step fabric c w (Fire node)).world.nodes ks
stand_on c w node [] all = tt
stand_on c w node (k ∷ ks) all = (fire_on c w node k all.0, stand_on c w node ks all.1)

fire_due : (c : FabricConfig) (w : World fabric) (node : ℕ) → node_runs w node ≡ true → MayCome is_frame c w (Fire node)
unfolding is_there keeps_bound
fire_due c w node runs = record { there = runs; bound = refl }

fires_due : (c : FabricConfig) (h : History) (ks : List ℕ) → StandIn (ruled c h).nodes ks → AreDue c h (map fires ks)
fires_due c h [] all = tt
fires_due c h (k ∷ ks) all = (fire_due c (ruled c h) k all.0, fires_due c ((next_line h, Fire k) ∷ h) ks (stand_on c (ruled c h) k ks all.1))

pub firings_due : (c : FabricConfig) (h : History) → AreDue c h (map fires (running (ruled c h)))
firings_due c h = fires_due c h (running (ruled c h)) (all_stand (ruled c h).nodes)

-- Frames.

count_on : (c : FabricConfig) (w : World fabric) (e : Event) → w.count ≤ (world_step fabric c w e).world.count
count_on c w e = by_cases fabric c w e (λ st. w.count ≤ st.world.count) (record {
  still = omega arith;
  begins = λ node reading g. omega arith;
  stops = λ node s g. omega arith;
  ticks = λ advance readings g. omega arith;
  acts = λ node i s g came. omega arith;
  table_begins = λ actor g. omega arith;
  table_stops = λ arbiter s g. omega arith;
  rules = λ arbiter f s g came to. omega arith;
}) e refl

pub give_due : (c : FabricConfig) (w : World fabric) (frame : ℕ) → 1 ≤ frame → frame ≤ w.count → MayCome is_frame c w (Give frame)
unfolding is_there keeps_bound
give_due c w frame low high = record { there = and_from (nat_le 1 frame) (nat_le frame w.count) (grind (arith, nat_tests)) (grind (arith, nat_tests)); bound = refl }

pub twice_due : (c : FabricConfig) (h : History) (frame : ℕ) → 1 ≤ frame → frame ≤ (ruled c h).count → AreDue c h (Give frame ∷ Give frame ∷ [])
twice_due c h frame low high =
    let more = count_on c (ruled c h) (Give frame) in
    (give_due c (ruled c h) frame low high, (give_due c (ruled c ((next_line h, Give frame) ∷ h)) frame low (omega arith), tt))

-- how many frames were sent
abbrev sent_in : FabricConfig → Course → ℕ
sent_in c g = (ruled c g.history).count

if_sent : (c : FabricConfig) (e : Event) (g : Course) (may : Bool) → sent_in c g ≤ sent_in c (taken_if e g may)
if_sent c e g true = count_on c (ruled c g.history) e
if_sent c e g false = omega arith

unless_sent : (c : FabricConfig) (e : Event) (g : Course) (refused : Option Event) → sent_in c g ≤ sent_in c (taken_unless c e g refused)
unless_sent c e g None = if_sent c e g (may_come c g.history e)
unless_sent c e g (Some d) = omega arith

all_sent : (c : FabricConfig) (es : List Event) (g : Course) → sent_in c g ≤ sent_in c (taken_all c es g)
all_sent c [] g = omega arith
all_sent c (e ∷ es) g =
    let first = unless_sent c e g g.refused in
    let rest = all_sent c es (taken c e g) in
    omega arith

next_sent : (c : FabricConfig) (g : Course) → sent_in c g ≤ sent_in c (considered_next c g)
next_sent c g = all_sent c (gives_of (g.considered + 1) ((pcg32 g.draws).0 % 8)) (record g { considered = g.considered + 1; draws = (pcg32 g.draws).1 })

pub considers_sent : (c : FabricConfig) (k : ℕ) (g : Course) → sent_in c g ≤ sent_in c (considers c k g)
considers_sent c zero g = omega arith
considers_sent c (suc k) g =
    let first = considers_sent c k g in
    let rest = next_sent c (considers c k g) in
    omega arith

-- Turns.

listed : (node first m : ℕ) → first ≤ node → node < first + m → list_any (λ e. e.node == node) (map entry_of_node (numbers_from first m)) ≡ true
listed node first zero low high = absurd (omega arith)
listed node first (suc m) low high = by_first (first == node) refl (λ more. listed node (first + 1) m more (omega arith))
  where
    by_first : (b : Bool) → (first == node) ≡ b → (first + 1 ≤ node → list_any (λ e. e.node == node) (map entry_of_node (numbers_from (first + 1) m)) ≡ true)
        → (b || list_any (λ e. e.node == node) (map entry_of_node (numbers_from (first + 1) m))) ≡ true
    by_first true g f = refl
    by_first false g f = f (grind (arith, nat_tests))

configured : (n node : ℕ) → 1 ≤ node → node ≤ n → is_configured_node (generated_config n) node ≡ true
configured n node low high = listed node 1 n low (omega arith)

no_arbiter : (node : ℕ) → node ≤ 16 → nat_lt 32768 node ≡ false
no_arbiter node few = grind (arith, nat_tests)

pub turn_due : (n : ℕ) (w : World fabric) (node : ℕ) (runs : Bool) → 1 ≤ node → node ≤ n → n ≤ 16 → node_runs w node ≡ runs → MayCome is_frame (generated_config n) w (turn_of w node runs)
unfolding is_there keeps_bound
turn_due n w node true low high few is = record { there = ap (λ b. runs_as w node b) (no_arbiter node (omega arith)) ∙ is; bound = refl }
turn_due n w node false low high few is = record {
  there = and_from (is_configured_node (generated_config n) node) (not (node_runs w node)) (configured n node low high) (ap not is);
  bound = refl;
}

-- The opening.

start_due : (n : ℕ) (w : World fabric) (node : ℕ) → 1 ≤ node → node ≤ n → node_runs w node ≡ false → MayCome is_frame (generated_config n) w (node_starts node)
unfolding is_there keeps_bound
start_due n w node low high idle = record {
  there = and_from (is_configured_node (generated_config n) node) (not (node_runs w node)) (configured n node low high) (ap not idle);
  bound = refl;
}

ask_due : (n : ℕ) (w : World fabric) (node : ℕ) → 2 ≤ node → 1 ≤ n → node_runs w node ≡ true → MayCome is_frame (generated_config n) w (asks_first node)
unfolding is_there keeps_bound
ask_due n w node low some runs =
    let apart : (1 == node) ≡ false = grind (arith, nat_tests) in
    record {
      there = and_from (node_runs w node) (is_configured_node (generated_config n) 1 && not (1 == node)) runs
          (and_from (is_configured_node (generated_config n) 1) (not (1 == node)) (configured n 1 (omega arith) some) (ap not apart));
      bound = refl;
    }

-- the nodes before this one run
abbrev RunBelow : World fabric → ℕ → Type 0
RunBelow w next = (q : ℕ) → 1 ≤ q → q < next → node_runs w q ≡ true

asks_due : (n first m : ℕ) (h : History) → 1 ≤ n → 2 ≤ first → first + m ≤ n + 1 → RunBelow (ruled (generated_config n) h) (n + 1) → AreDue (generated_config n) h (map asks_first (numbers_from first m))
asks_due n first zero h some low few run = tt
asks_due n first (suc m) h some low few run =
    let c = generated_config n in (
      ask_due n (ruled c h) first low some (run first (omega arith) (omega arith)),
      asks_due n (first + 1) m ((next_line h, asks_first first) ∷ h) some (omega arith) (omega arith) (λ q least most. ask_on c (ruled c h) first q (run q least most)),
    )

-- the nodes from this one on do not run
abbrev IdleFrom : World fabric → ℕ → Type 0
IdleFrom w next = (q : ℕ) → next ≤ q → node_runs w q ≡ false

below_on : (c : FabricConfig) (w : World fabric) (node : ℕ) → RunBelow w node → RunBelow (world_step fabric c w (node_starts node)).world (node + 1)
below_on c w node run q least most = by_key (q == node) refl
  where
    by_key : (b : Bool) → (q == node) ≡ b → node_runs (world_step fabric c w (node_starts node)).world q ≡ true
    by_key true g =
        let same : q ≡ node = grind (arith, nat_tests) in
        subst (λ (k : ℕ). node_runs (world_step fabric c w (node_starts node)).world k ≡ true) (sym same) (start_stands c w node)
    by_key false g = let apart : q < node = grind (arith, nat_tests) in start_on c w node q (run q least apart)

nodes_due : (n first m : ℕ) (h : History) → 1 ≤ n → 1 ≤ first → first + m ≡ n + 1 → RunBelow (ruled (generated_config n) h) first → IdleFrom (ruled (generated_config n) h) first
    → AreDue (generated_config n) h (map node_starts (numbers_from first m) ++ map asks_first (numbers_from 2 (n - 1)))
nodes_due n first zero h some low all run idle =
    let last : first ≡ n + 1 = omega arith in
    asks_due n 2 (n - 1) h some (omega arith) (omega arith) (subst (λ (k : ℕ). RunBelow (ruled (generated_config n) h) k) last run)
nodes_due n first (suc m) h some low all run idle =
    let c = generated_config n in (
      start_due n (ruled c h) first low (omega arith) (idle first (omega arith)),
      nodes_due n (first + 1) m ((next_line h, node_starts first) ∷ h) some (omega arith) (omega arith) (below_on c (ruled c h) first run)
          (λ q least. start_idle c (ruled c h) first q (omega arith) (idle q (omega arith))),
    )

pub opening_due : (n : ℕ) → 1 ≤ n → AreDue (generated_config n) [] (opening n)
unfolding is_there keeps_bound world_step
opening_due n some = (
  record { there = refl; bound = refl },
  (
    record { there = refl; bound = refl },
    (
      record { there = refl; bound = refl },
      nodes_due n 1 n ((4, arbiter_starts 3) ∷ (3, arbiter_starts 2) ∷ (2, arbiter_starts 1) ∷ []) some (omega arith) (omega arith) (λ q least most. absurd (omega arith)) (λ q least. refl),
    ),
  ),
)
