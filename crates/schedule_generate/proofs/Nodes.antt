-- Who runs: nodes of the configuration, each under its number, and their clocks.
use Rattle.std.proofs.Common.{◌≡◌, ℕ, ◌+◌, ◌≤◌, ◌<◌, zero, suc, Bool, true, false, not, List, [], ◌∷◌, length, map, All, Some, refl, ap, subst, ◌∙◌, arith, nat_lt, nat_le}
use Rattle.std.specs.Prelude.{◌==◌, ◌||◌, is_some, if◌then◌else◌}
use Rattle.std.specs.List.{list_any}
use Rattle.std.proofs.lemmas.Bool.{and_parts, eqb-true, leb-true}
use Rattle.std.proofs.lemmas.List.Elements.{All-nil, All-cons}
use Rattle.unit_rules.specs.Fabric.{fabric}
use Rattle.fabric_lemmas.specs.Maps.{at, put, put_here, rises_from, without}
use Rattle.fabric_terms.specs.Ranges.{AreReadings, IsReading}
use Rattle.fabric_terms.specs.Runs.{clocks_of}
use Rattle.fabric_terms.specs.declared.config.FabricConfig.{FabricConfig}
use Rattle.fabric_terms.specs.declared.event.Event.{Event}
use Rattle.fabric_terms.specs.declared.event.Event.TheVariants.{Start}
use Rattle.ring_points.specs.declared.who.Who.{Who}
use Rattle.ring_world.specs.Answers.{StandsFor}
use Rattle.frame_format.specs.Kinds.{is_frame}
use Rattle.unit_rules.specs.Ruled.{ruled}
use Rattle.ring_world.specs.Running.{AllRun}
use Rattle.ring_world.specs.declared.running.Running.{Running as CodeRunning}
use Rattle.ring_world.specs.declared.world.World.{World as CodeWorld}
use Rattle.run_facts.proofs.Clocks.{clocks_are, rising}
use Rattle.run_facts.proofs.Happens.{Cases, by_cases}
use Rattle.world_rules.specs.Events.{ticked}
use Rattle.world_rules.specs.Runs.{History, run_of}
use Rattle.world_rules.specs.Schedules.{MayCome, Valid, is_configured_node, is_there, node_runs}
use Rattle.world_rules.specs.Worlds.{Running, World}
use Rattle.schedule_generate.specs.Course.{running, shown_at}
use Rattle.schedule_generate.specs.Settings.{entry_of_node, generated_config, numbers_from}
use Rattle.schedule_generate.specs.Shown.{nodes_of, shown}

-- each of these stands under a number from 1 to n
abbrev pub AreIn : {X : Type 0} → ℕ → List (ℕ × X) → Type 0
AreIn n [] = Unit {0}
AreIn n (e ∷ es) = (1 ≤ e.0) × (e.0 ≤ n) × AreIn n es

in_at : {X : Type 0} (n k : ℕ) (es : List (ℕ × X)) (x : X) → AreIn n es → at k es ≡ Some x → (1 ≤ k) × (k ≤ n)
in_at n k [] x h there = cc
in_at n k (e ∷ es) x h there = by_key (e.0 == k) refl there (λ f. in_at n k es x h.2 f)
  where
    by_key : (b : Bool) → (e.0 == k) ≡ b → (if b then Some e.1 else at k es) ≡ Some x → (at k es ≡ Some x → (1 ≤ k) × (k ≤ n)) → (1 ≤ k) × (k ≤ n)
    by_key true g f later = let same : e.0 ≡ k = eqb-true e.0 k g in subst (λ j. (1 ≤ j) × (j ≤ n)) same (h.0, h.1)
    by_key false g f later = later f

in_put : {X : Type 0} (n k : ℕ) (x : X) (es : List (ℕ × X)) → 1 ≤ k → k ≤ n → AreIn n es → AreIn n (put k x es)
in_put n k x [] low high h = (low, high, tt)
in_put {X} n k x (e ∷ es) low high h = by_keys (nat_lt k e.0) (k == e.0) (put k x es) (in_put n k x es low high h.2)
  where
    by_keys : (b c : Bool) (behind : List (ℕ × X)) → AreIn n behind → AreIn n (put_here k x e es behind b c)
    by_keys true c behind later = (low, high, h)
    by_keys false true behind later = (low, high, h.2)
    by_keys false false behind later = (h.0, h.1, later)

in_without : {X : Type 0} (n k : ℕ) (es : List (ℕ × X)) → AreIn n es → AreIn n (without k es)
in_without n k [] h = tt
in_without {X} n k (e ∷ es) h = by_key (not (e.0 == k)) (in_without n k es h.2)
  where
    by_key : (b : Bool) → AreIn n (without k es) → AreIn n (if b then e ∷ without k es else without k es)
    by_key true later = (h.0, h.1, later)
    by_key false later = later

in_ticked : (n time : ℕ) (readings : List (ℕ × ℕ)) (es : List (ℕ × Running fabric)) → AreIn n es → AreIn n (map (ticked {a = fabric} time readings) es)
in_ticked n time readings [] h = tt
in_ticked n time readings (e ∷ es) h = (h.0, h.1, in_ticked n time readings es h.2)

-- a configured node has one of the numbers
listed_in : (node first m : ℕ) → list_any (λ e. e.node == node) (map entry_of_node (numbers_from first m)) ≡ true → (first ≤ node) × (node < first + m)
listed_in node first zero e = cc
listed_in node first (suc m) e = by_first (first == node) refl e (λ f. listed_in node (first + 1) m f)
  where
    by_first : (b : Bool) → (first == node) ≡ b → (b || list_any (λ e. e.node == node) (map entry_of_node (numbers_from (first + 1) m))) ≡ true
        → (list_any (λ e. e.node == node) (map entry_of_node (numbers_from (first + 1) m)) ≡ true → (first + 1 ≤ node) × (node < first + 1 + m)) → (first ≤ node) × (node < first + suc m)
    by_first true g f later = let same : first ≡ node = eqb-true first node g in (omega arith, omega arith)
    by_first false g f later = let more = later f in (omega (arith, more.0), omega (arith, more.1))

configured_in : (n node : ℕ) → is_configured_node (generated_config n) node ≡ true → (1 ≤ node) × (node ≤ n)
configured_in n node e = let k = listed_in node 1 n e in (k.0, omega (arith, k.1))

may_start_in : (n : ℕ) (w : World fabric) (e : Event) (node reading : ℕ) → MayCome is_frame (generated_config n) w e → e ≡ Start node (Some reading) → (1 ≤ node) × (node ≤ n)
unfolding is_there
may_start_in n w e node reading may is =
    let there : is_there is_frame (generated_config n) w (Start node (Some reading)) ≡ true = subst (λ d. is_there is_frame (generated_config n) w d ≡ true) is may.there in
    configured_in n node (and_parts (is_configured_node (generated_config n) node) (not (node_runs w node)) there).0

in_cases : (n : ℕ) (w : World fabric) (e : Event) → AreIn n w.nodes → MayCome is_frame (generated_config n) w e → Cases fabric (generated_config n) w e (λ st. AreIn n st.world.nodes)
in_cases n w e h may = record {
  still = h;
  begins = λ node reading g. let k = may_start_in n w e node reading may g in in_put n node _ w.nodes k.0 k.1 h;
  stops = λ node s g. in_without n node w.nodes h;
  ticks = λ advance readings g. in_ticked n (w.time + advance) readings w.nodes h;
  acts = λ node i s g came. let k = in_at n node w.nodes s h g in in_put n node _ w.nodes k.0 k.1 h;
  table_begins = λ actor g. h;
  table_stops = λ arbiter s g. h;
  rules = λ arbiter f s g came to. h;
}

pub nodes_in : (n : ℕ) (h : History) → Valid fabric is_frame (generated_config n) h → AreIn n (ruled (generated_config n) h).nodes
nodes_in n [] v = tt
nodes_in n (e ∷ h) v =
    by_cases fabric (generated_config n) (ruled (generated_config n) h) e.1 (λ st. AreIn n st.world.nodes)
    (in_cases n (ruled (generated_config n) h) e.1 (nodes_in n h v.0) v.1) e.1 refl

-- they are few
nodes_few : {X : Type 0} (n low : ℕ) (es : List (ℕ × X)) → low ≤ n + 1 → rises_from low es ≡ true → AreIn n es → length es + low ≤ n + 1
nodes_few n low [] room rise h = omega arith
nodes_few n low (e ∷ es) room rise h =
    let parts = and_parts (nat_le low e.0) (rises_from (e.0 + 1) es) rise in
    let above = leb-true low e.0 parts.0 in
    let below : e.0 ≤ n = h.1 in
    let rest = nodes_few n (e.0 + 1) es (omega arith) parts.1 h.2 in
    omega arith

all_read : {X : Type 0} (n u : ℕ) (es : List (ℕ × X)) → n ≤ 16 → u ≤ 1000000000000000 → AreIn n es → All IsReading (map (shown_at u) (map (λ e. e.0) es))
all_read n u [] few early h = All-nil IsReading
all_read n u (e ∷ es) few early h =
    let high : e.0 ≤ 999 = let below : e.0 ≤ n = h.1 in omega arith in
    All-cons IsReading (e.0, u) (map (shown_at u) (map (λ e. e.0) es)) ((h.0, high), early) (all_read n u es few early h.2)

same_length : {X : Type 0} (u : ℕ) (es : List (ℕ × X)) → length (map (shown_at u) (map (λ e. e.0) es)) ≡ length es
same_length u [] = refl
same_length u (e ∷ es) = ap suc (same_length u es)

-- the readings of a tick are in the ranges of schedules
pub readings_in : (n u : ℕ) (h : History) → n ≤ 16 → u ≤ 1000000000000000 → Valid fabric is_frame (generated_config n) h → AreReadings (map (shown_at u) (running (ruled (generated_config n) h)))
readings_in n u h few early v =
    let w = ruled (generated_config n) h in
    let are = nodes_in n h v in
    let many : length w.nodes + 0 ≤ n + 1 = nodes_few n 0 w.nodes (omega arith) (rising fabric (generated_config n) h) are in
    let same = same_length u w.nodes in
    (omega arith, all_read n u w.nodes few early are)

-- Their clocks.

clocks_shown : (c : FabricConfig) (time u : ℕ) (rs : List CodeRunning) (es : List (ℕ × Running fabric)) → AllRun c time rs es
    → shown u (map (λ n. (n.1.node.ring.me, n.1.reading)) es) ≡ map (shown_at u) (map (λ e. e.0) es)
clocks_shown c time u [] [] run = refl
clocks_shown c time u [] (e ∷ es) run = absurd run
clocks_shown c time u (r ∷ rs) [] run = absurd run
clocks_shown c time u (r ∷ rs) (e ∷ es) run =
    let number : e.1.node.ring.me.actor ≡ e.0 = run.0.number in
    let rest = clocks_shown c time u rs es run.1 in
    ap (λ (k : ℕ). (k, u) ∷ shown u (map (λ n. (n.1.node.ring.me, n.1.reading)) es)) number ∙ ap (λ ks. (e.0, u) ∷ ks) rest

pub shown_nodes : (a : CodeWorld) (c : FabricConfig) (h : History) (u : ℕ) → StandsFor a c h → shown u (clocks_of (run_of fabric c h)) ≡ map (shown_at u) (running (ruled c h))
shown_nodes a c h u stands =
    ap (shown u) (clocks_are fabric c h)
    ∙ clocks_shown _ _ u a.running.items (ruled c h).nodes stands.keeps.state.nodes.running

abbrev pub has_node : ℕ → Who × ℕ → Bool
has_node node clock = clock.0.actor == node

among : (c : FabricConfig) (time node : ℕ) (rs : List CodeRunning) (es : List (ℕ × Running fabric)) → AllRun c time rs es
    → list_any (has_node node) (map (λ n. (n.1.node.ring.me, n.1.reading)) es) ≡ is_some (at node es)
among c time node [] [] run = refl
among c time node [] (e ∷ es) run = absurd run
among c time node (r ∷ rs) [] run = absurd run
among c time node (r ∷ rs) (e ∷ es) run =
    let number : e.1.node.ring.me.actor ≡ e.0 = run.0.number in
    ap (λ (k : ℕ). k == node || list_any (has_node node) (map (λ n. (n.1.node.ring.me, n.1.reading)) es)) number
    ∙ by_key (e.0 == node) (among c time node rs es run.1)
  where
    by_key : (b : Bool) → list_any (has_node node) (map (λ n. (n.1.node.ring.me, n.1.reading)) es) ≡ is_some (at node es)
        → (b || list_any (has_node node) (map (λ n. (n.1.node.ring.me, n.1.reading)) es)) ≡ is_some (if b then Some e.1 else at node es)
    by_key true later = refl
    by_key false later = later

pub among_nodes : (a : CodeWorld) (c : FabricConfig) (h : History) (node : ℕ) → StandsFor a c h
    → list_any (has_node node) (clocks_of (run_of fabric c h)) ≡ node_runs (ruled c h) node
among_nodes a c h node stands =
    ap (list_any (has_node node)) (clocks_are fabric c h)
    ∙ among _ _ node a.running.items (ruled c h).nodes stands.keeps.state.nodes.running

-- the nodes of readings that were shown
pub nodes_shown : (u : ℕ) (nodes : List ℕ) → nodes_of (map (shown_at u) nodes) ≡ nodes
nodes_shown u [] = refl
nodes_shown u (k ∷ ks) = ap (λ js. k ∷ js) (nodes_shown u ks)

-- a tick changes nobody's number
pub ticked_nodes : (time : ℕ) (readings : List (ℕ × ℕ)) (es : List (ℕ × Running fabric)) → map (λ e. e.0) (map (ticked {a = fabric} time readings) es) ≡ map (λ e. e.0) es
ticked_nodes time readings [] = refl
ticked_nodes time readings (e ∷ es) = ap (λ ks. e.0 ∷ ks) (ticked_nodes time readings es)
