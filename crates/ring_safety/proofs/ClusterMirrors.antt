-- The world of the schedule is the cluster, each running node's clock showing the true time.
use Rattle.std.proofs.Common.{arith, ◌≡◌, ◌≤◌, ◌+◌, ◌-◌, ℕ, Bool, true, false, List, [], ◌∷◌, ◌++◌, length, map, Option, Some, None, refl, ap, sym, subst, ◌∙◌, nat_lt}
use Rattle.std.specs.Prelude.{◌==◌, ◌||◌, is_some, option_map, unwrap_or, slice_get, if◌then◌else◌}
use Rattle.ring_points.specs.Whos.{arbiter_actor}
use Rattle.fabric_terms.specs.declared.command.Command.{Command}
use Rattle.fabric_terms.specs.declared.config.FabricConfig.{FabricConfig}
use Rattle.fabric_terms.specs.declared.event.Event.TheVariants as event
use Rattle.fabric_terms.specs.declared.message.Message.{Message}
use Rattle.fabric_terms.specs.declared.record.Record.{Record}
use Rattle.ring_rules.specs.declared.input.Input.{Input}
use Rattle.ring_rules.specs.declared.input.Input.TheVariants as input
use Rattle.world_rules.specs.Arbiters.{ArbiterState, arbiter_begun, arbiter_step}
use Rattle.world_rules.specs.Events.{world_step, ticks, ticked, acts_at, arrives, arrives_at, arrives_if, arrives_at_node, arrives_at_arbiter, is_arbiter_actor, arbiter_number}
use Rattle.fabric_lemmas.specs.Maps.{at, put, put_here}
use Rattle.world_rules.specs.Nodes.{NodeState, node_begun, node_step}
use Rattle.world_rules.specs.Schedules.{MayCome, is_there, keeps_bound}
use Rattle.world_rules.specs.Uppers.{Upper, Did}
use Rattle.world_rules.specs.Worlds.{World, Running, Stepped, empty_world, kept_of, frame_in, posted, node_acted, arbiter_acted, arbiter_who}
use Rattle.ring_safety.specs.ClusterEvents.{Cluster, no_cluster, Begins, Stands, Bids, Hears, Fires, kept_by, frame_of, node_did, arbiter_did, node_does, arbiter_does, hears, hears_as, comes, all_show, tick_to, FitsInstance}
use Rattle.ring_safety.proofs.ClusterEvens.{AllEven, EvenPairs, even_at, even_put, even_tick, all_have, same_nodes, fit_all, all_show_u}

-- a running node as the cluster has it
abbrev pub seen : {a : Upper} → ℕ × Running a → ℕ × NodeState a
seen n = (n.0, n.1.node)

pub record Mirrors {a : Upper} (p : Cluster a) (w : World a) : Type 0 where
  pub time : w.time ≡ p.time
  pub nodes : map (seen {a = a}) w.nodes ≡ p.nodes
  pub even : AllEven {a = a} p.time w.nodes
  pub arbiters : w.arbiters ≡ p.arbiters
  pub kept : w.kept ≡ p.kept
  pub frames : w.frames ≡ p.frames
  pub count : w.count ≡ p.count

pub mirrors_first : (a : Upper) → Mirrors {a = a} (no_cluster a) (empty_world a)
mirrors_first a = record { time = refl; nodes = refl; even = tt; arbiters = refl; kept = refl; frames = refl; count = refl }

-- Maps.

seen_put : {a : Upper} (k : ℕ) (x : Running a) (rs : List (ℕ × Running a)) → map (seen {a = a}) (put k x rs) ≡ put k x.node (map (seen {a = a}) rs)
seen_put {a} k x [] = refl
seen_put {a} k x (e ∷ es) = by_keys (nat_lt k e.0) (k == e.0)
    ∙ ap (λ (behind : List (ℕ × NodeState a)). put_here k x.node (seen {a = a} e) (map (seen {a = a}) es) behind (nat_lt k e.0) (k == e.0)) (seen_put k x es)
  where
    by_keys : (b c : Bool) → map (seen {a = a}) (put_here k x e es (put k x es) b c) ≡ put_here k x.node (seen {a = a} e) (map (seen {a = a}) es) (map (seen {a = a}) (put k x es)) b c
    by_keys true c = refl
    by_keys false true = refl
    by_keys false false = refl

node_of : {a : Upper} → Running a → NodeState a
node_of r = r.node

seen_at : {a : Upper} (k : ℕ) (rs : List (ℕ × Running a)) → at k (map (seen {a = a}) rs) ≡ option_map (λ (r : Running a). r.node) (at k rs)
seen_at {a} k [] = refl
seen_at {a} k (e ∷ es) = by_key (e.0 == k) (seen_at k es)
  where
    by_key : (b : Bool) → at k (map (seen {a = a}) es) ≡ option_map (λ (r : Running a). r.node) (at k es) →
        (if b then Some e.1.node else at k (map (seen {a = a}) es)) ≡ option_map (λ (r : Running a). r.node) (if b then Some e.1 else at k es)
    by_key true later = refl
    by_key false later = later

-- the node that runs
pub record RunsAs {a : Upper} (w : World a) (n : ℕ) (s : NodeState a) : Type 0 where
  pub state : Running a
  pub here : at n w.nodes ≡ Some state
  pub same : state.node ≡ s

pub runs_as : {a : Upper} (p : Cluster a) (w : World a) (n : ℕ) (s : NodeState a) → Mirrors {a = a} p w → at n p.nodes ≡ Some s → RunsAs {a = a} w n s
runs_as {a} p w n s m h = by_state (at n w.nodes) refl
  where
    there : option_map (λ (r : Running a). r.node) (at n w.nodes) ≡ Some s
    there = sym (seen_at n w.nodes) ∙ ap (at n) m.nodes ∙ h

    by_state : (o : Option (Running a)) → at n w.nodes ≡ o → RunsAs {a = a} w n s
    by_state None e = let f : None ≡ Some s = sym (ap (option_map (λ (r : Running a). r.node)) e) ∙ there in cc
    by_state (Some r) e = let f : Some r.node ≡ Some s = sym (ap (option_map (λ (x : Running a). x.node)) e)
        ∙ there in record { state = r; here = e; same = cc }

pub none_runs : {a : Upper} (p : Cluster a) (w : World a) (n : ℕ) → Mirrors {a = a} p w → at n p.nodes ≡ None → is_some (at n w.nodes) ≡ false
none_runs {a} p w n m h = by_state (at n w.nodes) refl
  where
    there : option_map (λ (r : Running a). r.node) (at n w.nodes) ≡ None
    there = sym (seen_at n w.nodes) ∙ ap (at n) m.nodes ∙ h

    by_state : (o : Option (Running a)) → at n w.nodes ≡ o → is_some (at n w.nodes) ≡ false
    by_state None e = ap (λ (o : Option (Running a)). is_some o) e
    by_state (Some r) e = let f : Some r.node ≡ None = sym (ap (option_map (λ (x : Running a). x.node)) e) ∙ there in cc

-- A node's step, and an arbitrator's.

pub acted_mirrors : {a : Upper} (p : Cluster a) (w : World a) (n t : ℕ) (pairs : List (ℕ × ℕ)) (d : Did (NodeState a)) → Mirrors {a = a} p w → t ≡ p.time →
    EvenPairs p.time pairs → Mirrors {a = a} (node_did p n d) (node_acted a w n t pairs d).world
acted_mirrors {a} p w n t pairs d m time even = record {
  time = m.time;
  nodes = seen_put n (record { node = d.state; reading = t; pairs = pairs }) w.nodes ∙ ap (put n d.state) m.nodes;
  even = even_put p.time n w.nodes (record { node = d.state; reading = t; pairs = pairs }) m.even (record { reading = time; pairs = even });
  arbiters = m.arbiters;
  kept = ap (λ (ks : List (ℕ × List Record)). put d.state.ring.me.actor (unwrap_or (at d.state.ring.me.actor ks) [] ++ d.records) ks) m.kept;
  frames = ap (posted d.state.ring.me d.sent) m.frames;
  count = ap (λ (k : ℕ). k + length d.sent) m.count;
}

pub ruled_mirrors : {a : Upper} (p : Cluster a) (w : World a) (n : ℕ) (d : Did (ArbiterState a)) → Mirrors {a = a} p w →
    Mirrors {a = a} (arbiter_did p n d) (arbiter_acted a w n d).world
ruled_mirrors {a} p w n d m = record {
  time = m.time;
  nodes = m.nodes;
  even = m.even;
  arbiters = ap (put n d.state) m.arbiters;
  kept = ap (λ (ks : List (ℕ × List Record)). put (arbiter_who n).actor (unwrap_or (at (arbiter_who n).actor ks) [] ++ d.records) ks) m.kept;
  frames = ap (posted (arbiter_who n) d.sent) m.frames;
  count = ap (λ (k : ℕ). k + length d.sent) m.count;
}

-- An input of a node that runs.
acts_mirrors : {a : Upper} (c : FabricConfig) (p : Cluster a) (w : World a) (n : ℕ) (i : Input) (s : NodeState a) → Mirrors {a = a} p w →
    at n p.nodes ≡ Some s → Mirrors {a = a} (node_does a c p n i (at n p.nodes)) (acts_at a c w n i (at n w.nodes)).world
acts_mirrors {a} c p w n i s m h =
    let r = runs_as p w n s m h in
    let even = even_at p.time n w.nodes r.state m.even r.here in
    let d : Did (NodeState a) = node_step a c r.state.reading i r.state.node in
    let same : d ≡ node_step a c p.time i s = ap (λ (t : ℕ). node_step a c t i r.state.node) even.reading ∙ ap (node_step a c p.time i) r.same in
    let left : node_does a c p n i (at n p.nodes) ≡ node_did p n d = ap (node_does a c p n i) h ∙ sym (ap (node_did p n) same) in
    let right : acts_at a c w n i (at n w.nodes) ≡ node_acted a w n r.state.reading r.state.pairs d = ap (acts_at a c w n i) r.here in
    subst (λ (q : Cluster a). Mirrors {a = a} q (acts_at a c w n i (at n w.nodes)).world) (sym left)
    (subst (λ (x : Stepped a). Mirrors {a = a} (node_did p n d) x.world) (sym right)
    (acted_mirrors p w n r.state.reading r.state.pairs d m even.reading even.pairs))

-- Ticks.

seen_ticked : {a : Upper} (t : ℕ) (readings : List (ℕ × ℕ)) (rs : List (ℕ × Running a)) →
    map (seen {a = a}) (map (ticked {a = a} t readings) rs) ≡ map (seen {a = a}) rs
seen_ticked t readings [] = refl
seen_ticked {a} t readings (r ∷ rs) = ap (λ (xs : List (ℕ × NodeState a)). seen {a = a} r ∷ xs) (seen_ticked t readings rs)

shown_seen : {a : Upper} (u : ℕ) (rs : List (ℕ × Running a)) → all_show u (map (seen {a = a}) rs) ≡ map (λ n. (n.0, u)) rs
shown_seen u [] = refl
shown_seen {a} u (r ∷ rs) = ap (λ (xs : List (ℕ × ℕ)). (r.0, u) ∷ xs) (shown_seen u rs)

-- the readings of the tick are those of the running nodes
shown_all : {a : Upper} (p : Cluster a) (w : World a) (u : ℕ) → Mirrors {a = a} p w → all_show u p.nodes ≡ map (λ n. (n.0, u)) w.nodes
shown_all p w u m = ap (all_show u) (sym m.nodes) ∙ shown_seen u w.nodes

ticks_mirrors : {a : Upper} (p : Cluster a) (w : World a) (u advance : ℕ) (readings : List (ℕ × ℕ)) → Mirrors {a = a} p w → p.time ≤ u → w.time + advance ≡ u →
    readings ≡ map (λ n. (n.0, u)) w.nodes → Mirrors {a = a} (record p { time = u }) (ticks a w (w.time + advance) readings).world
ticks_mirrors {a} p w u advance readings m h e f = rw (e, f) (record {
  time = refl;
  nodes = seen_ticked u (map (λ n. (n.0, u)) w.nodes) w.nodes ∙ m.nodes;
  even = even_tick p.time u (map (λ n. (n.0, u)) w.nodes) w.nodes h (all_have u w.nodes) m.even;
  arbiters = m.arbiters;
  kept = m.kept;
  frames = m.frames;
  count = m.count;
})

pub tick_mirrors : {a : Upper} (c : FabricConfig) (p : Cluster a) (w : World a) (u : ℕ) → Mirrors {a = a} p w → p.time ≤ u →
    Mirrors {a = a} (record p { time = u }) (world_step a c w (tick_to p u)).world
unfolding world_step
tick_mirrors {a} c p w u m h = ticks_mirrors p w u (u - p.time) (all_show u p.nodes) m h (omega (arith, m.time)) (shown_all p w u m)

pub tick_may : {a : Upper} (is_frame : List ℕ → Bool) (c : FabricConfig) (p : Cluster a) (w : World a) (u : ℕ) → Mirrors {a = a} p w → p.time ≤ u →
    MayCome {a = a} is_frame c w (tick_to p u)
unfolding is_there keeps_bound
tick_may {a} is_frame c p w u m h =
    let time : w.time + (u - p.time) ≡ u = omega (arith, m.time) in
    record {
      there = rw (shown_all p w u m) (same_nodes u w.nodes);
      bound = rw (shown_all p w u m, time) (fit_all c w p.time u (map (λ n. (n.0, u)) w.nodes) m.even h (all_show_u u w.nodes));
    }

-- What is seen after a step of each kind.

pub kept_same : {a : Upper} (p : Cluster a) (w : World a) (n : ℕ) → Mirrors {a = a} p w → kept_of w n ≡ kept_by p n
kept_same p w n m = ap (λ (ks : List (ℕ × List Record)). unwrap_or (at n ks) []) m.kept

pub fire_mirrors : {a : Upper} (c : FabricConfig) (p : Cluster a) (w : World a) (n : ℕ) (s : NodeState a) → Mirrors {a = a} p w → at n p.nodes ≡ Some s →
    Mirrors {a = a} (comes a c p (Fires n)) (world_step a c w (event.Fire n)).world
unfolding world_step
fire_mirrors c p w n s m h = acts_mirrors c p w n input.Fire s m h

pub bid_mirrors : {a : Upper} (c : FabricConfig) (p : Cluster a) (w : World a) (n : ℕ) (d : Command) (s : NodeState a) → Mirrors {a = a} p w →
    at n p.nodes ≡ Some s → Mirrors {a = a} (comes a c p (Bids n d)) (world_step a c w (event.Do n d)).world
unfolding world_step
bid_mirrors c p w n d s m h = acts_mirrors c p w n (input.Do d) s m h

-- the start of a node, after its tick
start_mirrors : {a : Upper} (c : FabricConfig) (q : Cluster a) (w : World a) (n u : ℕ) → Mirrors {a = a} q w → q.time ≡ u →
    Mirrors {a = a} (node_did q n (node_begun a c n (kept_by q n))) (world_step a c w (event.Start n (Some u))).world
unfolding world_step
start_mirrors {a} c q w n u m e =
    let d : node_begun a c n (kept_of w n) ≡ node_begun a c n (kept_by q n) = ap (node_begun a c n) (kept_same q w n m) in
    subst (λ (x : Did (NodeState a)). Mirrors {a = a} (node_did q n x) (node_acted a w n u ((w.time, u) ∷ []) (node_begun a c n (kept_of w n))).world) d
    (acted_mirrors q w n u ((w.time, u) ∷ []) (node_begun a c n (kept_of w n)) m (sym e) (m.time ∙ e, omega (arith, e), tt))

pub begin_mirrors : {a : Upper} (c : FabricConfig) (p : Cluster a) (w : World a) (n u : ℕ) → Mirrors {a = a} p w → p.time ≤ u →
    Mirrors {a = a} (comes a c p (Begins n u)) (world_step a c (world_step a c w (tick_to p u)).world (event.Start n (Some u))).world
begin_mirrors {a} c p w n u m h = start_mirrors c (record p { time = u }) (world_step a c w (tick_to p u)).world n u (tick_mirrors c p w u m h) refl

pub number_of : (m : ℕ) → arbiter_number (arbiter_actor m) ≡ m
number_of m = omega arith

pub stand_mirrors : {a : Upper} (c : FabricConfig) (p : Cluster a) (w : World a) (n : ℕ) → Mirrors {a = a} p w →
    Mirrors {a = a} (comes a c p (Stands n)) (world_step a c w (event.Start (arbiter_actor n) None)).world
unfolding world_step
stand_mirrors {a} c p w n m = record {
  time = m.time;
  nodes = m.nodes;
  even = m.even;
  arbiters =
      ap (λ (k : ℕ). put k (arbiter_begun a c k (kept_of w (arbiter_actor n))) w.arbiters) (number_of n)
      ∙ ap (λ (rs : List Record). put n (arbiter_begun a c n rs) w.arbiters) (kept_same p w (arbiter_actor n) m)
      ∙ ap (put n (arbiter_begun a c n (kept_by p (arbiter_actor n)))) m.arbiters;
  kept = m.kept;
  frames = m.frames;
  count = m.count;
}

-- a frame that comes
pub frame_same : {a : Upper} (p : Cluster a) (w : World a) (k : ℕ) → Mirrors {a = a} p w → frame_in w k ≡ frame_of p k
frame_same p w k m = ap (λ (fs : List Message). slice_get fs (w.count - k)) m.frames ∙ ap (λ (n : ℕ). slice_get p.frames (n - k)) m.count

node_hears : {a : Upper} (c : FabricConfig) (p : Cluster a) (w : World a) (f : Message) (o : Option (NodeState a)) → at f.to.actor p.nodes ≡ o →
    Mirrors {a = a} p w → FitsInstance p f false →
    Mirrors {a = a} (node_does a c p f.to.actor (input.Frame f) (at f.to.actor p.nodes)) (arrives_at_node a c w f (at f.to.actor w.nodes)).world
node_hears {a} c p w f None e m fits =
    let gone = none_at (at f.to.actor w.nodes) (none_runs p w f.to.actor m e) in
    subst (λ (q : Cluster a). Mirrors {a = a} q (arrives_at_node a c w f (at f.to.actor w.nodes)).world) (sym (ap (node_does a c p f.to.actor (input.Frame f)) e))
    (subst (λ (x : Stepped a). Mirrors {a = a} p x.world) (sym (ap (arrives_at_node a c w f) gone)) m)
  where
    none_at : (o : Option (Running a)) → is_some o ≡ false → o ≡ None
    none_at None h = refl
    none_at (Some r) h = cc
node_hears {a} c p w f (Some s) e m fits =
    let r = runs_as p w f.to.actor s m e in
    let instance : (f.to.instance == 0 || f.to.instance == r.state.node.ring.me.instance) ≡ true =
    ap (λ (x : NodeState a). f.to.instance == 0 || f.to.instance == x.ring.me.instance) r.same ∙ fits s e in
    let arrives_here : arrives_at_node a c w f (at f.to.actor w.nodes) ≡ acts_at a c w f.to.actor (input.Frame f) (at f.to.actor w.nodes) =
    ap (arrives_at_node a c w f) r.here ∙ ap (arrives_if a c w f r.state) instance ∙ sym (ap (acts_at a c w f.to.actor (input.Frame f)) r.here) in
    subst (λ (x : Stepped a). Mirrors {a = a} (node_does a c p f.to.actor (input.Frame f) (at f.to.actor p.nodes)) x.world) (sym arrives_here) (acts_mirrors c p w f.to.actor (input.Frame f) s m e)

arbiter_hears : {a : Upper} (c : FabricConfig) (p : Cluster a) (w : World a) (f : Message) (n : ℕ) (o : Option (ArbiterState a)) → at n p.arbiters ≡ o →
    Mirrors {a = a} p w → Mirrors {a = a} (arbiter_does a c p n f (at n p.arbiters)) (arrives_at_arbiter a c w f n (at n w.arbiters)).world
arbiter_hears {a} c p w f n None e m =
    let there : at n w.arbiters ≡ None = ap (at n) m.arbiters ∙ e in
    subst (λ (q : Cluster a). Mirrors {a = a} q (arrives_at_arbiter a c w f n (at n w.arbiters)).world) (sym (ap (arbiter_does a c p n f) e))
    (subst (λ (x : Stepped a). Mirrors {a = a} p x.world) (sym (ap (arrives_at_arbiter a c w f n) there)) m)
arbiter_hears {a} c p w f n (Some s) e m =
    let there : at n w.arbiters ≡ Some s = ap (at n) m.arbiters ∙ e in
    subst (λ (q : Cluster a). Mirrors {a = a} q (arrives_at_arbiter a c w f n (at n w.arbiters)).world) (sym (ap (arbiter_does a c p n f) e))
    (subst (λ (x : Stepped a). Mirrors {a = a} (arbiter_did p n (arbiter_step a c n f s)) x.world) (sym (ap (arrives_at_arbiter a c w f n) there)) (ruled_mirrors p w n (arbiter_step a c n f s) m))

hears_mirrors : {a : Upper} (c : FabricConfig) (p : Cluster a) (w : World a) (f : Message) (b : Bool) → Mirrors {a = a} p w → FitsInstance p f b →
    Mirrors {a = a} (hears_as a c p f b) (arrives_at a c w f b).world
hears_mirrors c p w f true m fits = arbiter_hears c p w f (arbiter_number f.to.actor) (at (arbiter_number f.to.actor) p.arbiters) refl m
hears_mirrors c p w f false m fits = node_hears c p w f (at f.to.actor p.nodes) refl m fits

pub give_mirrors : {a : Upper} (c : FabricConfig) (p : Cluster a) (w : World a) (k : ℕ) (f : Message) → Mirrors {a = a} p w → frame_of p k ≡ Some f →
    FitsInstance p f (is_arbiter_actor f.to.actor) → Mirrors {a = a} (comes a c p (Hears k)) (world_step a c w (event.Give k)).world
unfolding world_step
give_mirrors {a} c p w k f m e fits =
    let there : frame_in w k ≡ Some f = frame_same p w k m ∙ e in
    subst (λ (q : Cluster a). Mirrors {a = a} q (arrives a c w (frame_in w k)).world) (sym (ap (hears a c p) e))
    (subst (λ (x : Stepped a). Mirrors {a = a} (hears_as a c p f (is_arbiter_actor f.to.actor)) x.world) (sym (ap (arrives a c w) there)) (hears_mirrors c p w f (is_arbiter_actor f.to.actor) m fits))
