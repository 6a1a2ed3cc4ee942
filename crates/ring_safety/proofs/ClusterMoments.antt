-- The moments of the schedule's run at which an actor did something are the cluster's steps.
use Rattle.std.proofs.Common.{◌≡◌, ◌+◌, ℕ, Bool, true, false, List, [], ◌∷◌, length, map, Option, Some, None, refl, ap, sym, ◌∙◌}
use Rattle.std.specs.Prelude.{◌==◌, ◌||◌, is_some}
use Rattle.fabric_terms.specs.declared.command.Command.{Command}
use Rattle.fabric_terms.specs.declared.config.FabricConfig.{FabricConfig}
use Rattle.fabric_terms.specs.declared.message.Message.{Message}
use Rattle.fabric_terms.specs.Runs.{Clocks, Entry, Run}
use Rattle.fabric_lemmas.specs.Maps.{at}
use Rattle.ring_points.specs.Whos.{arbiter_actor}
use Rattle.ring_rules.specs.declared.input.Input.{Input}
use Rattle.ring_rules.specs.declared.input.Input.TheVariants as input
use Rattle.fabric_terms.specs.declared.event.Event.TheVariants as event
use Rattle.world_rules.specs.Arbiters.{ArbiterState, arbiter_step}
use Rattle.world_rules.specs.Events.{acts_at, arbiter_number, arbiter_seen, arrives, arrives_at, arrives_at_arbiter, arrives_at_node, arrives_if, is_arbiter_actor, world_step}
use Rattle.world_rules.specs.Nodes.{NodeState, node_begun, node_step}
use Rattle.world_rules.specs.Runs.{moment_of, run_of, world_after}
use Rattle.world_rules.specs.Uppers.{Upper, Did}
use Rattle.world_rules.specs.Worlds.{Running, Stepped, World, arbiter_who, clocks_in, kept_of, numbers_of}
use Rattle.ring_safety.specs.ClusterEvents.{Begins, Bids, Cluster, Comes, Fires, FitsInstance, Hears, IsCluster, MayArrive, Stands, Turns, cluster_after, comes, events_of, frame_of, kept_by, tick_to}
use Rattle.ring_safety.specs.ClusterMoments.{arbiter_acts_in, clocks_at, clocks_by, entry_for, heard_in, hears_in, last_line, moments, node_acts_in, node_entry, seen_in}
use Rattle.ring_safety.specs.ClusterSteps.{steps_of}
use Rattle.ring_safety.proofs.ClusterEvens.{AllEven, even_at}
use Rattle.ring_safety.proofs.ClusterMirrors.{Mirrors, RunsAs, frame_same, kept_same, none_runs, number_of, runs_as, seen, tick_mirrors}
use Rattle.ring_safety.proofs.ClusterFollowing.{all_followed}
use Rattle.ring_safety.proofs.ClusterSeen.{kept_if, steps_more}

-- Clocks.

abbrev clocks_shown : {a : Upper} → List (ℕ × Running a) → Clocks
clocks_shown rs = map (λ n. (n.1.node.ring.me, n.1.reading)) rs

clocks_even : {a : Upper} (t : ℕ) (rs : List (ℕ × Running a)) → AllEven {a = a} t rs → clocks_shown {a = a} rs ≡ clocks_at {a = a} t (map (seen {a = a}) rs)
clocks_even t [] even = refl
clocks_even {a} t (r ∷ rs) even =
    let read : r.1.reading ≡ t = even.0.reading in
    let rest : clocks_shown {a = a} rs ≡ clocks_at {a = a} t (map (seen {a = a}) rs) = clocks_even {a = a} t rs even.1 in
    λ k. (r.1.node.ring.me, read k) ∷ rest k

clocks_same : {a : Upper} (p : Cluster a) (w : World a) → Mirrors {a = a} p w → clocks_in w ≡ clocks_by p
clocks_same {a} p w m = clocks_even {a = a} p.time w.nodes m.even ∙ ap (clocks_at {a = a} p.time) m.nodes

-- Entries.

acts_entry : {a : Upper} (c : FabricConfig) (p : Cluster a) (w : World a) (n : ℕ) (i : Input) (s : NodeState a) → Mirrors {a = a} p w →
    at n p.nodes ≡ Some s → (acts_at a c w n i (at n w.nodes)).entry ≡ node_acts_in a c p i (at n p.nodes)
acts_entry {a} c p w n i s m h =
    let r : RunsAs {a = a} w n s = runs_as p w n s m h in
    let time : r.state.reading ≡ p.time = (even_at p.time n w.nodes r.state m.even r.here).reading in
    ap (λ (o : Option (Running a)). (acts_at a c w n i o).entry) r.here
    ∙ (λ k. did (time k) (m.count k) (node_step a c (time k) i (r.same k)))
    ∙ sym (ap (node_acts_in a c p i) h)
  where
    did : ℕ → ℕ → Did (NodeState a) → Option Entry
    did t count d = Some (record { who = d.state.ring.me; reading = Some t; sent = numbers_of count d.sent; reports = d.told })

fire_entry : {a : Upper} (c : FabricConfig) (p : Cluster a) (w : World a) (n : ℕ) (s : NodeState a) → Mirrors {a = a} p w → at n p.nodes ≡ Some s →
    (world_step a c w (event.Fire n)).entry ≡ entry_for a c p (Fires n)
unfolding world_step
fire_entry c p w n s m h = acts_entry c p w n input.Fire s m h

bid_entry : {a : Upper} (c : FabricConfig) (p : Cluster a) (w : World a) (n : ℕ) (d : Command) (s : NodeState a) → Mirrors {a = a} p w → at n p.nodes ≡ Some s →
    (world_step a c w (event.Do n d)).entry ≡ entry_for a c p (Bids n d)
unfolding world_step
bid_entry c p w n d s m h = acts_entry c p w n (input.Do d) s m h

tick_entry : {a : Upper} (c : FabricConfig) (p : Cluster a) (w : World a) (u : ℕ) → (world_step a c w (tick_to p u)).entry ≡ None
unfolding world_step
tick_entry c p w u = refl

-- after its tick
start_entry : {a : Upper} (c : FabricConfig) (q : Cluster a) (w : World a) (n u : ℕ) → Mirrors {a = a} q w → q.time ≡ u →
    (world_step a c w (event.Start n (Some u))).entry ≡ Some (node_entry q (node_begun a c n (kept_by q n)))
unfolding world_step
start_entry {a} c q w n u m e =
    let time : u ≡ q.time = sym e in
    let kept : kept_of w n ≡ kept_by q n = kept_same q w n m in
    λ k. did (time k) (m.count k) (node_begun a c n (kept k))
  where
    did : ℕ → ℕ → Did (NodeState a) → Option Entry
    did t count d = Some (record { who = d.state.ring.me; reading = Some t; sent = numbers_of count d.sent; reports = d.told })

stand_entry : {a : Upper} (c : FabricConfig) (p : Cluster a) (w : World a) (n : ℕ) →
    (world_step a c w (event.Start (arbiter_actor n) None)).entry ≡ entry_for a c p (Stands n)
unfolding world_step
stand_entry c p w n = ap (λ (k : ℕ). arbiter_seen k []) (number_of n)

none_at : {X : Type 0} (o : Option X) → is_some o ≡ false → o ≡ None
none_at None h = refl
none_at (Some x) h = cc

node_hears_entry : {a : Upper} (c : FabricConfig) (p : Cluster a) (w : World a) (f : Message) (o : Option (NodeState a)) → at f.to.actor p.nodes ≡ o →
    Mirrors {a = a} p w → FitsInstance p f false →
    (arrives_at_node a c w f (at f.to.actor w.nodes)).entry ≡ node_acts_in a c p (input.Frame f) (at f.to.actor p.nodes)
node_hears_entry {a} c p w f None e m fits =
    ap (λ (o : Option (Running a)). (arrives_at_node a c w f o).entry) (none_at (at f.to.actor w.nodes) (none_runs p w f.to.actor m e))
    ∙ sym (ap (node_acts_in a c p (input.Frame f)) e)
node_hears_entry {a} c p w f (Some s) e m fits =
    let r = runs_as p w f.to.actor s m e in
    let instance : (f.to.instance == 0 || f.to.instance == r.state.node.ring.me.instance) ≡ true =
    ap (λ (x : NodeState a). f.to.instance == 0 || f.to.instance == x.ring.me.instance) r.same ∙ fits s e in
    let here : arrives_at_node a c w f (at f.to.actor w.nodes) ≡ acts_at a c w f.to.actor (input.Frame f) (at f.to.actor w.nodes) =
    ap (arrives_at_node a c w f) r.here ∙ ap (arrives_if a c w f r.state) instance ∙ sym (ap (acts_at a c w f.to.actor (input.Frame f)) r.here) in
    ap (λ (x : Stepped a). x.entry) here ∙ acts_entry c p w f.to.actor (input.Frame f) s m e

arbiter_hears_entry : {a : Upper} (c : FabricConfig) (p : Cluster a) (w : World a) (f : Message) (n : ℕ) (o : Option (ArbiterState a)) →
    at n p.arbiters ≡ o → Mirrors {a = a} p w → (arrives_at_arbiter a c w f n (at n w.arbiters)).entry ≡ arbiter_acts_in a c p n f (at n p.arbiters)
arbiter_hears_entry {a} c p w f n o e m =
    let there : at n w.arbiters ≡ o = ap (at n) m.arbiters ∙ e in
    ap (λ (x : Option (ArbiterState a)). (arrives_at_arbiter a c w f n x).entry) there ∙ did o m.count ∙ sym (ap (arbiter_acts_in a c p n f) e)
  where
    did : (x : Option (ArbiterState a)) → w.count ≡ p.count → (arrives_at_arbiter a c w f n x).entry ≡ arbiter_acts_in a c p n f x
    did None same = refl
    did (Some s) same = ap (λ (count : ℕ). let d = arbiter_step a c n f s in Some (record { who = arbiter_who n; reading = None; sent = numbers_of count d.sent; reports = d.told })) same

hears_entry : {a : Upper} (c : FabricConfig) (p : Cluster a) (w : World a) (f : Message) (b : Bool) → Mirrors {a = a} p w → FitsInstance p f b →
    (arrives_at a c w f b).entry ≡ hears_in a c p f b
hears_entry c p w f true m fits = arbiter_hears_entry c p w f (arbiter_number f.to.actor) (at (arbiter_number f.to.actor) p.arbiters) refl m
hears_entry c p w f false m fits = node_hears_entry c p w f (at f.to.actor p.nodes) refl m fits

give_entry : {a : Upper} (c : FabricConfig) (p : Cluster a) (w : World a) (k : ℕ) (f : Message) → Mirrors {a = a} p w → frame_of p k ≡ Some f →
    FitsInstance p f (is_arbiter_actor f.to.actor) → (world_step a c w (event.Give k)).entry ≡ entry_for a c p (Hears k)
unfolding world_step
give_entry {a} c p w k f m e fits =
    ap (λ (o : Option Message). (arrives a c w o).entry) (frame_same p w k m ∙ e)
    ∙ hears_entry c p w f (is_arbiter_actor f.to.actor) m fits
    ∙ sym (ap (heard_in a c p) e)

-- what an actor did in the newest moment
abbrev pub newest_entry : Run → Option Entry
newest_entry [] = None
newest_entry (m ∷ ms) = m.entry

-- One event more.

one_more : {a : Upper} (line : ℕ) (s : Stepped a) (p : Cluster a) (run steps : Run) (e : Option Entry) → Mirrors {a = a} p s.world → s.entry ≡ e →
    steps_of run ≡ steps → steps_of (moment_of {a = a} line s ∷ run) ≡ seen_in line p e steps
one_more {a} line s p run steps None m same before =
    steps_more (moment_of {a = a} line s) run
    ∙ ap (λ (o : Option Entry). kept_if (moment_of {a = a} line s) (steps_of run) (is_some o)) same
    ∙ before
one_more {a} line s p run steps (Some e) m same before =
    steps_more (moment_of {a = a} line s) run
    ∙ ap (λ (o : Option Entry). kept_if (moment_of {a = a} line s) (steps_of run) (is_some o)) same
    ∙ (λ k. record { line = line; time = m.time k; clocks = clocks_same p s.world m k; entry = same k } ∷ before k)

-- what has come, and the world that mirrors it
record Before (a : Upper) (c : FabricConfig) (xs : List Comes) : Type 0 where
  mirrors : Mirrors {a = a} (cluster_after a c xs) (world_after a c (events_of a c xs))
  steps : steps_of (run_of a c (events_of a c xs)) ≡ moments a c xs

module _ (a : Upper) (c : FabricConfig) (xs : List Comes) (before : Before a c xs) where
  abbrev p : Cluster a
  p = cluster_after a c xs

  abbrev w : World a
  w = world_after a c (events_of a c xs)

  -- one event more
  one_event : (x : Comes) (s : Stepped a) → Mirrors {a = a} (comes a c p x) s.world → s.entry ≡ entry_for a c p x →
      steps_of (moment_of {a = a} (length (events_of a c xs) + 2) s ∷ run_of a c (events_of a c xs)) ≡ seen_in (length (events_of a c xs) + 2) (comes a c p x) (entry_for a c p x) (moments a c xs)
  one_event x s after told = one_more {a = a} (length (events_of a c xs) + 2) s (comes a c p x) (run_of a c (events_of a c xs)) (moments a c xs) (entry_for a c p x) after told before.steps

  more_seen : (x : Comes) → MayArrive a c p x → Mirrors {a = a} (cluster_after a c (x ∷ xs)) (world_after a c (events_of a c (x ∷ xs))) →
      steps_of (run_of a c (events_of a c (x ∷ xs))) ≡ moments a c (x ∷ xs)
  more_seen (Begins n u) may after =
      let ticked : Stepped a = world_step a c w (tick_to p u) in
      let line : ℕ = length (events_of a c xs) + 2 in
      let mirrors : Mirrors {a = a} (record p { time = u }) ticked.world = tick_mirrors c p w u before.mirrors may.2 in
      let run : Run = moment_of {a = a} line ticked ∷ run_of a c (events_of a c xs) in
      let still : steps_of run ≡ moments a c xs =
      one_more {a = a} line ticked (record p { time = u }) (run_of a c (events_of a c xs)) (moments a c xs) None mirrors (tick_entry c p w u) before.steps in
      one_more {a = a} (last_line (events_of a c (Begins n u ∷ xs))) (world_step a c ticked.world (event.Start n (Some u))) (cluster_after a c (Begins n u ∷ xs)) run (moments a c xs)
      (entry_for a c p (Begins n u)) after (start_entry c (record p { time = u }) ticked.world n u mirrors refl) still
  more_seen (Stands n) may after = one_event (Stands n) (world_step a c w (event.Start (arbiter_actor n) None)) after (stand_entry c p w n)
  more_seen (Turns u) may after = one_event (Turns u) (world_step a c w (tick_to p u)) after (tick_entry c p w u)
  more_seen (Bids n d) may after = one_event (Bids n d) (world_step a c w (event.Do n d)) after (bid_entry c p w n d may.0 before.mirrors may.1.0)
  more_seen (Hears k) may after = one_event (Hears k) (world_step a c w (event.Give k)) after (give_entry c p w k may.0 before.mirrors may.1.2 may.1.3)
  more_seen (Fires n) may after = one_event (Fires n) (world_step a c w (event.Fire n)) after (fire_entry c p w n may.0 before.mirrors may.1)

  -- what the schedule's newest moment shows is what this does
  newest_seen : (x : Comes) → MayArrive a c p x → newest_entry (run_of a c (events_of a c (x ∷ xs))) ≡ entry_for a c p x
  newest_seen (Begins n u) may = start_entry c (record p { time = u }) (world_step a c w (tick_to p u)).world n u (tick_mirrors c p w u before.mirrors may.2) refl
  newest_seen (Stands n) may = stand_entry c p w n
  newest_seen (Turns u) may = tick_entry c p w u
  newest_seen (Bids n d) may = bid_entry c p w n d may.0 before.mirrors may.1.0
  newest_seen (Hears k) may = give_entry c p w k may.0 before.mirrors may.1.2 may.1.3
  newest_seen (Fires n) may = fire_entry c p w n may.0 before.mirrors may.1

pub all_seen : (a : Upper) (c : FabricConfig) (xs : List Comes) → IsCluster a c xs → steps_of (run_of a c (events_of a c xs)) ≡ moments a c xs
all_seen a c [] k = refl
all_seen a c (x ∷ xs) k =
    more_seen a c xs (record { mirrors = (all_followed a (λ bytes. false) c xs k.0).mirrors; steps = all_seen a c xs k.0 }) x k.1 (all_followed a (λ bytes. false) c (x ∷ xs) k).mirrors

pub entry_seen : (a : Upper) (c : FabricConfig) (xs : List Comes) (x : Comes) → IsCluster a c (x ∷ xs) →
    newest_entry (run_of a c (events_of a c (x ∷ xs))) ≡ entry_for a c (cluster_after a c xs) x
entry_seen a c xs x k = newest_seen a c xs (record { mirrors = (all_followed a (λ bytes. false) c xs k.0).mirrors; steps = all_seen a c xs k.0 }) x k.1
