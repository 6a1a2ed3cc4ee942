-- A process goes with a cluster: the same actors in the same states, the same frames, and the same is seen.
use Rattle.std.proofs.Common.{arith, ◌≡◌, ◌≤◌, ◌+◌, ℕ, Bool, true, false, List, [], ◌∷◌, ◌++◌, length, Option, Some, None, refl, ap, sym, subst, ◌∙◌}
use Rattle.std.specs.Prelude.{◌==◌, find, option_map, if◌then◌else◌}
use Rattle.ring_safety.specs.ClusterEvents.{Cluster, Comes, IsCluster, MayArrive, Turns, cluster_after, comes, events_of, kept_by}
use Rattle.ring_safety.specs.ClusterMoments.{clocks_at, entry_for, last_line, moments, seen_in}
use Rattle.unit_rules.specs.Fabric.{fabric}
use Rattle.fabric_lemmas.specs.Maps.{at}
use Rattle.fabric_terms.specs.declared.message.Body.{Body}
use Rattle.fabric_terms.specs.declared.message.Message.{Message}
use Rattle.fabric_terms.specs.Runs.{Clocks, Entry, Run, clocks_of, reading_of}
use Rattle.ring_points.specs.Whos.{same_who}
use Rattle.ring_points.specs.declared.who.Who.{Who}
use Rattle.turn_rules.specs.Plans.{Setting}
use Rattle.turn_rules.specs.Steps.{Member, Step, present}
use Rattle.world_rules.specs.Nodes.{NodeState}
use Rattle.world_rules.specs.Worlds.{posted}
use Rattle.cluster_safety.specs.Logs.{recorded_by}
use Rattle.cluster_safety.specs.Moments.{all_read, frames_of, is_node_start, last_reading, moment_of, moments_of, running}
use Rattle.cluster_safety.proofs.Echoes.{Echoes, echoes_first, echoes_later, echoes_more, echoes_silent, entry_of, nothing_more, recorded_more}
use Rattle.cluster_safety.proofs.Members.{AllBelow, Match, arbiters_in, names_of, nodes_in}
use Rattle.cluster_safety.proofs.Runs.{HadReading, Shows, shows_both, shows_nothing, shows_silent}

-- the cluster after this
abbrev pub cluster : Setting → List Comes → Cluster fabric
cluster s xs = cluster_after fabric s.plan.config xs

-- what came to the cluster while all this came to the process
pub record Joined (s : Setting) (ms : List Member) (last : Option ℕ) (steps : List Step) : Type 0 where
  pub xs : List Comes
  pub is_cluster : IsCluster fabric s.plan.config xs
  pub places : Match ms s.plan.actors
  pub nodes : (cluster s xs).nodes ≡ nodes_in ms
  pub arbiters : (cluster s xs).arbiters ≡ arbiters_in ms
  pub time : (cluster s xs).time ≡ present last
  pub kept : (k : ℕ) → AllBelow k ms → at k (cluster s xs).kept ≡ None
  pub frames : (cluster s xs).frames ≡ frames_of steps
  pub count : (cluster s xs).count ≡ length (frames_of steps)
  pub names : running steps ≡ names_of (nodes_in ms)
  pub seen_at : ℕ
  pub clocks : clocks_of (moments fabric s.plan.config xs) ≡ clocks_at {a = fabric} seen_at (cluster s xs).nodes
  pub before : seen_at ≤ (cluster s xs).time
  pub shows : Shows (moments_of steps) (moments fabric s.plan.config xs)
  pub records : (actor : ℕ) → recorded_by actor steps ≡ kept_by (cluster s xs) actor
  pub echoes : Echoes s.plan.config xs steps

pub joined_first : (s : Setting) → Joined s [] None []
joined_first s = record {
  xs = [];
  is_cluster = tt;
  places = tt;
  nodes = refl;
  arbiters = refl;
  time = refl;
  kept = λ k below. refl;
  frames = refl;
  count = refl;
  names = refl;
  seen_at = 0;
  clocks = refl;
  before = omega arith;
  shows = shows_nothing;
  records = λ actor. refl;
  echoes = echoes_first s.plan.config;
}

-- The cluster after one thing more, which is this step of the process.
pub record Grows (s : Setting) (old : List Member) (steps : List Step) (j_xs : List Comes) (x : Comes) (ms : List Member) (last : Option ℕ) (step : Step) : Type 0 where
  pub may : MayArrive fabric s.plan.config (cluster s j_xs) x
  pub after : Cluster fabric
  pub does : comes fabric s.plan.config (cluster s j_xs) x ≡ after
  pub tells : entry_for fabric s.plan.config (cluster s j_xs) x ≡ Some (entry_of (length (frames_of steps)) step)
  pub places : Match ms s.plan.actors
  pub nodes : after.nodes ≡ nodes_in ms
  pub arbiters : after.arbiters ≡ arbiters_in ms
  pub time : after.time ≡ present last
  pub kept : (k : ℕ) → AllBelow k ms → at k after.kept ≡ None
  pub frames : after.frames ≡ frames_of (step ∷ steps)
  pub count : after.count ≡ length (frames_of (step ∷ steps))
  pub names : running (step ∷ steps) ≡ names_of (nodes_in ms)
  pub reading : last_reading (step ∷ steps) ≡ present last
  pub keeps : (actor : ℕ) → kept_by after actor ≡ recorded_more step actor (kept_by (cluster s j_xs) actor)

clocks_by_names : (t : ℕ) (ns : List (ℕ × NodeState fabric)) → all_read t (names_of ns) ≡ clocks_at {a = fabric} t ns
clocks_by_names t [] = refl
clocks_by_names t (n ∷ ns) = ap (λ (cs : Clocks). (n.1.ring.me, t) ∷ cs) (clocks_by_names t ns)

pub joined_more : (s : Setting) (old ms : List Member) (last now : Option ℕ) (steps : List Step) (step : Step) (x : Comes) (j : Joined s old last steps) →
    Grows s old steps j.xs x ms now step → Joined s ms now (step ∷ steps)
joined_more s old ms last now steps step x j g =
    let e : Entry = entry_of (length (frames_of steps)) step in
    let q : Cluster fabric = cluster s (x ∷ j.xs) in
    let line : ℕ = last_line (events_of fabric s.plan.config (x ∷ j.xs)) in
    let rest : Run = moments fabric s.plan.config j.xs in
    let time : q.time ≡ present now = ap (λ (p : Cluster fabric). p.time) g.does ∙ g.time in
    let nodes : q.nodes ≡ nodes_in ms = ap (λ (p : Cluster fabric). p.nodes) g.does ∙ g.nodes in
    let clocks : all_read (last_reading (step ∷ steps)) (running (step ∷ steps)) ≡ clocks_at {a = fabric} q.time q.nodes =
    ap (λ (t : ℕ). all_read t (running (step ∷ steps))) (g.reading ∙ sym time)
    ∙ ap (all_read q.time) g.names
    ∙ clocks_by_names q.time (nodes_in ms)
    ∙ ap (clocks_at {a = fabric} q.time) (sym nodes) in
    let records : (actor : ℕ) → recorded_by actor (step ∷ steps) ≡ kept_by q actor =
    λ actor. ap (recorded_more step actor) (j.records actor) ∙ sym (g.keeps actor) ∙ sym (ap (λ (p : Cluster fabric). kept_by p actor) g.does) in
    record {
      xs = x ∷ j.xs;
      is_cluster = (j.is_cluster, g.may);
      places = g.places;
      nodes = nodes;
      arbiters = ap (λ (p : Cluster fabric). p.arbiters) g.does ∙ g.arbiters;
      time = time;
      kept = λ k below. ap (λ (p : Cluster fabric). at k p.kept) g.does ∙ g.kept k below;
      frames = ap (λ (p : Cluster fabric). p.frames) g.does ∙ g.frames;
      count = ap (λ (p : Cluster fabric). p.count) g.does ∙ g.count;
      names = g.names;
      seen_at = q.time;
      clocks = ap (λ (o : Option Entry). clocks_of (seen_in line q o rest)) g.tells;
      before = omega arith;
      shows =
          subst (λ (r : Run). Shows (moments_of (step ∷ steps)) r) (sym (ap (λ (o : Option Entry). seen_in line q o rest) g.tells))
          (shows_both (moment_of step steps) (record { line = line; time = q.time; clocks = clocks_at {a = fabric} q.time q.nodes; entry = Some e }) (moments_of steps) rest j.shows clocks refl);
      records = records;
      echoes = echoes_more s.plan.config j.xs steps j.echoes x step g.tells records;
    }

-- The clock is read.
pub joined_at : (s : Setting) (ms : List Member) (last : Option ℕ) (steps : List Step) (reading : ℕ) → Joined s ms last steps → present last ≤ reading →
    Joined s ms (Some reading) steps
joined_at s ms last steps reading j le = record {
  xs = Turns reading ∷ j.xs;
  is_cluster = (j.is_cluster, omega (arith, j.time, le));
  places = j.places;
  nodes = j.nodes;
  arbiters = j.arbiters;
  time = refl;
  kept = j.kept;
  frames = j.frames;
  count = j.count;
  names = j.names;
  seen_at = j.seen_at;
  clocks = j.clocks;
  before = let b = j.before in omega (arith, j.time, le);
  shows = j.shows;
  records = j.records;
  echoes = echoes_later s.plan.config j.xs steps j.echoes (Turns reading);
}

-- A step that tells nothing and changes nothing.

read_all : (w : Who) (ws : List Who) (t u reading : ℕ) → t ≤ u → reading_of w (all_read u ws) ≡ Some reading → HadReading (all_read t ws) w reading
read_all w [] t u reading le h = cc
read_all w (x ∷ ws) t u reading le h = by_test (same_who x w) refl h (read_all w ws t u reading le)
  where
    by_test : (b : Bool) → same_who x w ≡ b →
        option_map (λ (c : Who × ℕ). c.1) (if b then Some (x, u) else find (λ (c : Who × ℕ). same_who c.0 w) (all_read u ws)) ≡ Some reading →
        (reading_of w (all_read u ws) ≡ Some reading → HadReading (all_read t ws) w reading) → HadReading (all_read t (x ∷ ws)) w reading
    by_test true e f again =
        let same : u ≡ reading = cc in
        record {
          earlier = t;
          le = omega arith;
          there = ap (λ (b : Bool). option_map (λ (c : Who × ℕ). c.1) (if b then Some (x, t) else find (λ (c : Who × ℕ). same_who c.0 w) (all_read t ws))) e;
        }
    by_test false e f again =
        let r = again f in
        record {
          earlier = r.earlier;
          le = r.le;
          there =
              ap (λ (b : Bool). option_map (λ (c : Who × ℕ). c.1) (if b then Some (x, t) else find (λ (c : Who × ℕ). same_who c.0 w) (all_read t ws))) e
              ∙ r.there;
        }

pub running_still : (step : Step) (steps : List Step) → is_node_start step ≡ false → running (step ∷ steps) ≡ running steps
running_still step steps h = ap (λ (b : Bool). if b then running steps ++ step.who ∷ [] else running steps) h

pub joined_silent : (s : Setting) (ms : List Member) (last : Option ℕ) (steps : List Step) (step : Step) → Joined s ms last steps → is_node_start step ≡ false →
    step.sent ≡ [] → step.told ≡ [] → step.records ≡ [] → last_reading (step ∷ steps) ≡ present last → Joined s ms last (step ∷ steps)
joined_silent s ms last steps step j start sent told none reading =
    let frames : frames_of steps ≡ frames_of (step ∷ steps) = ap (λ (ms : List (Who × Body)). posted step.who ms (frames_of steps)) (sym sent) in
    let names : running (step ∷ steps) ≡ names_of (nodes_in ms) = running_still step steps start ∙ j.names in
    let clocks : clocks_of (moments fabric s.plan.config j.xs) ≡ all_read j.seen_at (running (step ∷ steps)) =
    j.clocks
    ∙ ap (clocks_at {a = fabric} j.seen_at) j.nodes
    ∙ sym (clocks_by_names j.seen_at (nodes_in ms))
    ∙ ap (all_read j.seen_at) (sym names) in
    let le : j.seen_at ≤ last_reading (step ∷ steps) = let b = j.before in omega (arith, reading, j.time) in
    record {
      xs = j.xs;
      is_cluster = j.is_cluster;
      places = j.places;
      nodes = j.nodes;
      arbiters = j.arbiters;
      time = j.time;
      kept = j.kept;
      frames = j.frames ∙ frames;
      count = j.count ∙ ap (λ (fs : List Message). length fs) frames;
      names = names;
      seen_at = j.seen_at;
      clocks = j.clocks;
      before = j.before;
      shows =
          shows_silent (moment_of step steps) (entry_of (length (frames_of steps)) step) (moments_of steps) (moments fabric s.plan.config j.xs) j.shows refl told
          (λ w r h. subst (λ (cs : Clocks). HadReading cs w r) (sym clocks) (read_all w (running (step ∷ steps)) j.seen_at (last_reading (step ∷ steps)) r le h));
      records = λ actor. sym (nothing_more (step.who.actor == actor) (recorded_by actor steps) step.records none) ∙ j.records actor;
      echoes = echoes_silent s.plan.config j.xs steps j.echoes step told;
    }

pub posted_length : (who : Who) (sent : List (Who × Body)) (frames : List Message) → length (posted who sent frames) ≡ length frames + length sent
posted_length who [] frames = omega arith
posted_length who (m ∷ ms) frames = let more = posted_length who ms (record { from = who; to = m.0; body = m.1 } ∷ frames) in omega arith
