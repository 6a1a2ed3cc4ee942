-- Each event keeps the world to the ranges of frames.
use Rattle.std.proofs.Common.{◌≡◌, ℕ, ◌+◌, ◌-◌, Bool, true, false, not, ◌||◌, List, [], ◌∷◌, ◌++◌, Option, Some, None, map, IsTrue, refl, subst}
use Rattle.std.specs.Prelude.{◌==◌, All, unwrap_or}
use Rattle.std.proofs.lemmas.Bool.{and_parts}
use Rattle.std.proofs.lemmas.List.Elements.{All-append, All-cons, All-head, All-nil, All-tail, All-weaker}
use Rattle.fabric_terms.specs.declared.config.FabricConfig.{FabricConfig}
use Rattle.fabric_terms.specs.declared.event.Event.{Event}
use Rattle.fabric_terms.specs.declared.event.Event.TheVariants.{Start, Stop, Tick, Fire, Give, Do, Junk}
use Rattle.fabric_terms.specs.declared.message.Message.{Message}
use Rattle.fabric_terms.specs.declared.record.Record.{Record}
use Rattle.fabric_terms.specs.Sound.{IsSound}
use Rattle.drift_clock.specs.Within.{Pair}
use Rattle.ring_rules.specs.declared.input.Input.{Input}
use Rattle.ring_rules.specs.declared.input.Input.TheVariants as input
use Rattle.fabric_terms.specs.Ranges.{Fits, IsReading, IsNumber}
use Rattle.world_rules.specs.Arbiters.{ArbiterState, arbiter_begun, arbiter_step}
use Rattle.world_rules.specs.Events.{acts_at, arbiter_number, arbiter_stops, arrives, arrives_at, arrives_at_arbiter, arrives_at_node, arrives_if, is_arbiter_actor, node_stops, starts, stops, ticked, ticks, world_step}
use Rattle.fabric_lemmas.specs.Maps.{at, put}
use Rattle.world_rules.specs.Nodes.{NodeState, node_begun, node_step}
use Rattle.world_rules.specs.Schedules.{MayCome, is_configured_node, may_start, node_runs}
use Rattle.world_rules.specs.Uppers.{Upper, Did}
use Rattle.world_rules.specs.Worlds.{Running, World, arbiter_acted, arbiter_who, empty_world, frame_in, kept_of, node_acted}
use Rattle.world_rules.proofs.Rows.{is_there-start}
use Rattle.frames_fit.specs.Above.{SendsInFormat}
use Rattle.frames_fit.specs.Formats.{InputInFormat}
use Rattle.frames_fit.proofs.Arbiters.{ArbiterActs, ArbiterInRange, arbiter_acts, arbiter_begins}
use Rattle.frames_fit.proofs.Facts.{within_from}
use Rattle.frames_fit.proofs.Nodes as nodes
use Rattle.frames_fit.proofs.Nodes.{LiveInRange, NodeActs, node_begins}
use Rattle.frames_fit.proofs.Each.{Each, at_each, got_all, put_each, without_each}
use Rattle.frames_fit.proofs.Posting.{KeptInRange, Sound}

-- a running node: its clock and its state
pub record RunningInRange (a : Upper) (p : SendsInFormat a) (c : FabricConfig) (s : Running a) : Type 0 where
  pub reading : IsNumber s.reading
  pub node : LiveInRange a p c s.node

pub record WorldInRange (a : Upper) (p : SendsInFormat a) (c : FabricConfig) (w : World a) : Type 0 where
  pub nodes : Each (RunningInRange a p c) w.nodes
  pub arbiters : Each (ArbiterInRange a p c) w.arbiters
  pub kept : Each (All (KeptInRange p)) w.kept
  pub frames : All Sound w.frames

pub empty_in_range : (a : Upper) (p : SendsInFormat a) (c : FabricConfig) → WorldInRange a p c (empty_world a)
empty_in_range a p c = record {
  nodes = All-nil (λ e. RunningInRange a p c e.1);
  arbiters = All-nil (λ e. ArbiterInRange a p c e.1);
  kept = All-nil (λ e. All (KeptInRange p) e.1);
  frames = All-nil Sound;
}

module _ (a : Upper) (p : SendsInFormat a) (c : FabricConfig) (sound : IsSound c) (w : World a) (h : WorldInRange a p c w) where
  abbrev Fine : World a → Type 0
  Fine v = WorldInRange a p c v

  -- records of an actor, and with more of them

  pub kept_in_range : (actor : ℕ) → All (KeptInRange p) (kept_of w actor)
  kept_in_range actor = found (at actor w.kept) refl
    where
      found : (o : Option (List Record)) → at actor w.kept ≡ o → All (KeptInRange p) (unwrap_or o [])
      found None e = All-nil (KeptInRange p)
      found (Some rs) e = at_each (All (KeptInRange p)) actor w.kept rs h.kept e

  kept_with : (actor : ℕ) (records : List Record) → All (KeptInRange p) records → Each (All (KeptInRange p)) (put actor (kept_of w actor ++ records) w.kept)
  kept_with actor records more =
      put_each (All (KeptInRange p)) actor (kept_of w actor ++ records) w.kept
      (All-append (KeptInRange p) (kept_of w actor) records (kept_in_range actor) more) h.kept

  -- what a node and an arbitrator do

  node_did : (n reading : ℕ) (pairs : List Pair) (d : Did (NodeState a)) → IsNumber reading → NodeActs a p c d → Fine (node_acted a w n reading pairs d).world
  node_did n reading pairs d reads did = record {
    nodes =
        put_each (RunningInRange a p c) n (record { node = d.state; reading = reading; pairs = pairs }) w.nodes
        (record { reading = reads; node = did.state }) h.nodes;
    arbiters = h.arbiters;
    kept = kept_with d.state.ring.me.actor d.records did.acts.records;
    frames = did.acts.posts w.frames h.frames;
  }

  arbiter_did : (arbiter : ℕ) (d : Did (ArbiterState a)) → ArbiterActs a p c (arbiter_who arbiter) d → Fine (arbiter_acted a w arbiter d).world
  arbiter_did arbiter d did = record {
    nodes = h.nodes;
    arbiters = put_each (ArbiterInRange a p c) arbiter d.state w.arbiters did.state h.arbiters;
    kept = kept_with (arbiter_who arbiter).actor d.records did.acts.records;
    frames = did.acts.posts w.frames h.frames;
  }

  -- starts and stops

  start : (actor : ℕ) (o : Option ℕ) → Fits (Start actor o) → IsTrue (may_start c w actor o) → Fine (starts a c w actor o).world
  start actor (Some reading) f may =
      let listed : is_configured_node c actor ≡ true = (and_parts (is_configured_node c actor) (not (node_runs w actor)) may).0 in
      node_did actor reading ((w.time, reading) ∷ []) (node_begun a c actor (kept_of w actor)) f.1
      (node_begins a p c sound actor (kept_of w actor) (within_from 1 999 actor f.0.0 f.0.1) listed (kept_in_range actor))
  start actor None f may = record {
    nodes = h.nodes;
    arbiters = put_each (ArbiterInRange a p c) (arbiter_number actor) (arbiter_begun a c (arbiter_number actor) (kept_of w actor)) w.arbiters
        (arbiter_begins a p c sound (arbiter_number actor) (kept_of w actor) (kept_in_range actor)) h.arbiters;
    kept = h.kept;
    frames = h.frames;
  }

  stop : (actor : ℕ) (b : Bool) → Fine (stops a w actor b).world
  stop actor true = table (at (arbiter_number actor) w.arbiters)
    where
      table : (o : Option (ArbiterState a)) → Fine (arbiter_stops a w (arbiter_number actor) o).world
      table None = h
      table (Some s) = record {
        nodes = h.nodes;
        arbiters = without_each (ArbiterInRange a p c) (arbiter_number actor) w.arbiters h.arbiters;
        kept = h.kept;
        frames = h.frames;
      }
  stop actor false = node (at actor w.nodes)
    where
      node : (o : Option (Running a)) → Fine (node_stops a w actor o).world
      node None = h
      node (Some s) = record {
        nodes = without_each (RunningInRange a p c) actor w.nodes h.nodes;
        arbiters = h.arbiters;
        kept = h.kept;
        frames = h.frames;
      }

  -- ticks

  ticked_in_range : (time : ℕ) (readings : List (ℕ × ℕ)) (ns : List (ℕ × Running a)) → Each IsNumber readings → Each (RunningInRange a p c) ns →
      Each (RunningInRange a p c) (map (ticked {a = a} time readings) ns)
  ticked_in_range time readings [] reads k = All-nil (λ e. RunningInRange a p c e.1)
  ticked_in_range time readings (n ∷ ns) reads k =
      let r : RunningInRange a p c n.1 = All-head (λ e. RunningInRange a p c e.1) n ns k in
      All-cons (λ e. RunningInRange a p c e.1) (ticked {a = a} time readings n) (map (ticked {a = a} time readings) ns)
      (record { reading = shown (at n.0 readings) refl r.reading; node = r.node })
      (ticked_in_range time readings ns reads (All-tail (λ e. RunningInRange a p c e.1) n ns k))
    where
      shown : (o : Option ℕ) → at n.0 readings ≡ o → IsNumber n.1.reading → IsNumber (unwrap_or o n.1.reading)
      shown None e before = before
      shown (Some reading) e before = at_each IsNumber n.0 readings reading reads e

  tick : (time : ℕ) (readings : List (ℕ × ℕ)) → All IsReading readings → Fine (ticks a w time readings).world
  tick time readings f = record {
    nodes = ticked_in_range time readings w.nodes (All-weaker IsReading (λ r. IsNumber r.1) (λ r g. g.1) readings f) h.nodes;
    arbiters = h.arbiters;
    kept = h.kept;
    frames = h.frames;
  }

  -- inputs

  act : (node : ℕ) (i : Input) → InputInFormat i → (o : Option (Running a)) → at node w.nodes ≡ o → Fine (acts_at a c w node i o).world
  act node i f None e = h
  act node i f (Some s) e =
      let r = at_each (RunningInRange a p c) node w.nodes s h.nodes e in
      node_did node s.reading s.pairs (node_step a c s.reading i s.node) r.reading (nodes.node_acts a p c sound s.reading i s.node r.reading f r.node)

  arrive_if : (f : Message) (s : Running a) (b : Bool) → at f.to.actor w.nodes ≡ Some s → Sound f → Fine (arrives_if a c w f s b).world
  arrive_if f s true e m = act f.to.actor (input.Frame f) m (Some s) e
  arrive_if f s false e m = h

  arrive_at_node : (f : Message) (o : Option (Running a)) → at f.to.actor w.nodes ≡ o → Sound f → Fine (arrives_at_node a c w f o).world
  arrive_at_node f None e m = h
  arrive_at_node f (Some s) e m = arrive_if f s (f.to.instance == 0 || f.to.instance == s.node.ring.me.instance) e m

  arrive_at_arbiter : (f : Message) (arbiter : ℕ) (o : Option (ArbiterState a)) → at arbiter w.arbiters ≡ o → Sound f →
      Fine (arrives_at_arbiter a c w f arbiter o).world
  arrive_at_arbiter f arbiter None e m = h
  arrive_at_arbiter f arbiter (Some s) e m =
      arbiter_did arbiter (arbiter_step a c arbiter f s)
      (arbiter_acts a p c sound arbiter f m s (at_each (ArbiterInRange a p c) arbiter w.arbiters s h.arbiters e))

  arrive_at : (f : Message) (b : Bool) → Sound f → Fine (arrives_at a c w f b).world
  arrive_at f true m = arrive_at_arbiter f (arbiter_number f.to.actor) (at (arbiter_number f.to.actor) w.arbiters) refl m
  arrive_at f false m = arrive_at_node f (at f.to.actor w.nodes) refl m

  arrive : (number : ℕ) (o : Option Message) → frame_in w number ≡ o → Fine (arrives a c w o).world
  arrive number None e = h
  arrive number (Some f) e = arrive_at f (is_arbiter_actor f.to.actor) (got_all Sound w.frames (w.count - number) f h.frames e)

  -- an event that may come
  pub event_in_range : (is_frame : List ℕ → Bool) (e : Event) → Fits e → MayCome is_frame c w e → Fine (world_step a c w e).world
  unfolding world_step
  event_in_range is_frame (Start actor o) f may = start actor o f (subst IsTrue (is_there-start is_frame c w actor o) may.there)
  event_in_range is_frame (Stop actor) f may = stop actor (is_arbiter_actor actor)
  event_in_range is_frame (Tick advance readings) f may = tick (w.time + advance) readings f.1.1
  event_in_range is_frame (Fire node) f may = act node input.Fire tt (at node w.nodes) refl
  event_in_range is_frame (Give frame) f may = arrive frame (frame_in w frame) refl
  event_in_range is_frame (Do node command) f may = act node (input.Do command) f.1 (at node w.nodes) refl
  event_in_range is_frame (Junk actor bytes) f may = h
