-- A node's step: the world stands for the world after it.
use Rattle.std.proofs.Common.{◌≡◌, ℕ, zero, suc, ◌+◌, ◌≤◌, ◌<◌, ◌^◌, false, List, [], ◌∷◌, ◌++◌, Option, Some, refl, sym, ap, subst, ◌∙◌, arith, length, get_or}
use Rattle.std.specs.Prelude.{◌==◌, unwrap_or, slice_get, slice_set, map, All, Vec, Box}
use Rattle.std.proofs.lemmas.List.{length-set, set-get_or}
use Rattle.drift_clock.specs.Extremes.{Extremes, Stands as DriftStands}
use Rattle.std.specs.Box.{with_value}
use Rattle.std.specs.Vec.{with_item}
use Rattle.std.specs.declared.alloc.Global.{Global}
use Rattle.fabric_terms.specs.Runs.{Entry}
use Rattle.fabric_terms.specs.declared.config.FabricConfig.{FabricConfig}
use Rattle.fabric_terms.specs.declared.message.Message.{Message}
use Rattle.fabric_terms.specs.declared.record.Record.{Record}
use Rattle.fabric_terms.specs.declared.report.Report.{Report}
use Rattle.node_core.specs.Nodes.{Core, Does, FitsInput, GoesBy, IsSmall, frames_limit}
use Rattle.node_core.specs.declared.outcome.Outcome.{Outcome}
use Rattle.point_places.specs.Spots.{place_at}
use Rattle.ring_points.specs.Whos.{arbiter_actor}
use Rattle.ring_points.specs.declared.who.Who.{Who}
use Rattle.ring_rules.specs.Rings.{settings_of}
use Rattle.ring_rules.specs.declared.input.Input.{Input}
use Rattle.world_rules.specs.Events.{node_acts}
use Rattle.fabric_lemmas.specs.Maps.{at, put}
use Rattle.world_rules.specs.Nodes.{NodeState, node_step}
use Rattle.unit_rules.specs.Fabric.{fabric}
use Rattle.world_rules.specs.Uppers.{Did}
use Rattle.world_rules.specs.Worlds.{World as RuledWorld, Running as RuledRunning, kept_of, numbers_of}
use Rattle.fabric_lemmas.proofs.Maps.{rises-put}
use Rattle.ring_world.specs.Answers.{entry_of}
use Rattle.ring_world.specs.Commits.{posted_all, numbers_after}
use Rattle.ring_world.specs.Moves.{Moves, Same, placed_by}
use Rattle.world_rules.specs.EventLimits.{most_events, most_frames}
use Rattle.ring_world.specs.Running.{AllRun, RunsAs}
use Rattle.ring_world.specs.Seen.{Seen, seen_of}
use Rattle.ring_world.specs.Stands.{IsKeptAs, KeptStand, NodesStand, SeenStands, Stands}
use Rattle.ring_world.specs.Steps.{IsSoundFrame, LeavesSound}
use Rattle.ring_world.specs.declared.running.Running.{Running}
use Rattle.ring_world.specs.declared.world.Acted.{Acted}
use Rattle.ring_world.specs.declared.world.World.{World}
use Rattle.ring_world.proofs.Growth.{kept_here, kept_there, posted_is, from-length, numbers_are, arbiters_on}
use Rattle.node_core.specs.declared.kept.NodeKept.{NodeKept}
use Rattle.ring_world.proofs.KeptNodes.{kept_stepped}
use Rattle.ring_world.proofs.KeptReplicas.{step_kept}
use Rattle.ring_world.proofs.Maps.{at_place, put_place, unequal}
use Rattle.ring_world.proofs.Nodes.{Ruled, clock_of, run_set}
use Rattle.ring_world.proofs.FramesAfter.{frames_more, sound_sent}
use Rattle.ring_world.proofs.NodePlaces.{Placed, placed, read_at}

-- a clock that shows the same leaves the clocks as they were
pub clocks_set : (es : List Ruled) (i : ℕ) (e f : Ruled) → slice_get es i ≡ Some e → clock_of f ≡ clock_of e → map clock_of (slice_set es i f) ≡ map clock_of es
clocks_set [] i e f g same = refl
clocks_set (q ∷ es) zero e f g same = let is : q ≡ e = cc in ap (λ k. k ∷ map clock_of es) (same ∙ ap clock_of (sym is))
clocks_set (q ∷ es) (suc i) e f g same = ap (λ ks. clock_of q ∷ ks) (clocks_set es i e f g same)

-- what is seen after an outcome is committed
pub seen_committed : (a m new : World) (runs : Vec Running Global) (place : ℕ) (q : Running) (o : Outcome) → Same a m → m.running ≡ a.running → runs ≡ with_item m.running place q
    → new ≡ record m { running = runs; events = m.events + 1; sent = m.sent + length o.frames; frames = new.frames; places = new.places }
    → new.frames.frames ≡ posted_all o.frames m.frames.frames
    → seen_of new ≡ record (seen_of a) { events = a.events + 1; sent = a.sent + length o.frames; frames = posted_all o.frames a.frames.frames; running = slice_set a.running.items place q }
seen_committed a m new runs place q o same running set rest frames =
    let items : runs.items ≡ slice_set a.running.items place q = ap (λ (v : Vec Running Global). v.items) set ∙ ap (λ (v : Vec Running Global). slice_set v.items place q) running in
    let bag : new.frames.frames ≡ posted_all o.frames a.frames.frames = frames ∙ ap (λ (x : Seen). posted_all o.frames x.frames) same.seen in
    ap seen_of rest
    ∙ (ap (λ (x : Seen). record x { running = runs.items; events = x.events + 1; sent = x.sent + length o.frames; frames = new.frames.frames }) same.seen
    ∙ (ap (λ (rs : List Running). record (seen_of a) { running = rs; events = a.events + 1; sent = a.sent + length o.frames; frames = new.frames.frames }) items
    ∙ ap (λ (fs : List Message). record (seen_of a) { running = slice_set a.running.items place q; events = a.events + 1; sent = a.sent + length o.frames; frames = fs }) bag))

-- a node that is put back as it was
pub put_back : (a m : World) (place : ℕ) (r : Running) (old n : Core) → Same a m → r ≡ get_or m.running.items place r → old ≡ r.node.value → n ≡ old
    → Same a (record m { running = with_item m.running place (record { drift = r.drift; node = with_value r.node n }) })
put_back a m place r old n same here inside back =
    let node : with_value r.node n ≡ r.node = ap (λ (v : Core). with_value r.node v) (back ∙ inside) in
    let items : slice_set m.running.items place (record { drift = r.drift; node = with_value r.node n }) ≡ m.running.items =
    ap (λ (b : Box Core Global). slice_set m.running.items place (record { drift = r.drift; node = b })) node
    ∙ (ap (λ (q : Running). slice_set m.running.items place q) here ∙ set-get_or m.running.items place r) in
    record {
      seen = ap (λ (rs : List Running). record (seen_of m) { running = rs }) items ∙ same.seen;
      places = same.places;
    }

-- What the step of a node leaves of the code, against what the rules say of it.

pub record NodeDid (old : Core) (i : Input) (now : ℕ) (n : Core) (o : Outcome) : Type 0 where
  pub does : (c : FabricConfig) → GoesBy c old → Does (node_step fabric c now i old.state) n o
  pub settings : n.settings ≡ old.settings
  pub domains : n.domains ≡ old.domains
  pub me : n.state.ring.me ≡ old.state.ring.me
  pub small : IsSmall old.state o

-- the node of the code that was read there, and its clock
pub record IsRead (a : World) (place : ℕ) (r : Running) (clock : Who × ℕ) (old : Core) : Type 0 where
  pub is_node : r ≡ get_or a.running.items place r
  pub is_clock : clock ≡ get_or a.clocks.items place clock
  pub inside : old ≡ r.node.value

module _ (a : World) (w : RuledWorld fabric) (place node : ℕ) (s : RuledRunning fabric) (i : Input) (r : Running) (clock : Who × ℕ) (old n : Core) (o : Outcome)
    (st : Stands a w) (here : slice_get w.nodes place ≡ Some (node, s)) (read : IsRead a place r clock old) (fits : FitsInput i) (did : NodeDid old i clock.1 n o) where
  -- what the rules say
  abbrev pub done : Did (NodeState fabric)
  done = node_step fabric a.config s.reading i s.node

  there : Placed a place node s
  there = placed a w place node s st here

  is_code : r ≡ there.code
  is_code = read_at a.running.items place there.code r there.here read.is_node

  pub is_clock : clock ≡ (s.node.ring.me, s.reading)
  is_clock = read_at a.clocks.items place (s.node.ring.me, s.reading) clock there.clock read.is_clock

  runs : RunsAs a.config a.time r (node, s)
  runs = subst (λ (q : Running). RunsAs a.config a.time q (node, s)) (sym is_code) there.runs

  is_state : old.state ≡ s.node
  is_state = ap (λ (q : Core). q.state) read.inside ∙ runs.node

  goes_by : GoesBy a.config old
  goes_by = subst (λ (q : Core). GoesBy a.config q) (sym read.inside) runs.goes_by

  pub node_does : Does done n o
  node_does =
      subst (λ (t : ℕ). Does (node_step fabric a.config t i s.node) n o) (ap (λ k. k.1) is_clock)
      (subst (λ (q : NodeState fabric). Does (node_step fabric a.config clock.1 i q) n o) is_state (did.does a.config goes_by))

  -- it is the same instance
  pub same_me : done.state.ring.me ≡ s.node.ring.me
  same_me =
      let now : n.state.ring.me ≡ done.state.ring.me = ap (λ q. q.ring.me) node_does.state in
      let was : old.state.ring.me ≡ s.node.ring.me = ap (λ q. q.ring.me) is_state in
      sym now ∙ (did.me ∙ was)

  -- it leaves sound messages
  pub sends_sound : LeavesSound (node_acts fabric a.config w node i s) → All IsSoundFrame o.frames
  sends_sound h = subst (λ (ms : List Message). All IsSoundFrame ms) (sym node_does.frames) (sound_sent IsSoundFrame done.state.ring.me done.sent w.frames h)

  -- the world of the rules after it
  abbrev after : RuledWorld fabric
  after = (node_acts fabric a.config w node i s).world

  actor_is : done.state.ring.me.actor ≡ node
  actor_is = ap (λ (m : Who). m.actor) same_me ∙ runs.number

  kept_after : (q : ℕ) → kept_of after q ≡ unwrap_or (at q (put node (kept_of w node ++ done.records) w.kept)) []
  kept_after q = ap (λ (x : ℕ). unwrap_or (at q (put x (kept_of w x ++ done.records) w.kept)) []) actor_is

  kept_other : (q : ℕ) → (node == q) ≡ false → kept_of after q ≡ kept_of w q
  kept_other q other = kept_after q ∙ kept_there w node q done.records other

  -- what it recorded is what its replicas became
  kept_next : IsKeptAs (kept_of after node) done.state
  kept_next =
      subst (λ (rs : List Record). IsKeptAs rs done.state) (sym (kept_after node ∙ kept_here w node done.records))
      (step_kept a.config s.reading i s.node (kept_of w node) fits
      (st.nodes.kept.running node s runs.in_range (at_place 0 w.nodes place node s st.nodes.rise here)))

  is_next : RuledRunning fabric
  is_next = record { node = done.state; reading = s.reading; pairs = s.pairs }

  abbrev nodes_after : List Ruled
  nodes_after = slice_set w.nodes place (node, is_next)

  nodes_are : after.nodes ≡ nodes_after
  unfolding is_next
  nodes_are = put_place 0 w.nodes place node s is_next st.nodes.rise here

  runs_next : (q : Running) → q.node.value ≡ n → q.drift ≡ r.drift → RunsAs a.config a.time q (node, is_next)
  unfolding is_next
  runs_next q value drift =
      let settings : n.settings ≡ settings_of a.config n.state.ring.me.actor =
      did.settings ∙ (goes_by.settings ∙ ap (λ (m : Who). settings_of a.config m.actor) (sym did.me)) in
      record {
        number = ap (λ (m : Who). m.actor) same_me ∙ runs.number;
        in_range = runs.in_range;
        node = ap (λ (q : Core). q.state) value ∙ node_does.state;
        goes_by = subst (λ (m : Core). GoesBy a.config m) (sym value) (record { settings = settings; domains = did.domains ∙ goes_by.domains });
        drift = subst (λ (k : Extremes). DriftStands k s.pairs) (sym drift) runs.drift;
        bound = ap (λ (k : Extremes). k.bound) drift ∙ runs.bound;
        latest = subst (λ (k : Extremes). k.latest.0 ≤ a.time) (sym drift) runs.latest;
        reading = runs.reading;
      }

  nodes_stand : (b : Seen) (q : Running) → q.node.value ≡ n → q.drift ≡ r.drift → b.config ≡ a.config → b.time ≡ a.time → b.running ≡ slice_set a.running.items place q → b.clocks ≡ a.clocks.items
      → b.events ≡ a.events + 1 → b.kept ≡ a.kept.items → NodesStand b after
  unfolding is_next
  nodes_stand b q value drift config time running clocks events kept =
      record {
        rise = rises-put node is_next w.nodes st.nodes.rise;
        running =
            subst (λ (k : FabricConfig). AllRun k b.time b.running after.nodes) (sym config)
            (subst (λ (t : ℕ). AllRun a.config t b.running after.nodes) (sym time)
            (subst (λ (rs : List Running). AllRun a.config a.time rs after.nodes) (sym running)
            (subst (λ (es : List Ruled). AllRun a.config a.time (slice_set a.running.items place q) es) (sym nodes_are)
            (run_set a.config a.time a.running.items w.nodes place q (node, is_next) st.nodes.running (runs_next q value drift)))));
        clocks = clocks ∙ (st.nodes.clocks ∙ sym (ap (λ (es : List Ruled). map clock_of es) nodes_are ∙ clocks_set w.nodes place (node, s) (node, is_next) here (ap (λ m. (m, s.reading)) same_me)));
        few = let k : length after.nodes ≡ length w.nodes = ap length nodes_are ∙ length-set w.nodes place (node, is_next) in omega (arith, st.nodes.few);
        kept = subst (λ (ks : List NodeKept). KeptStand ks after) (sym kept)
            (kept_stepped a.kept.items w after node is_next st.nodes.kept refl kept_next kept_other);
      }

  few_sent : length o.frames ≤ frames_limit
  few_sent = did.small.limit

  -- the code after it
  abbrev pub seen_next : Running → Seen
  seen_next q = record (seen_of a) {
    events = a.events + 1;
    sent = a.sent + length o.frames;
    frames = posted_all o.frames a.frames.frames;
    running = slice_set a.running.items place q;
  }

  stands_next : (q : Running) → q.node.value ≡ n → q.drift ≡ r.drift → a.events < most_events → a.sent < most_frames → SeenStands (seen_next q) after
  stands_next q value drift few room = record {
    sound = st.sound;
    time = st.time;
    in_time = st.in_time;
    few_events = omega arith;
    nodes = nodes_stand (seen_next q) q value drift refl refl refl refl refl refl;
    arbiters = arbiters_on (seen_of a) (seen_next q) w after st.arbiters refl (λ k. kept_other (arbiter_actor k) (unequal node (arbiter_actor k) (λ e. let le = runs.in_range in absurd (omega arith)))) refl refl refl;
    frames = frames_more (seen_of a) w after done.state.ring.me done o st.frames node_does.frames few_sent room (posted_is done.state.ring.me done.sent w.frames ∙ sym (ap (λ ms. posted_all ms w.frames) node_does.frames)) refl (seen_next q) refl refl;
  }

  -- what is seen of it
  abbrev pub acted_as : ℕ → Acted
  acted_as line = record { line = line; time = a.time; who = clock.0; reading = Some clock.1; sent = numbers_after a.sent (length o.frames); reports = o.reports }

  entry_next : (line : ℕ) → entry_of (Some (acted_as line)) ≡ (node_acts fabric a.config w node i s).entry
  entry_next line =
      let who : clock.0 ≡ done.state.ring.me = ap (λ (k : Who × ℕ). k.0) is_clock ∙ sym same_me in
      let reading : clock.1 ≡ s.reading = ap (λ (k : Who × ℕ). k.1) is_clock in
      let count : length o.frames ≡ length done.sent = ap length node_does.frames ∙ from-length done.state.ring.me done.sent in
      let sent : numbers_after a.sent (length o.frames) ≡ numbers_of w.count done.sent =
      ap (λ (k : ℕ). numbers_after a.sent k) count ∙ (ap (λ (k : ℕ). numbers_after k (length done.sent)) st.frames.sent ∙ sym (numbers_are w.count done.sent)) in
      ap (λ (x : Who). told_by x clock.1 (numbers_after a.sent (length o.frames)) o.reports) who
      ∙ (ap (λ (t : ℕ). told_by done.state.ring.me t (numbers_after a.sent (length o.frames)) o.reports) reading
      ∙ (ap (λ (k : ℕ × ℕ). told_by done.state.ring.me s.reading k o.reports) sent
      ∙ ap (λ (rs : List Report). told_by done.state.ring.me s.reading (numbers_of w.count done.sent) rs) node_does.reports))
    where
      told_by : Who → ℕ → ℕ × ℕ → List Report → Option Entry
      told_by x t k rs = Some (record { who = x; reading = Some t; sent = k; reports = rs })

  pub moves_next : (new : World) (q : Running) (line : ℕ) (acted : Acted) → q.node.value ≡ n → q.drift ≡ r.drift → a.events < most_events → a.sent < most_frames → seen_of new ≡ seen_next q
      → ((p : ℕ) → p < 2 ^ 64 → place_at new.places p ≡ placed_by clock.0 o.reports p (place_at a.places p)) → acted ≡ acted_as line
      → Moves a new (node_acts fabric a.config w node i s) line (Some acted)
  moves_next new q line acted value drift few room seen places is =
      let who : clock.0 ≡ done.state.ring.me = ap (λ (k : Who × ℕ). k.0) is_clock ∙ sym same_me in
      record {
        config = ap (λ (x : Seen). x.config) seen;
        events = ap (λ (x : Seen). x.events) seen;
        state = subst (λ (x : Seen). SeenStands x after) (sym seen) (stands_next q value drift few room);
        places = λ p lt. places p lt ∙ (ap (λ (x : Who). placed_by x o.reports p (place_at a.places p)) who ∙ ap (λ (rs : List Report). placed_by done.state.ring.me rs p (place_at a.places p)) node_does.reports);
        entry = ap (λ (x : Acted). entry_of (Some x)) is ∙ entry_next line;
        seen = (ap (λ (x : Acted). x.line) is, ap (λ (x : Acted). x.time) is ∙ st.time);
      }
