-- A start of a node: the world stands for the world after it.
use Rattle.std.proofs.Common.{◌≡◌, ℕ, zero, suc, ◌+◌, ◌≤◌, ◌<◌, ◌^◌, Bool, true, false, cond, List, [], ◌∷◌, ◌++◌, Option, Some, None, refl, sym, ap, subst, ◌∙◌, arith, length, get_or}
use Rattle.std.specs.Prelude.{◌==◌, nat_lt, unwrap_or, slice_get, slice_set, insert, map, Vec, Box}
use Rattle.std.specs.Vec.{with_item}
use Rattle.std.proofs.lemmas.Option.{slice_get_read}
use Rattle.std.proofs.lemmas.List.Edits.{length-insert}
use Rattle.std.specs.declared.alloc.Global.{Global}
use Rattle.fabric_terms.specs.declared.message.Message.{Message}
use Rattle.drift_clock.specs.Extremes.{Extremes, Stands as DriftStands}
use Rattle.fabric_terms.specs.Runs.{Entry}
use Rattle.fabric_terms.specs.declared.config.FabricConfig.{FabricConfig}
use Rattle.fabric_terms.specs.declared.record.Record.{Record}
use Rattle.fabric_terms.specs.declared.report.Report.{Report}
use Rattle.node_core.specs.Nodes.{Amounts, Core, Does, GoesBy, IsSmall, frames_limit, nothing_kept}
use Rattle.node_core.specs.declared.kept.NodeKept.{NodeKept}
use Rattle.fabric_terms.specs.Sent.{from_all}
use Rattle.node_core.specs.declared.outcome.Outcome.{Outcome}
use Rattle.point_places.specs.Spots.{place_at}
use Rattle.ring_points.specs.Whos.{arbiter_actor, node_instance}
use Rattle.ring_points.specs.declared.who.Who.{Who}
use Rattle.run_facts.proofs.Steps.{node_begun-told}
use Rattle.fabric_lemmas.specs.Maps.{at, put}
use Rattle.world_rules.specs.Nodes.{NodeState, instance_begun, node_begun}
use Rattle.unit_rules.specs.Fabric.{fabric}
use Rattle.world_rules.specs.Uppers.{Did}
use Rattle.world_rules.specs.Worlds.{World as RuledWorld, Running as RuledRunning, kept_of, node_acted, numbers_of}
use Rattle.fabric_lemmas.proofs.Maps.{rises-put}
use Rattle.world_rules.proofs.Rows.{node_begun-is}
use Rattle.ring_world.specs.Answers.{entry_of}
use Rattle.ring_world.specs.Commits.{numbers_after, posted_all}
use Rattle.ring_world.specs.Moves.{Moves, Same, placed_by}
use Rattle.world_rules.specs.EventLimits.{most_events, most_frames, most_time}
use Rattle.ring_world.specs.Running.{AllRun, RunsAs, last_node}
use Rattle.ring_world.specs.Seen.{Seen, seen_of}
use Rattle.ring_world.specs.Stands.{IsKeptAs, SeenStands, Stands}
use Rattle.ring_world.specs.Starts.{Begins, place_for}
use Rattle.ring_world.specs.declared.running.Running.{Running}
use Rattle.ring_world.specs.declared.world.Acted.{Acted}
use Rattle.ring_world.specs.declared.world.World.{World}
use Rattle.ring_world.proofs.FramesAfter.{frames_more}
use Rattle.ring_world.proofs.Edits.{set_same}
use Rattle.ring_world.proofs.Growth.{arbiters_on, from-length, kept_here, kept_there, numbers_are, posted_is}
use Rattle.ring_world.proofs.KeptNodes.{kept_begun}
use Rattle.ring_world.proofs.KeptReplicas.{begun_kept}
use Rattle.ring_world.proofs.Maps.{place_in, put_new, unequal}
use Rattle.ring_world.proofs.Nodes.{AreNumbered, Ruled, clock_of, run-length, run_insert, run_numbered}

-- what a start sends, and who starts

module _ (c : FabricConfig) (node : ℕ) (rs : List Record) where
  pub begun_sends : (node_begun fabric c node rs).sent ≡ []
  begun_sends = ap (λ (d : Did (NodeState fabric)). d.sent) (node_begun-is fabric c node rs)

  pub begun_me : (node_begun fabric c node rs).state.ring.me ≡ node_instance node (instance_begun rs)
  begun_me = (node_begun-told fabric c node rs).name

map-insert : (es : List Ruled) (i : ℕ) (e : Ruled) → map clock_of (insert es i e) ≡ insert (map clock_of es) i (clock_of e)
map-insert [] zero e = refl
map-insert [] (suc i) e = refl
map-insert (q ∷ es) zero e = refl
map-insert (q ∷ es) (suc i) e = ap (λ ks. clock_of q ∷ ks) (map-insert es i e)

-- the place by number is the place by name
place_is : (node : ℕ) (es : List Ruled) → AreNumbered es → place_for node (map clock_of es) ≡ place_in node es
place_is node [] h = refl
place_is node (e ∷ es) h =
    ap (λ k. cond (nat_lt node k) 0 (1 + place_for node (map clock_of es))) (h 0 e refl)
    ∙ ap (λ n. cond (nat_lt node e.0) 0 (1 + n)) (place_is node es (λ i q g. h (suc i) q g))

place_within : {X : Type 0} (node : ℕ) (es : List (ℕ × X)) → place_in node es ≤ length es
place_within node [] = omega arith
place_within node (e ∷ es) = by_test (nat_lt node e.0) (place_within node es)
  where
    by_test : (b : Bool) → place_in node es ≤ length es → cond b 0 (1 + place_in node es) ≤ suc (length es)
    by_test true h = omega arith
    by_test false h = omega arith

-- the drift of a clock that has shown its first reading
pub record IsFirst (a : World) (reading : ℕ) (k : Extremes) : Type 0 where
  pub bound : k.bound ≡ a.config.bound
  pub latest : k.latest ≡ (a.time, reading)
  pub first : DriftStands k ((a.time, reading) ∷ [])

module _ (a : World) (w : RuledWorld fabric) (node reading : ℕ) (n : Core) (o : Outcome) (k : Extremes) (q : Running)
    (st : Stands a w) (le : node ≤ last_node) (fits : reading ≤ most_time) (begins : Begins a node n o) (drift : IsFirst a reading k)
    (inside : q.node.value ≡ n) (kept : q.drift ≡ k) (absent : at node w.nodes ≡ None) where
  abbrev pub begun : Did (NodeState fabric)
  begun = node_begun fabric a.config node (kept_of w node)

  does : Does begun n o
  does = begins.begins (kept_of w node) (st.nodes.kept.stopped node begins.kept absent begins.here).amounts

  me_is : begun.state.ring.me ≡ node_instance node (instance_begun (kept_of w node))
  me_is = begun_me a.config node (kept_of w node)

  actor_is : begun.state.ring.me.actor ≡ node
  actor_is = ap (λ (x : Who). x.actor) me_is

  new_me : n.state.ring.me ≡ begun.state.ring.me
  new_me = ap (λ (x : NodeState fabric). x.ring.me) does.state

  is_new : RuledRunning fabric
  is_new = record { node = begun.state; reading = reading; pairs = (w.time, reading) ∷ [] }

  abbrev after : RuledWorld fabric
  after = (node_acted fabric w node reading ((w.time, reading) ∷ []) begun).world

  kept_after : (m : ℕ) → kept_of after m ≡ unwrap_or (at m (put node (kept_of w node ++ begun.records) w.kept)) []
  kept_after m = ap (λ (x : ℕ). unwrap_or (at m (put x (kept_of w x ++ begun.records) w.kept)) []) actor_is

  kept_other : (m : ℕ) → (node == m) ≡ false → kept_of after m ≡ kept_of w m
  kept_other m other = kept_after m ∙ kept_there w node m begun.records other

  -- what was kept of it is what it begins with
  kept_new : IsKeptAs (kept_of after node) begun.state
  kept_new =
      subst (λ (rs : List Record). IsKeptAs rs begun.state) (sym (kept_after node ∙ kept_here w node begun.records))
      (begun_kept a.config node (kept_of w node) begins.kept (st.nodes.kept.stopped node begins.kept absent begins.here))

  numbered : AreNumbered w.nodes
  numbered = run_numbered a.config a.time a.running.items w.nodes st.nodes.running

  abbrev place : ℕ
  place = place_for node a.clocks.items

  place_same : place ≡ place_in node w.nodes
  place_same = ap (λ ks. place_for node ks) st.nodes.clocks ∙ place_is node w.nodes numbered

  nodes_are : after.nodes ≡ insert w.nodes place (node, is_new)
  unfolding is_new
  nodes_are = put_new node is_new w.nodes absent ∙ ap (λ i. insert w.nodes i (node, is_new)) (sym place_same)

  runs_new : RunsAs a.config a.time q (node, is_new)
  unfolding is_new
  runs_new =
      let value : q.drift.latest ≡ (a.time, reading) = ap (λ (x : Extremes). x.latest) kept ∙ drift.latest in
      let time : q.drift.latest.0 ≡ a.time = ap (λ (p : ℕ × ℕ). p.0) value in
      record {
        number = actor_is;
        in_range = le;
        node = ap (λ (x : Core). x.state) inside ∙ does.state;
        goes_by = subst (λ (x : Core). GoesBy a.config x) (sym inside) begins.goes_by;
        drift = subst (λ (x : Extremes). DriftStands x ((w.time, reading) ∷ [])) (sym kept) (subst (λ (t : ℕ). DriftStands k ((t, reading) ∷ [])) st.time drift.first);
        bound = ap (λ (x : Extremes). x.bound) kept ∙ drift.bound;
        latest = omega arith;
        reading = fits;
      }

  abbrev pub seen_begun : Seen
  seen_begun = record (seen_of a) {
    events = a.events + 1;
    sent = a.sent + length o.frames;
    frames = posted_all o.frames a.frames.frames;
    clocks = insert a.clocks.items place (n.state.ring.me, reading);
    running = insert a.running.items place q;
    kept = slice_set a.kept.items node nothing_kept;
  }

  small : length o.frames ≤ frames_limit
  small = begins.small.limit

  stands_begun : a.events < most_events → a.sent < most_frames → SeenStands seen_begun after
  unfolding is_new
  stands_begun few room = record {
    sound = st.sound;
    time = st.time;
    in_time = st.in_time;
    few_events = omega arith;
    nodes = record {
      rise = rises-put node is_new w.nodes st.nodes.rise;
      running = subst (λ (es : List Ruled). AllRun a.config a.time (insert a.running.items place q) es) (sym nodes_are)
          (run_insert a.config a.time place a.running.items w.nodes q (node, is_new) st.nodes.running runs_new);
      clocks = ap (λ (x : Who). insert a.clocks.items place (x, reading)) new_me
          ∙ (ap (λ ks. insert ks place (begun.state.ring.me, reading)) st.nodes.clocks ∙ (sym (map-insert w.nodes place (node, is_new)) ∙ ap (λ (es : List Ruled). map clock_of es) (sym nodes_are)));
      few = let within : place ≤ length w.nodes = let p = place_within node w.nodes in omega (arith, place_same) in
          let size : length after.nodes ≡ length w.nodes + 1 = ap length nodes_are ∙ length-insert w.nodes place (node, is_new) within in
          omega (arith, st.nodes.few);
      kept = kept_begun a.kept.items w after node nothing_kept is_new st.nodes.kept refl kept_new kept_other;
    };
    arbiters = arbiters_on (seen_of a) seen_begun w after st.arbiters refl (λ j. kept_other (arbiter_actor j) (unequal node (arbiter_actor j) (λ e. absurd (omega arith)))) refl refl refl;
    frames = frames_more (seen_of a) w after begun.state.ring.me begun o st.frames does.frames small room
        (posted_is begun.state.ring.me begun.sent w.frames ∙ sym (ap (λ ms. posted_all ms w.frames) does.frames)) refl seen_begun refl refl;
  }

  abbrev pub begun_as : ℕ → Acted
  begun_as line = record { line = line; time = a.time; who = n.state.ring.me; reading = Some reading; sent = numbers_after a.sent (length o.frames); reports = o.reports }

  entry_begun : (line : ℕ) → entry_of (Some (begun_as line)) ≡ (node_acted fabric w node reading ((w.time, reading) ∷ []) begun).entry
  entry_begun line =
      let count : length o.frames ≡ length begun.sent = ap length does.frames ∙ from-length begun.state.ring.me begun.sent in
      let sent : numbers_after a.sent (length o.frames) ≡ numbers_of w.count begun.sent =
      ap (λ (x : ℕ). numbers_after a.sent x) count ∙ (ap (λ (x : ℕ). numbers_after x (length begun.sent)) st.frames.sent ∙ sym (numbers_are w.count begun.sent)) in
      ap (λ (x : Who). told_by x (numbers_after a.sent (length o.frames)) o.reports) new_me
      ∙ (ap (λ (x : ℕ × ℕ). told_by begun.state.ring.me x o.reports) sent ∙ ap (λ (rs : List Report). told_by begun.state.ring.me (numbers_of w.count begun.sent) rs) does.reports)
    where
      told_by : Who → ℕ × ℕ → List Report → Option Entry
      told_by x s rs = Some (record { who = x; reading = Some reading; sent = s; reports = rs })

  pub begin_moves : (new : World) (line : ℕ) (acted : Acted) → a.events < most_events → a.sent < most_frames → seen_of new ≡ seen_begun
      → ((p : ℕ) → p < 2 ^ 64 → place_at new.places p ≡ placed_by n.state.ring.me o.reports p (place_at a.places p)) → acted ≡ begun_as line
      → Moves a new (node_acted fabric w node reading ((w.time, reading) ∷ []) begun) line (Some acted)
  begin_moves new line acted few room seen places is = record {
    config = ap (λ (x : Seen). x.config) seen;
    events = ap (λ (x : Seen). x.events) seen;
    state = subst (λ (x : Seen). SeenStands x after) (sym seen) (stands_begun few room);
    places = λ p lt. places p lt ∙ (ap (λ (x : Who). placed_by x o.reports p (place_at a.places p)) new_me ∙ ap (λ (rs : List Report). placed_by begun.state.ring.me rs p (place_at a.places p)) does.reports);
    entry = ap (λ (x : Acted). entry_of (Some x)) is ∙ entry_begun line;
    seen = (ap (λ (x : Acted). x.line) is, ap (λ (x : Acted). x.time) is ∙ st.time);
  }

-- what is seen after the start is committed
pub seen_entered : (a new : World) (clocks : Vec (Who × ℕ) Global) (running : Vec Running Global) (kept : Vec NodeKept Global) (ended : Vec (Box Core Global) Global) (place node : ℕ) (k : Who × ℕ) (q : Running) (o : Outcome)
    → clocks.items ≡ insert a.clocks.items place k → running.items ≡ insert a.running.items place q → kept.items ≡ slice_set a.kept.items node nothing_kept
    → new ≡ record a { clocks = clocks; running = running; kept = kept; ended = ended; events = a.events + 1; sent = a.sent + length o.frames; frames = new.frames; places = new.places }
    → new.frames.frames ≡ posted_all o.frames a.frames.frames
    → seen_of new ≡ record (seen_of a) {
      events = a.events + 1;
      sent = a.sent + length o.frames;
      frames = posted_all o.frames a.frames.frames;
      clocks = insert a.clocks.items place k;
      running = insert a.running.items place q;
      kept = slice_set a.kept.items node nothing_kept;
    }
seen_entered a new clocks running kept ended place node k q o cs rs ks rest frames =
    ap seen_of rest
    ∙ (ap (λ (x : List (Who × ℕ)). with_parts x running.items kept.items new.frames.frames) cs
    ∙ (ap (λ (x : List Running). with_parts (insert a.clocks.items place k) x kept.items new.frames.frames) rs
    ∙ (ap (λ (x : List NodeKept). with_parts (insert a.clocks.items place k) (insert a.running.items place q) x new.frames.frames) ks
    ∙ ap (λ (x : List Message). with_parts (insert a.clocks.items place k) (insert a.running.items place q) (slice_set a.kept.items node nothing_kept) x) frames)))
  where
    with_parts : List (Who × ℕ) → List Running → List NodeKept → List Message → Seen
    with_parts x y z fs = record (seen_of a) { events = a.events + 1; sent = a.sent + length o.frames; frames = fs; clocks = x; running = y; kept = z }

-- a start sends nothing
pub frames_none : (a : World) (w : RuledWorld fabric) (node : ℕ) (n : Core) (o : Outcome) → Stands a w → at node w.nodes ≡ None → Begins a node n o → o.frames ≡ []
frames_none a w node n o st absent begins =
    let d : Did (NodeState fabric) = node_begun fabric a.config node (kept_of w node) in
    let does : Does d n o = begins.begins (kept_of w node) (st.nodes.kept.stopped node begins.kept absent begins.here).amounts in
    does.frames ∙ ap (λ ms. from_all d.state.ring.me ms) (begun_sends a.config node (kept_of w node))

-- and its place is one of the running nodes'
pub place_fits_in : (a : World) (w : RuledWorld fabric) (node : ℕ) → Stands a w → place_for node a.clocks.items ≤ length a.running.items
place_fits_in a w node st =
    let numbered = run_numbered a.config a.time a.running.items w.nodes st.nodes.running in
    let same : place_for node a.clocks.items ≡ place_in node w.nodes = ap (λ ks. place_for node ks) st.nodes.clocks ∙ place_is node w.nodes numbered in
    let p = place_within node w.nodes in
    let m = run-length a.config a.time a.running.items w.nodes st.nodes.running in
    omega arith

-- by what the start of the node answers
module _ (a : World) (node : ℕ) (k : NodeKept) (within : node < length a.kept.items) (read : k ≡ get_or a.kept.items node k) where
  here : slice_get a.kept.items node ≡ Some k
  here = slice_get_read a.kept.items (length a.kept.items) node k refl within read

  pub begun_from : (n : Core) (o : Outcome) → ((records : List Record) → Amounts records k → Does (node_begun fabric a.config node records) n o) → GoesBy a.config n → IsSmall n.state o → Begins a node n o
  begun_from n o begins goes_by small = record { kept = k; here = here; begins = begins; goes_by = goes_by; small = small }

  -- what is kept of it stays where it does not start
  pub put_kept_back : (q : NodeKept) (ended : Vec (Box Core Global) Global) → q ≡ k → Same a (record a { kept = with_item a.kept node q; ended = ended })
  put_kept_back q ended same =
      let items : slice_set a.kept.items node q ≡ a.kept.items = ap (λ x. slice_set a.kept.items node x) same ∙ set_same a.kept.items node k here in
      record { seen = ap (λ (ks : List NodeKept). record (seen_of a) { kept = ks }) items; places = λ p lt. refl }
