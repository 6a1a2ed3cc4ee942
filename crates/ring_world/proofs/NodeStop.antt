-- Stops: the world stands for the world after one.
use Rattle.std.proofs.Common.{◌≡◌, ℕ, zero, suc, ◌+◌, ◌≤◌, ◌<◌, List, [], ◌∷◌, Some, refl, sym, ap, subst, ◌∙◌, arith, length, get_or}
use Rattle.std.specs.Prelude.{slice_get, slice_set, remove, map}
use Rattle.std.proofs.lemmas.List.Edits.{length-remove}
use Rattle.std.proofs.lemmas.Option.{slice_get_within}
use Rattle.fabric_terms.specs.declared.report.Report.TheVariants.{Stopped}
use Rattle.point_places.specs.Spots.{place_at}
use Rattle.ring_points.specs.declared.who.Who.{Who}
use Rattle.world_rules.specs.Events.{node_stops}
use Rattle.unit_rules.specs.Fabric.{fabric}
use Rattle.world_rules.specs.Worlds.{World as RuledWorld, Running as RuledRunning, Stepped}
use Rattle.fabric_lemmas.proofs.Maps.{rises-without}
use Rattle.ring_world.specs.Answers.{entry_of}
use Rattle.ring_world.specs.Moves.{Moves}
use Rattle.world_rules.specs.EventLimits.{most_events}
use Rattle.node_core.specs.Nodes.{kept_in}
use Rattle.node_core.specs.declared.kept.NodeKept.{NodeKept}
use Rattle.ring_world.specs.declared.running.Running.{Running}
use Rattle.ring_world.specs.Running.{AllRun, last_node}
use Rattle.ring_world.specs.Seen.{Seen, seen_of}
use Rattle.ring_world.specs.Stands.{Stands, SeenStands}
use Rattle.ring_world.specs.declared.world.Acted.{Acted}
use Rattle.ring_world.specs.declared.world.World.{World}
use Rattle.ring_world.proofs.NodePlaces.{placed, read_at}
use Rattle.ring_world.proofs.Growth.{arbiters_on}
use Rattle.ring_world.proofs.KeptNodes.{kept_ended}
use Rattle.ring_world.proofs.Maps.{at_place, without_place}
use Rattle.ring_world.proofs.Nodes.{Ruled, clock_of, run_remove}

map-remove : (es : List Ruled) (i : ℕ) → map clock_of (remove es i) ≡ remove (map clock_of es) i
map-remove [] zero = refl
map-remove [] (suc i) = refl
map-remove (e ∷ es) zero = refl
map-remove (e ∷ es) (suc i) = ap (λ ks. clock_of e ∷ ks) (map-remove es i)

module _ (a : World) (w : RuledWorld fabric) (place node : ℕ) (s : RuledRunning fabric) (clock : Who × ℕ)
    (st : Stands a w) (here : slice_get w.nodes place ≡ Some (node, s)) (read : clock ≡ get_or a.clocks.items place clock) (few : a.events < most_events) where
  abbrev pub seen_after : Seen
  seen_after = record (seen_of a) { events = a.events + 1; clocks = remove a.clocks.items place; running = remove a.running.items place; kept = slice_set a.kept.items node (kept_in s.node) }

  abbrev after : RuledWorld fabric
  after = (node_stops fabric w node (Some s)).world

  nodes_are : after.nodes ≡ remove w.nodes place
  nodes_are = without_place 0 w.nodes place node s st.nodes.rise here

  in_range : node ≤ last_node
  in_range = let at = placed a w place node s st here in at.runs.in_range

  stands_after : SeenStands seen_after after
  stands_after = record {
    sound = st.sound;
    time = st.time;
    in_time = st.in_time;
    few_events = omega arith;
    nodes = record {
      rise = rises-without node w.nodes st.nodes.rise;
      running = subst (λ (es : List Ruled). AllRun a.config a.time (remove a.running.items place) es) (sym nodes_are) (run_remove a.config a.time place a.running.items w.nodes st.nodes.running);
      clocks = ap (λ ks. remove ks place) st.nodes.clocks ∙ (sym (map-remove w.nodes place) ∙ ap (λ (es : List Ruled). map clock_of es) (sym nodes_are));
      few = let within = slice_get_within w.nodes place (node, s) here in
          let k : length after.nodes ≡ length (remove w.nodes place) = ap length nodes_are in
          let n = length-remove w.nodes place within in
          omega (arith, st.nodes.few);
      kept = kept_ended a.kept.items w after node s st.nodes.kept refl (at_place 0 w.nodes place node s st.nodes.rise here) in_range refl;
    };
    arbiters = arbiters_on (seen_of a) seen_after w after st.arbiters refl (λ k. refl) refl refl refl;
    frames = record { frames = st.frames.frames; counted = st.frames.counted; sent = st.frames.sent; few = st.frames.few };
  }

  is_clock : clock ≡ (s.node.ring.me, s.reading)
  is_clock = let at = placed a w place node s st here in read_at a.clocks.items place (s.node.ring.me, s.reading) clock at.clock read

  pub stop_moves : (new : World) (x : Stepped fabric) (line : ℕ) (acted : Acted) → x ≡ node_stops fabric w node (Some s) → seen_of new ≡ seen_after → new.places ≡ a.places
      → acted ≡ record { line = line; time = a.time; who = clock.0; reading = Some clock.1; sent = (0, 0); reports = Stopped ∷ [] }
      → Moves a new x line (Some acted)
  stop_moves new x line acted step seen places is = subst (λ (y : Stepped fabric). Moves a new y line (Some acted)) (sym step) (record {
    config = ap (λ (x : Seen). x.config) seen;
    events = ap (λ (x : Seen). x.events) seen;
    state = subst (λ (x : Seen). SeenStands x after) (sym seen) stands_after;
    places = λ p lt. ap (λ x. place_at x p) places;
    entry = ap (λ (x : Acted). entry_of (Some x)) is ∙ ap (λ (k : Who × ℕ). entry_of (Some (record { line = line; time = a.time; who = k.0; reading = Some k.1; sent = (0, 0); reports = Stopped ∷ [] }))) is_clock;
    seen = (ap (λ (x : Acted). x.line) is, ap (λ (x : Acted). x.time) is ∙ st.time);
  })

-- what is seen after the node is gone
pub seen_ended : (a : World) (node place : ℕ) (clocks : List (Who × ℕ)) (running : List Running) (kept : List NodeKept) (k : NodeKept) → clocks ≡ remove a.clocks.items place → running ≡ remove a.running.items place
    → kept ≡ slice_set a.kept.items node k
    → record (seen_of a) { events = a.events + 1; clocks = clocks; running = running; kept = kept }
    ≡ record (seen_of a) { events = a.events + 1; clocks = remove a.clocks.items place; running = remove a.running.items place; kept = slice_set a.kept.items node k }
seen_ended a node place clocks running kept k cs rs ks =
    ap (λ (x : List (Who × ℕ)). with_parts x running kept) cs
    ∙ (ap (λ (x : List Running). with_parts (remove a.clocks.items place) x kept) rs
    ∙ ap (λ (x : List NodeKept). with_parts (remove a.clocks.items place) (remove a.running.items place) x) ks)
  where
    with_parts : List (Who × ℕ) → List Running → List NodeKept → Seen
    with_parts x y z = record (seen_of a) { events = a.events + 1; clocks = x; running = y; kept = z }
