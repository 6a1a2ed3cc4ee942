-- Where a running node stands in the code.
use Rattle.std.proofs.Common.{◌≡◌, ℕ, ◌<◌, List, Some, ap, ◌∙◌, length, get_or}
use Rattle.std.specs.Prelude.{slice_get, option_map}
use Rattle.std.proofs.lemmas.Option.{slice_get-map, slice_get_within, get_or_from_slice_get}
use Rattle.unit_rules.specs.Fabric.{fabric}
use Rattle.world_rules.specs.Worlds.{World as RuledWorld, Running as RuledRunning}
use Rattle.ring_world.specs.Running.{RunsAs}
use Rattle.ring_world.specs.Stands.{Stands}
use Rattle.ring_world.specs.declared.running.Running.{Running}
use Rattle.ring_world.specs.declared.world.World.{World}
use Rattle.ring_world.proofs.Nodes.{clock_of, run_at}

-- the node of the code at the place of one of the rules, and its clock
pub record Placed (a : World) (place node : ℕ) (s : RuledRunning fabric) : Type 0 where
  pub code : Running
  pub here : slice_get a.running.items place ≡ Some code
  pub runs : RunsAs a.config a.time code (node, s)
  pub within : place < length a.running.items
  pub clock : slice_get a.clocks.items place ≡ Some (s.node.ring.me, s.reading)
  pub clock_within : place < length a.clocks.items

pub placed : (a : World) (w : RuledWorld fabric) (place node : ℕ) (s : RuledRunning fabric) → Stands a w → slice_get w.nodes place ≡ Some (node, s) → Placed a place node s
placed a w place node s st here =
    let at = run_at a.config a.time a.running.items w.nodes place (node, s) st.nodes.running here in
    let clock : slice_get a.clocks.items place ≡ Some (s.node.ring.me, s.reading) =
    ap (λ ks. slice_get ks place) st.nodes.clocks ∙ (slice_get-map clock_of w.nodes place ∙ ap (λ o. option_map clock_of o) here) in
    record {
      code = at.node;
      here = at.here;
      runs = at.runs;
      within = slice_get_within a.running.items place at.node at.here;
      clock = clock;
      clock_within = slice_get_within a.clocks.items place (s.node.ring.me, s.reading) clock;
    }

-- what is read at the place
pub read_at : {X : Type 0} (xs : List X) (place : ℕ) (x y : X) → slice_get xs place ≡ Some x → y ≡ get_or xs place y → y ≡ x
read_at xs place x y here read = read ∙ get_or_from_slice_get xs place x y here
