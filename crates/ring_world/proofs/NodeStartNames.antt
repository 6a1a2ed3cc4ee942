-- Starts of nodes: what they name.
use Rattle.std.proofs.Common.{◌≡◌, ℕ, Bool, true, false, not, List, [], ◌∷◌, Option, Some, None, refl, sym, ap, ◌∙◌, ◌+◌, subst}
use Rattle.std.specs.Prelude.{◌&&◌, is_some}
use Rattle.fabric_terms.specs.declared.event.Event.TheVariants.{Start}
use Rattle.world_rules.specs.Events.{world_step}
use Rattle.fabric_lemmas.specs.Maps.{at}
use Rattle.world_rules.specs.Nodes.{node_begun}
use Rattle.unit_rules.specs.Fabric.{fabric}
use Rattle.world_rules.specs.Schedules.{is_configured_node, is_there, node_runs}
use Rattle.world_rules.specs.Worlds.{World as RuledWorld, kept_of, node_acted, Stepped}
use Rattle.world_rules.proofs.Rows.{is_there-start, world_step-start}
use Rattle.frame_format.specs.Kinds.{is_frame}
use Rattle.ring_world.specs.Finds.{IsPlaceOf}
use Rattle.fabric_terms.specs.declared.config.FabricConfig.{FabricConfig}
use Rattle.ring_world.specs.Moves.{MayNot, Moves, Same, placed_in}
use Rattle.ring_world.specs.Seen.{Seen}
use Rattle.ring_world.specs.Stands.{Stands}
use Rattle.ring_world.specs.declared.world.Acted.{Acted}
use Rattle.ring_world.specs.declared.world.EventRefusal.TheVariants.{OutOfMemory}
use Rattle.ring_world.specs.declared.world.World.{World}
use Rattle.ring_world.proofs.Limits.{bound-start, room_is, room_test}

-- a place is found exactly where the number is
pub runs_where : {X : Type 0} (node : ℕ) (es : List (ℕ × X)) (o : Option ℕ) → IsPlaceOf node es o → is_some (at node es) ≡ is_some o
runs_where node es None h = ap (λ x. is_some x) h
runs_where node es (Some i) h = ap (λ x. is_some x) h.found

pub absent_where : {X : Type 0} (node : ℕ) (es : List (ℕ × X)) (o : Option ℕ) → IsPlaceOf node es o → is_some o ≡ false → at node es ≡ None
absent_where node es None h e = h
absent_where node es (Some i) h e = absurd (cc)

module _ (a : World) (w : RuledWorld fabric) (node reading : ℕ) where
  pub start_there : (c r : Bool) → is_configured_node a.config node ≡ c → is_some (at node w.nodes) ≡ r → is_there is_frame a.config w (Start node (Some reading)) ≡ (c && not r)
  start_there c r h g =
      is_there-start is_frame a.config w node (Some reading)
      ∙ (ap (λ b. b && not (node_runs {a = fabric} w node)) h ∙ ap (λ b. c && not b) g)

  pub start_is : world_step fabric a.config w (Start node (Some reading)) ≡ node_acted fabric w node reading ((w.time, reading) ∷ []) (node_begun fabric a.config node (kept_of w node))
  start_is = world_step-start fabric a.config w node (Some reading)

  -- where memory is short for it
  pub start_short : (new : World) → Stands a w → is_configured_node a.config node ≡ true → is_some (at node w.nodes) ≡ false → room_test a true ≡ true → Same a new
      → MayNot OutOfMemory a w (Start node (Some reading)) × Same a new
  start_short new st named absent room same = (
    (
      record {
        there = start_there true false named absent;
        bound = bound-start a w node (Some reading);
        room = room_is a w (Start node (Some reading)) true st refl refl ∙ room;
      },
      ap (λ (x : Stepped fabric). is_some x.entry) start_is,
    ),
    same,
  )

-- what is done after room was made is done
pub after_room : (a m new : World) (w : RuledWorld fabric) (node reading line : ℕ) (acted : Acted) → Same a m
    → Moves m new (node_acted fabric w node reading ((w.time, reading) ∷ []) (node_begun fabric m.config node (kept_of w node))) line (Some acted)
    → Moves a new (world_step fabric a.config w (Start node (Some reading))) line (Some acted)
after_room a m new w node reading line acted same moves =
    let config : m.config ≡ a.config = ap (λ (x : Seen). x.config) same.seen in
    let events : m.events ≡ a.events = ap (λ (x : Seen). x.events) same.seen in
    let step : node_acted fabric w node reading ((w.time, reading) ∷ []) (node_begun fabric m.config node (kept_of w node)) ≡ world_step fabric a.config w (Start node (Some reading)) =
    ap (λ (c : FabricConfig). node_acted fabric w node reading ((w.time, reading) ∷ []) (node_begun fabric c node (kept_of w node))) config ∙ sym (start_is a w node reading) in
    let on : Moves m new (world_step fabric a.config w (Start node (Some reading))) line (Some acted) = subst (λ (x : Stepped fabric). Moves m new x line (Some acted)) step moves in
    record {
      config = on.config ∙ config;
      events = on.events ∙ ap (λ n. n + 1) events;
      state = on.state;
      places = λ p lt. on.places p lt ∙ ap (λ x. placed_in (world_step fabric a.config w (Start node (Some reading))).entry p x) (same.places p lt);
      entry = on.entry;
      seen = on.seen;
    }
