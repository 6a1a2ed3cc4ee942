-- Stops and junk: what they name.
use Rattle.std.proofs.Common.{◌≡◌, ℕ, ◌≤◌, Bool, true, false, List, ap, ◌∙◌, arith}
use Rattle.std.specs.Prelude.{◌&&◌, not, is_some}
use Rattle.std.proofs.lemmas.Bool.Decides.{nat_tests}
use Rattle.fabric_terms.specs.declared.event.Event.TheVariants.{Stop, Junk}
use Rattle.world_rules.specs.Events.{world_step, stops, node_stops, is_arbiter_actor}
use Rattle.fabric_lemmas.specs.Maps.{at}
use Rattle.unit_rules.specs.Fabric.{fabric}
use Rattle.world_rules.specs.Schedules.{is_there, runs, runs_as}
use Rattle.world_rules.specs.Worlds.{World as RuledWorld}
use Rattle.world_rules.proofs.Rows.{world_step-stop, is_there-stop, is_there-junk}
use Rattle.frame_format.specs.Kinds.{is_frame}
use Rattle.ring_world.specs.Running.{last_node}
use Rattle.ring_world.specs.declared.world.World.{World}

module _ (a : World) (w : RuledWorld fabric) where
  pub stop_runs : (actor : ℕ) (b : Bool) → runs w actor ≡ b → is_there is_frame a.config w (Stop actor) ≡ b
  stop_runs actor b h = is_there-stop is_frame a.config w actor ∙ h

  pub junk_runs : (actor : ℕ) (bytes : List ℕ) (b f : Bool) → runs w actor ≡ b → is_frame bytes ≡ f → is_there is_frame a.config w (Junk actor bytes) ≡ (b && not f)
  junk_runs actor bytes b f h g = is_there-junk is_frame a.config w actor bytes ∙ (ap (λ x. x && not (is_frame bytes)) h ∙ ap (λ x. b && not x) g)

  -- a node's number is no arbitrator's
  pub node_actor : (node : ℕ) → node ≤ last_node → is_arbiter_actor node ≡ false
  node_actor node le = grind (arith, nat_tests)

  pub node_runs_is : (node : ℕ) (b : Bool) → node ≤ last_node → is_some (at node w.nodes) ≡ b → runs w node ≡ b
  node_runs_is node b le h = ap (λ x. runs_as w node x) (node_actor node le) ∙ h

  pub stop_node_is : (node : ℕ) → node ≤ last_node → world_step fabric a.config w (Stop node) ≡ node_stops fabric w node (at node w.nodes)
  stop_node_is node le = world_step-stop fabric a.config w node ∙ ap (λ x. stops fabric w node x) (node_actor node le)

  pub stop_arbiter_is : (actor : ℕ) → is_arbiter_actor actor ≡ true → world_step fabric a.config w (Stop actor) ≡ stops fabric w actor true
  stop_arbiter_is actor h = world_step-stop fabric a.config w actor ∙ ap (λ x. stops fabric w actor x) h
