-- Firings and commands: what they name, and what they do.
use Rattle.std.proofs.Common.{◌≡◌, ℕ, true, false, None, refl, ap, ◌∙◌}
use Rattle.std.specs.Prelude.{◌&&◌, is_some}
use Rattle.fabric_terms.specs.declared.command.Command.{Command}
use Rattle.fabric_terms.specs.declared.event.Event.TheVariants.{Fire, Do}
use Rattle.ring_rules.specs.declared.input.Input.TheVariants as input
use Rattle.fabric_lemmas.specs.Maps.{at}
use Rattle.unit_rules.specs.Fabric.{fabric}
use Rattle.world_rules.specs.Schedules.{is_there, command_names}
use Rattle.world_rules.specs.Worlds.{World as RuledWorld}
use Rattle.world_rules.proofs.Rows.{world_step-fire, world_step-do, is_there-fire, is_there-do}
use Rattle.frame_format.specs.Kinds.{is_frame}
use Rattle.ring_world.specs.Finds.{IsAt}
use Rattle.ring_world.specs.declared.world.World.{World}
use Rattle.ring_world.proofs.Limits.{bound-fire, bound-do}
use Rattle.ring_world.proofs.NextEvents.{Acting}

module _ (a : World) (w : RuledWorld fabric) (node : ℕ) where
  pub fire_acts : Acting a w node input.Fire (Fire node)
  fire_acts = record { step = world_step-fire fabric a.config w node; bound = bound-fire a w node; acts = refl; still = refl }

  pub fire_there : (place : ℕ) → IsAt node place w.nodes → is_there is_frame a.config w (Fire node) ≡ true
  fire_there place k = is_there-fire is_frame a.config w node ∙ ap (λ o. is_some o) k.found

  pub fire_absent : at node w.nodes ≡ None → is_there is_frame a.config w (Fire node) ≡ false
  fire_absent h = is_there-fire is_frame a.config w node ∙ ap (λ o. is_some o) h

  pub do_acts : (d : Command) → Acting a w node (input.Do d) (Do node d)
  do_acts d = record { step = world_step-do fabric a.config w node d; bound = bound-do a w node d; acts = refl; still = refl }

  pub do_there : (place : ℕ) (d : Command) → IsAt node place w.nodes → command_names a.config node d ≡ true → is_there is_frame a.config w (Do node d) ≡ true
  do_there place d k named =
      is_there-do is_frame a.config w node d
      ∙ (ap (λ o. is_some o && command_names a.config node d) k.found ∙ named)

  pub do_absent : (d : Command) → at node w.nodes ≡ None → is_there is_frame a.config w (Do node d) ≡ false
  do_absent d h = is_there-do is_frame a.config w node d ∙ ap (λ o. is_some o && command_names a.config node d) h

  pub do_unnamed : (place : ℕ) (d : Command) → IsAt node place w.nodes → command_names a.config node d ≡ false → is_there is_frame a.config w (Do node d) ≡ false
  do_unnamed place d k named =
      is_there-do is_frame a.config w node d
      ∙ (ap (λ o. is_some o && command_names a.config node d) k.found ∙ named)
