-- Starts of arbitrators: what they name.
use Rattle.std.proofs.Common.{◌≡◌, ℕ, ◌+◌, ◌<◌, Bool, true, false, not, None, refl, ap, ◌∙◌, arith, length}
use Rattle.std.specs.Prelude.{◌&&◌, nat_lt, nat_le, is_some}
use Rattle.std.proofs.lemmas.Bool.Decides.{nat_tests}
use Rattle.fabric_terms.specs.declared.event.Event.TheVariants.{Start}
use Rattle.ring_points.specs.Whos.{arbiter_actor}
use Rattle.world_rules.specs.Events.{world_step, starts_with, arbiter_number}
use Rattle.fabric_lemmas.specs.Maps.{at}
use Rattle.unit_rules.specs.Fabric.{fabric}
use Rattle.world_rules.specs.Schedules.{is_there, is_configured_arbiter, arbiter_runs}
use Rattle.world_rules.specs.Worlds.{World as RuledWorld, kept_of}
use Rattle.world_rules.proofs.Rows.{is_there-start, world_step-start}
use Rattle.frame_format.specs.Kinds.{is_frame}
use Rattle.ring_world.specs.Stands.{Stands}
use Rattle.ring_world.specs.declared.world.World.{World}

module _ (a : World) (w : RuledWorld fabric) (st : Stands a w) where
  -- the arbitrator has a seat where it is configured
  pub configured : (actor place : ℕ) → actor ≡ arbiter_actor (place + 1) → place < length a.seats.items → is_configured_arbiter a.config actor ≡ true
  configured actor place e lt = let m = st.arbiters.count in grind (arith, nat_tests)

  pub unconfigured : (actor : ℕ) → arbiter_actor 0 < actor → (arbiter_actor 0 < actor → arbiter_actor (length a.seats.items) < actor) → is_configured_arbiter a.config actor ≡ false
  unconfigured actor lt far =
      let m = st.arbiters.count in
      let past = far lt in
      let above : nat_le actor (arbiter_actor (length a.config.arbiters)) ≡ false = grind (arith, nat_tests) in
      ap (λ b. nat_lt (arbiter_actor 0) actor && b) above ∙ and_false (nat_lt (arbiter_actor 0) actor)
    where
      and_false : (b : Bool) → (b && false) ≡ false
      and_false true = refl
      and_false false = refl

  pub start_there : (actor : ℕ) (c r : Bool) → is_configured_arbiter a.config actor ≡ c → is_some (at (arbiter_number actor) w.arbiters) ≡ r → is_there is_frame a.config w (Start actor None) ≡ (c && not r)
  start_there actor c r h g =
      is_there-start is_frame a.config w actor None
      ∙ (ap (λ b. b && not (arbiter_runs {a = fabric} w actor)) h ∙ ap (λ b. c && not b) g)

  pub start_is : (actor : ℕ) → world_step fabric a.config w (Start actor None) ≡ starts_with fabric a.config w actor None (kept_of w actor)
  start_is actor = world_step-start fabric a.config w actor None
