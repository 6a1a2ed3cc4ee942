-- The next event of a history: its frames, and what is answered where an actor acts.
use Rattle.std.proofs.Common.{◌≡◌, ℕ, true, ◌∷◌, Some, sym, ap, subst, ◌∙◌}
use Rattle.std.specs.Prelude.{is_some}
use Rattle.std.proofs.lemmas.List.Elements.{All-cons}
use Rattle.fabric_terms.specs.declared.config.FabricConfig.{FabricConfig}
use Rattle.fabric_terms.specs.declared.event.Event.{Event}
use Rattle.ring_rules.specs.declared.input.Input.{Input}
use Rattle.fabric_terms.specs.Ranges.{Fits}
use Rattle.world_rules.specs.Events.{world_step, acts_at, node_acts}
use Rattle.fabric_lemmas.specs.Maps.{at}
use Rattle.unit_rules.specs.Fabric.{fabric}
use Rattle.world_rules.specs.Runs.{History}
use Rattle.world_rules.specs.Schedules.{is_there, keeps_bound}
use Rattle.world_rules.specs.Worlds.{World as RuledWorld, Running as RuledRunning, Stepped}
use Rattle.ring_world.specs.Answers.{IsWorld, StandsFor}
use Rattle.frame_format.specs.Kinds.{is_frame}
use Rattle.unit_rules.specs.Ruled.{ruled}
use Rattle.ring_world.specs.Finds.{IsAt}
use Rattle.ring_world.specs.Moves.{MayCome, MayNot, Moves, Same}
use Rattle.world_rules.specs.EventLimits.{acts, time_after}
use Rattle.ring_world.specs.Stands.{Stands}
use Rattle.ring_world.specs.Steps.{LeavesSound, CanStep}
use Rattle.ring_world.specs.declared.world.Acted.{Acted}
use Rattle.ring_world.specs.declared.world.EventRefusal.TheVariants.{OutOfMemory}
use Rattle.ring_world.specs.declared.world.World.{World}
use Rattle.fabric_fit.proofs.Units.{units_in_format}
use Rattle.ring_world.proofs.Limits.{room_is, room_test}

-- a world stands for a history of its own configuration
pub record OwnHistory (a : World) : Type 0 where
  pub history : History
  pub stands : StandsFor a a.config history

pub own : (a : World) → IsWorld a → OwnHistory a
own a (c, h, s) = record { history = h; stands = subst (λ (k : FabricConfig). StandsFor a k h) (sym s.config) s }

-- what comes next leaves sound frames
pub sound_next : (a : World) (h : History) (line : ℕ) (e : Event) → StandsFor a a.config h → Fits e → is_there is_frame a.config (ruled a.config h) e ≡ true → keeps_bound a.config (ruled a.config h) e ≡ true
    → LeavesSound (world_step fabric a.config (ruled a.config h) e)
sound_next a h line e s fits there bound =
    units_in_format is_frame a.config ((line, e) ∷ h) s.sound (All-cons (λ (x : ℕ × Event). Fits x.1) (line, e) h fits s.fits) (s.valid, record { there = there; bound = bound })

-- an event at which a node takes an input
pub record Acting (a : World) (w : RuledWorld fabric) (node : ℕ) (i : Input) (e : Event) : Type 0 where
  pub step : world_step fabric a.config w e ≡ acts_at fabric a.config w node i (at node w.nodes)
  pub bound : keeps_bound a.config w e ≡ true
  pub acts : acts e ≡ true
  pub still : time_after w.time e ≡ w.time

pub can_act : (a : World) (node place : ℕ) (i : Input) (e : Event) → IsWorld a → Fits e → ((w : RuledWorld fabric) → Acting a w node i e)
    → ((w : RuledWorld fabric) → Stands a w → is_there is_frame a.config w e ≡ true) → ((w : RuledWorld fabric) → Stands a w → IsAt node place w.nodes)
    → (w : RuledWorld fabric) × Stands a w × CanStep a.config w place i
can_act a node place i e world fits acting there here =
    let o = own a world in
    let w : RuledWorld fabric = ruled a.config o.history in
    let s : Stands a w = o.stands.keeps.state in
    let k = here w s in
    let sound : LeavesSound (world_step fabric a.config w e) = sound_next a o.history 0 e o.stands fits (there w s) (acting w).bound in
    let step : world_step fabric a.config w e ≡ node_acts fabric a.config w node i k.value = (acting w).step ∙ ap (λ o. acts_at fabric a.config w node i o) k.found in
    (w, s, record { node = node; state = k.value; here = k.here; sound = subst (λ (st : Stepped fabric). LeavesSound st) step sound })

-- where memory is short for it
pub act_short : (a new : World) (w : RuledWorld fabric) (node : ℕ) (i : Input) (e : Event) (s : RuledRunning fabric) → Acting a w node i e → Stands a w
    → is_there is_frame a.config w e ≡ true → room_test a true ≡ true → at node w.nodes ≡ Some s → Same a new → MayNot OutOfMemory a w e × Same a new
act_short a new w node i e s acting st there room here same =
    let step : world_step fabric a.config w e ≡ node_acts fabric a.config w node i s = acting.step ∙ ap (λ o. acts_at fabric a.config w node i o) here in (
      (record { there = there; bound = acting.bound; room = room_is a w e true st acting.acts acting.still ∙ room }, ap (λ (x : Stepped fabric). is_some x.entry) step),
      same,
    )

pub act_done : (a new : World) (w : RuledWorld fabric) (node : ℕ) (i : Input) (e : Event) (s : RuledRunning fabric) (line : ℕ) (acted : Acted) → Acting a w node i e → Stands a w
    → is_there is_frame a.config w e ≡ true → room_test a true ≡ true → at node w.nodes ≡ Some s → Moves a new (node_acts fabric a.config w node i s) line (Some acted)
    → MayCome a w e × Moves a new (world_step fabric a.config w e) line (Some acted)
act_done a new w node i e s line acted acting st there room here moves =
    let step : world_step fabric a.config w e ≡ node_acts fabric a.config w node i s = acting.step ∙ ap (λ o. acts_at fabric a.config w node i o) here in (
      record { there = there; bound = acting.bound; room = room_is a w e true st acting.acts acting.still ∙ room },
      subst (λ (x : Stepped fabric). Moves a new x line (Some acted)) (sym step) moves,
    )
