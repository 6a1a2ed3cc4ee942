-- A frame of a number that is given.
use Rattle.std.proofs.Common.{◌≡◌, ℕ, ◌-◌, Bool, true, false, Some, None, sym, ap, subst, ◌∙◌, length}
use Rattle.std.specs.Prelude.{◌&&◌, nat_le, slice_get}
use Rattle.fabric_terms.specs.declared.event.Event.TheVariants.{Give}
use Rattle.fabric_terms.specs.declared.message.Message.{Message}
use Rattle.frame_bag.specs.Bags.{frame_of}
use Rattle.fabric_terms.specs.Ranges.{Fits}
use Rattle.world_rules.specs.Events.{arrives, world_step}
use Rattle.unit_rules.specs.Fabric.{fabric}
use Rattle.world_rules.specs.Schedules.{is_there}
use Rattle.world_rules.specs.Worlds.{World as RuledWorld, Stepped, frame_in}
use Rattle.world_rules.proofs.Rows.{is_there-give, world_step-give}
use Rattle.ring_world.specs.Answers.{IsWorld}
use Rattle.frame_format.specs.Kinds.{is_frame}
use Rattle.unit_rules.specs.Ruled.{ruled}
use Rattle.ring_world.specs.Stands.{Stands}
use Rattle.ring_world.specs.Steps.{IsSoundFrame, LeavesSound}
use Rattle.ring_world.specs.declared.world.World.{World}
use Rattle.fabric_fit.proofs.Units.{units_in_format}
use Rattle.ring_world.proofs.Limits.{bound-give}
use Rattle.ring_world.proofs.NextEvents.{own, sound_next}
use Rattle.ring_world.proofs.Arrivals.{all_at, frame_none, frame_some}

module _ (a : World) (w : RuledWorld fabric) (number : ℕ) (st : Stands a w) where
  there_is : (b : Bool) → (nat_le 1 number && nat_le number (length a.frames.frames)) ≡ b → is_there is_frame a.config w (Give number) ≡ b
  there_is b e =
      is_there-give is_frame a.config w number
      ∙ (ap (λ n. nat_le 1 number && nat_le number n) (st.frames.counted ∙ ap length (sym st.frames.frames)) ∙ e)

  pub give_absent : frame_of number a.frames.frames ≡ None → is_there is_frame a.config w (Give number) ≡ false
  give_absent e = there_is false (frame_none number a.frames.frames e)

  module _ (m : Message) (got : frame_of number a.frames.frames ≡ Some m) where
    pub give_there : is_there is_frame a.config w (Give number) ≡ true
    give_there = there_is true (frame_some number a.frames.frames m got).0

    frame_is : frame_in w number ≡ Some m
    frame_is =
        ap (λ n. slice_get w.frames (n - number)) (st.frames.counted ∙ ap length (sym st.frames.frames))
        ∙ (ap (λ fs. slice_get fs (length a.frames.frames - number)) (sym st.frames.frames) ∙ (frame_some number a.frames.frames m got).1)

    pub give_is : world_step fabric a.config w (Give number) ≡ arrives fabric a.config w (Some m)
    give_is = world_step-give fabric a.config w number ∙ ap (λ o. arrives fabric a.config w o) frame_is

-- what is needed for it to arrive
pub can_arrive : (a : World) (number : ℕ) (m : Message) → IsWorld a → Fits (Give number) → frame_of number a.frames.frames ≡ Some m
    → (w : RuledWorld fabric) × Stands a w × LeavesSound (arrives fabric a.config w (Some m))
can_arrive a number m world fits got =
    let o = own a world in
    let w : RuledWorld fabric = ruled a.config o.history in
    let s : Stands a w = o.stands.keeps.state in
    let sound : LeavesSound (world_step fabric a.config w (Give number)) = sound_next a o.history 0 (Give number) o.stands fits (give_there a w number s m got) (bound-give a w number) in
    (w, s, subst (λ (x : Stepped fabric). LeavesSound x) (give_is a w number s m got) sound)

-- and that it is sound
pub sound_frame : (a : World) (number : ℕ) (m : Message) → IsWorld a → frame_of number a.frames.frames ≡ Some m → IsSoundFrame m
sound_frame a number m world got =
    let o = own a world in
    let w : RuledWorld fabric = ruled a.config o.history in
    let s : Stands a w = o.stands.keeps.state in
    let all = units_in_format is_frame a.config o.history o.stands.sound o.stands.fits o.stands.valid in
    all_at IsSoundFrame w.frames (length a.frames.frames - number) m all (ap (λ fs. slice_get fs (length a.frames.frames - number)) (sym s.frames.frames) ∙ (frame_some number a.frames.frames m got).1)
