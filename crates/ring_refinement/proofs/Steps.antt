-- The whole step of a ring.
use Rattle.std.proofs.Common.{◌≡◌, ℕ, min, Bool, true, false, length, refl, sym, subst}
use Rattle.ring_points.specs.declared.who.Who.{Who}
use Rattle.fabric_terms.specs.declared.command.Command.{Command}
use Rattle.fabric_terms.specs.declared.command.Command.TheVariants as command
use Rattle.fabric_terms.specs.declared.config.FabricConfig.{FabricConfig}
use Rattle.fabric_terms.specs.declared.report.Why.TheVariants.{Fence}
use Rattle.join_phases.specs.Phases.{is_left}
use Rattle.ring_rules.specs.declared.input.Input.{Input}
use Rattle.ring_rules.specs.declared.input.Input.TheVariants as input
use Rattle.ring_rules.specs.Frames.{passes}
use Rattle.ring_rules.specs.Rings.{Ring, Work, settings_of}
use Rattle.ring_rules.specs.Slots.{fence_of, is_past}
use Rattle.ring_rules.specs.Starts.{begun}
use Rattle.ring_rules.specs.Steps.{command_row, input_taken, before_fence, step_if}
use Rattle.ring_rules.proofs.Rows.{command_received-is, ring_step-is}
use Rattle.ring_machine.specs.World.{World}
use Rattle.ring_machine.specs.Events.{IsSound}
use Rattle.ring_machine.specs.Invariant.{Invariant}
use Rattle.ring_refinement.specs.Images.{machine_of}
use Rattle.ring_refinement.specs.Shown.{ShowsAs, ShowsInstance}
use Rattle.ring_refinement.specs.Refined.{Refined}
use Rattle.ring_refinement.specs.Laws.{Comes, StepIsDeeds}
use Rattle.ring_refinement.proofs.Going.{Going}
use Rattle.ring_refinement.proofs.Leaving.{Went, on, leave_refined, went_refined, counted_went}
use Rattle.ring_refinement.proofs.Quiet.{join_going, find_going}
use Rattle.ring_refinement.proofs.Commands.{link_going, part_going, give_going}
use Rattle.ring_refinement.proofs.Firing.{timer_went}
use Rattle.ring_refinement.proofs.Frames.{frame_went}
use Rattle.ring_refinement.proofs.Beginnings.{left_stays, stands_at_first, goes_at_first}

module _ {c : FabricConfig} {m : World} {x : Who} {now : ℕ} {w : Work} (sound : IsSound (machine_of c)) (node : ℕ) (g : Going c m x now w) where
  command_row_went : (d : Command) → Went c m x now (command_row (settings_of c node) now d w)
  command_row_went (command.Link n) = on (link_going sound g node n 1 c.lease (λ h. refl))
  command_row_went (command.LinkFor n length) = on (link_going sound g node n 2 (min length (settings_of c node).longest) (λ h. absurd (cc (h))))
  command_row_went (command.Part n) = on (part_going sound g n)
  command_row_went (command.GiveNear n) = on (give_going sound g false n)
  command_row_went (command.GiveAll n) = on (give_going sound g true n)
  command_row_went (command.Join n) = on (join_going sound g n)
  command_row_went (command.Find key) = on (find_going sound g key)
  command_row_went d = on g

module _ {c : FabricConfig} {m : World} {x : Who} {now : ℕ} {w : Work} (sound : IsSound (machine_of c)) (node : ℕ) (g : Going c m x now w) where
  input_went : (i : Input) → Comes c m i → Went c m x now (input_taken (settings_of c node) now i w)
  input_went input.Fire p = timer_went sound node g
  input_went (input.Frame f) p = frame_went sound node g f p (passes (settings_of c node) w.ring f) refl
  input_went (input.Do d) p =
      subst (λ (u : Work). Went c m x now u) (sym (command_received-is (settings_of c node) now d w)) (counted_went sound g (command_row_went sound node g d))

module _ {c : FabricConfig} {m : World} {x : Who} {r : Ring} (sound : IsSound (machine_of c)) (inv : Invariant (machine_of c) m) (shows : ShowsInstance c x m.sent (m.instance x) r) where
  step_refined : (node now : ℕ) (i : Input) → (m.instance x).reading ≡ now → is_left r.phase ≡ false → Comes c m i → (q : Bool) →
      is_past now (fence_of c.answer r.slots) ≡ q → Refined c m x (before_fence (settings_of c node) now i (begun r) q)
  step_refined node now i read stays comes true past = leave_refined sound (stands_at_first sound inv shows) Fence
  step_refined node now i read stays comes false past = went_refined sound (input_went sound node (goes_at_first sound inv shows now read stays past) i comes)

pub step_is_deeds_lem : StepIsDeeds
step_is_deeds_lem c node now m x r i sound inv shows reading comes =
    subst (λ (u : Work). Refined c m x u) (sym (ring_step-is (settings_of c node) now i r)) (go (is_left r.phase) refl)
  where
    go : (q : Bool) → is_left r.phase ≡ q → Refined c m x (step_if (settings_of c node) now i (begun r) q)
    go true e = left_stays c m x r inv shows e
    go false e =
        step_refined sound inv (subst (λ (b : Bool). ShowsAs c m x r b) e shows) node now i (reading e) e comes (is_past now (fence_of c.answer r.slots)) refl
