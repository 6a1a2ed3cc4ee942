-- A frame that a node does not take: it leaves where its fence is past, as at a firing, and else does nothing.
use Rattle.std.proofs.Common.{◌≡◌, ℕ, Bool, true, false, not, ◌&&◌, refl, ap, sym, ◌∙◌, inl, inr}
use Rattle.std.specs.Prelude.{◌⊎◌}
use Rattle.ring_safety.specs.StrangeFrames.{StrangeFrames}
use Rattle.fabric_terms.specs.declared.config.FabricConfig.{FabricConfig}
use Rattle.fabric_terms.specs.declared.message.Message.{Message}
use Rattle.fabric_terms.specs.declared.report.Why.TheVariants.{Fence}
use Rattle.join_phases.specs.Phases.{is_left}
use Rattle.ring_rules.specs.Deeds.{leave}
use Rattle.ring_rules.specs.Frames.{passes}
use Rattle.ring_rules.specs.Rings.{Ring, settings_of}
use Rattle.ring_rules.specs.Slots.{fence_of, is_past}
use Rattle.ring_rules.specs.Starts.{begun}
use Rattle.ring_rules.specs.Steps.{ring_step, step_if, before_fence, frame_if}
use Rattle.ring_rules.specs.declared.input.Input.{Input}
use Rattle.ring_rules.specs.declared.input.Input.TheVariants as input
use Rattle.world_rules.specs.Nodes.{NodeState, node_step, ring_did, above_if, above_acts, both_did, comes_above}
use Rattle.world_rules.specs.Uppers.{Upper, idle}

-- who has left does nothing above
none_above : (a : Upper) (c : FabricConfig) (now : ℕ) (i : Input) (s : NodeState a) (new : Ring) → is_left new.phase ≡ true →
    above_acts a c now i s new ≡ idle s.above
none_above a c now i s new e = ap (λ (b : Bool). above_if a c now new s.above i (not b && comes_above (settings_of c s.ring.me.actor) s.ring i)) e

-- a node that has left does the same, whatever comes: nothing
pub left_alike : (a : Upper) (c : FabricConfig) (now : ℕ) (i j : Input) (s : NodeState a) → is_left s.ring.phase ≡ true →
    node_step a c now i s ≡ node_step a c now j s
unfolding node_step ring_step
left_alike a c now i j s e =
    let st = settings_of c s.ring.me.actor in
    let work : (k : Input) → step_if st now k (begun s.ring) (is_left s.ring.phase) ≡ begun s.ring = λ k. ap (step_if st now k (begun s.ring)) e in
    ap (ring_did a c now i s) (work i) ∙ ap (both_did a c s.ring (begun s.ring)) (none_above a c now i s s.ring e)
    ∙ sym (ap (ring_did a c now j s) (work j) ∙ ap (both_did a c s.ring (begun s.ring)) (none_above a c now j s s.ring e))

-- a node past its fence leaves, whatever comes
pub past_alike : (a : Upper) (c : FabricConfig) (now : ℕ) (i j : Input) (s : NodeState a) → is_left s.ring.phase ≡ false →
    is_past now (fence_of (settings_of c s.ring.me.actor).answer s.ring.slots) ≡ true → node_step a c now i s ≡ node_step a c now j s
unfolding node_step ring_step
past_alike a c now i j s e past =
    let st = settings_of c s.ring.me.actor in
    let gone = leave Fence (begun s.ring) in
    let work : (k : Input) → step_if st now k (begun s.ring) (is_left s.ring.phase) ≡ gone = λ k. ap (step_if st now k (begun s.ring)) e
    ∙ ap (before_fence st now k (begun s.ring)) past in
    let left : is_left gone.ring.phase ≡ true = refl in
    ap (ring_did a c now i s) (work i) ∙ ap (both_did a c s.ring gone) (none_above a c now i s gone.ring left)
    ∙ sym (ap (ring_did a c now j s) (work j) ∙ ap (both_did a c s.ring gone) (none_above a c now j s gone.ring left))

-- before its fence a node does nothing with a frame that it does not take
pub strange_idle : (a : Upper) (c : FabricConfig) (now : ℕ) (m : Message) (s : NodeState a) → is_left s.ring.phase ≡ false →
    is_past now (fence_of (settings_of c s.ring.me.actor).answer s.ring.slots) ≡ false → passes (settings_of c s.ring.me.actor) s.ring m ≡ false →
    node_step a c now (input.Frame m) s ≡ both_did a c s.ring (begun s.ring) (idle s.above)
unfolding node_step ring_step
strange_idle a c now m s e before strange =
    let st = settings_of c s.ring.me.actor in
    let work : step_if st now (input.Frame m) (begun s.ring) (is_left s.ring.phase) ≡ begun s.ring =
    ap (step_if st now (input.Frame m) (begun s.ring)) e ∙ ap (before_fence st now (input.Frame m) (begun s.ring)) before
    ∙ ap (frame_if st now m (begun s.ring)) strange in
    let above : above_acts a c now (input.Frame m) s s.ring ≡ idle s.above =
    ap (λ (b : Bool). above_if a c now s.ring s.above (input.Frame m) (not b && passes st s.ring m)) e
    ∙ ap (λ (b : Bool). above_if a c now s.ring s.above (input.Frame m) b) strange in
    ap (ring_did a c now (input.Frame m) s) work ∙ ap (both_did a c s.ring (begun s.ring)) above

pub strange_frames : (a : Upper) → StrangeFrames a
strange_frames a c now m s strange = by_phase (is_left s.ring.phase) refl (is_past now (fence_of (settings_of c s.ring.me.actor).answer s.ring.slots)) refl
  where
    by_phase : (b : Bool) → is_left s.ring.phase ≡ b → (p : Bool) → is_past now (fence_of (settings_of c s.ring.me.actor).answer s.ring.slots) ≡ p →
        (node_step a c now (input.Frame m) s ≡ node_step a c now input.Fire s) ⊎ (node_step a c now (input.Frame m) s ≡ both_did a c s.ring (begun s.ring) (idle s.above))
    by_phase true e p f = inl (left_alike a c now (input.Frame m) input.Fire s e)
    by_phase false e true f = inl (past_alike a c now (input.Frame m) input.Fire s e f)
    by_phase false e false f = inr (strange_idle a c now m s e f strange)
