-- A step of a node that has left, or leaves without a frame: nothing comes of it for anybody else.
use Rattle.std.proofs.Common.{◌≡◌, ℕ, ◌+◌, Bool, true, false, cond, not, ◌&&◌, ◌||◌, List, [], ◌∷◌, ◌++◌, refl, sym, ap, ◌∙◌, arith}
use Rattle.std.specs.Prelude.{◌==◌}
use Rattle.std.specs.List.{list_any}
use Rattle.std.proofs.lemmas.Bool.{eqb-true}
use Rattle.std.proofs.lemmas.List.{append-nil}
use Rattle.fabric_terms.specs.declared.config.FabricConfig.{FabricConfig}
use Rattle.fabric_terms.specs.declared.message.Body.{Body}
use Rattle.fabric_terms.specs.declared.record.Record.{Record}
use Rattle.fabric_terms.specs.Places.{tells_leave}
use Rattle.join_phases.specs.Phases.{is_left}
use Rattle.ring_points.specs.declared.who.Who.{Who}
use Rattle.ring_rules.proofs.Rows.{ring_step-is}
use Rattle.ring_rules.specs.declared.input.Input.{Input}
use Rattle.ring_rules.specs.Rings.{Ring, Work, settings_of}
use Rattle.ring_rules.specs.Starts.{begun}
use Rattle.ring_rules.specs.Steps.{ring_step, step_if}
use Rattle.run_facts.proofs.Kept.{kept_after}
use Rattle.run_facts.proofs.Steps.{node_acted-told}
use Rattle.world_rules.proofs.Rows.{node_step-is}
use Rattle.world_rules.specs.Above.{StaysAbove}
use Rattle.world_rules.specs.Nodes.{NodeState, above_acts, above_if, comes_above, node_step, ring_did}
use Rattle.world_rules.specs.Uppers.{Upper, Did, idle}
use Rattle.world_rules.specs.Worlds.{World, kept_of, numbers_of, with_outcome}

-- what runs above does nothing where the ring has left
above_idle : (a : Upper) (c : FabricConfig) (now : ℕ) (i : Input) (s : NodeState a) (new : Ring) → is_left new.phase ≡ true → above_acts a c now i s new ≡ idle s.above
above_idle a c now i s new left = ap (λ t. above_if a c now new s.above i (not t && comes_above (settings_of c s.ring.me.actor) s.ring i)) left

-- a node that has left after a step has recorded nothing in it
pub records_nothing : (a : Upper) (c : FabricConfig) (now : ℕ) (i : Input) (s : NodeState a) → is_left (node_step a c now i s).state.ring.phase ≡ true →
    (node_step a c now i s).records ≡ []
unfolding node_step
records_nothing a c now i s left =
    ap (λ (d : Did a.Above). d.records) (above_idle a c now i s (ring_step (settings_of c s.ring.me.actor) now i s.ring).ring left)

-- one that had left before sends nothing
pub sends_nothing : (a : Upper) (c : FabricConfig) (now : ℕ) (i : Input) (s : NodeState a) → is_left s.ring.phase ≡ true → (node_step a c now i s).sent ≡ []
sends_nothing a c now i s left =
    ap (λ (d : Did (NodeState a)). d.sent) (node_step-is a c now i s)
    ∙ (ap (λ (k : Work). (ring_did a c now i s k).sent) still ∙ ap (λ (d : Did a.Above). d.sent) (above_idle a c now i s s.ring left))
  where
    still : ring_step (settings_of c s.ring.me.actor) now i s.ring ≡ begun s.ring
    still = ring_step-is (settings_of c s.ring.me.actor) now i s.ring ∙ ap (step_if (settings_of c s.ring.me.actor) now i (begun s.ring)) left

-- and it stays left
pub stays_left : (a : Upper) → StaysAbove a → (c : FabricConfig) (now : ℕ) (i : Input) (s : NodeState a) → is_left s.ring.phase ≡ true →
    is_left (node_step a c now i s).state.ring.phase ≡ true
stays_left a stays c now i s left =
    sym (node_acted-told a stays c now i s).leaves ∙ (ap (λ t. list_any tells_leave (node_step a c now i s).told || t) left ∙ or_true (list_any tells_leave (node_step a c now i s).told))
  where
    or_true : (b : Bool) → (b || true) ≡ true
    or_true true = refl
    or_true false = refl

-- no frame has the numbers of none
pub none_numbered : (before : ℕ) (ms : List (Who × Body)) → numbers_of before ms ≡ (0, 0) → ms ≡ []
none_numbered before [] h = refl
none_numbered before (m ∷ ms) h = absurd (let e : before + 1 ≡ 0 = ap (λ (z : ℕ × ℕ). z.0) h in omega arith)

-- the records of all actors are as before
pub nothing_kept : {a : Upper} (w : World a) (who : Who) (records : List Record) (sent : List (Who × Body)) (q : ℕ) → records ≡ [] →
    kept_of (with_outcome w who records sent) q ≡ kept_of w q
nothing_kept w who records sent q none = kept_after w who records sent q ∙ go (who.actor == q) refl
  where
    go : (b : Bool) → (who.actor == q) ≡ b → cond b (kept_of w who.actor ++ records) (kept_of w q) ≡ kept_of w q
    go true h = ap (λ rs. kept_of w who.actor ++ rs) none ∙ (append-nil (kept_of w who.actor) ∙ ap (kept_of w) (eqb-true who.actor q h))
    go false h = refl
