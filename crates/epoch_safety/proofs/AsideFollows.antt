-- The machines follow stops, ticks, and what else changes no state and no records.
use Rattle.std.proofs.Common.{◌≡◌, ℕ, false, List, [], Some, refl, sym, ap, ◌∙◌, subst}
use Rattle.fabric_lemmas.specs.Maps.{at, put, without}
use Rattle.fabric_terms.specs.declared.config.FabricConfig.{FabricConfig}
use Rattle.join_phases.specs.Phases.{is_left}
use Rattle.ring_points.specs.Whos.{arbiter_actor}
use Rattle.unit_rules.specs.Registers.{registers_after}
use Rattle.unit_rules.specs.Units.{units}
use Rattle.world_rules.specs.Arbiters.{ArbiterState, arbiter_begun}
use Rattle.world_rules.specs.Events.{arbiter_number}
use Rattle.world_rules.specs.Nodes.{NodeState}
use Rattle.world_rules.specs.Worlds.{World, Running, kept_of}
use Rattle.world_rules.proofs.Rows.{arbiter_begun-is}
use Rattle.run_facts.proofs.Kept.{put_cases, without_cases}
use Rattle.epoch_refinement.specs.Nodes.{Machines}
use Rattle.epoch_safety.proofs.Follows.{Acting, Follows, registers_in}
use Rattle.epoch_safety.proofs.Telling.{Tellings}

-- the nodes are those that run already, at other readings maybe
abbrev pub AreOf : World units → List (ℕ × Running units) → Type 0
AreOf w nodes = (q : ℕ) (s : Running units) → at q nodes ≡ Some s → (r : Running units) × (at q w.nodes ≡ Some r) × (s.node ≡ r.node)

-- beside each arbitrator's accusations are the registers of its records
abbrev pub AreRecorded : World units → List (ℕ × ArbiterState units) → Type 0
AreRecorded w arbiters = (q : ℕ) (s : ArbiterState units) → at q arbiters ≡ Some s → s.beside ≡ registers_in w q

module _ (k : ℕ) (w : World units) (t : Tellings) (m : Machines) (f : Follows k w t m) where
  pub aside_follows : (time : ℕ) (nodes : List (ℕ × Running units)) (arbiters : List (ℕ × ArbiterState units)) → AreOf w nodes → AreRecorded w arbiters →
      Follows k (record w { time = time; nodes = nodes; arbiters = arbiters }) t m
  aside_follows time nodes arbiters are recorded = record {
    inv = f.inv;
    last = f.last;
    states = f.states;
    begins = f.begins;
    low = λ q s h. let r = are q s h in f.low q r.0 r.1;
    here = λ q s h.
        let r = are q s h in
        subst (λ (z : NodeState units). is_left z.ring.phase ≡ false → f.last q ≡ z.above) (sym r.2) (f.here q r.0 r.1);
    acts = λ q s h.
        let r = are q s h in
        subst (λ (z : NodeState units). is_left z.ring.phase ≡ false → Acting k m (kept_of w q) z.ring.me z.above) (sym r.2) (f.acts q r.0 r.1);
    fresh = f.fresh;
    registers = f.registers;
    beside = recorded;
    frames = f.frames;
    told = f.told;
  }

  same_nodes : AreOf w w.nodes
  same_nodes q s h = (s, h, refl)

  pub node_stops_follows : (node : ℕ) → Follows k (record w { nodes = without node w.nodes }) t m
  node_stops_follows node =
      aside_follows w.time (without node w.nodes) w.arbiters (λ q s h. (s, (without_cases node w.nodes q s h).1, refl)) f.beside

  pub arbiter_stops_follows : (arbiter : ℕ) → Follows k (record w { arbiters = without arbiter w.arbiters }) t m
  arbiter_stops_follows arbiter =
      aside_follows w.time w.nodes (without arbiter w.arbiters) same_nodes (λ q s h. f.beside q s (without_cases arbiter w.arbiters q s h).1)

  pub arbiter_starts_follows : (c : FabricConfig) (actor : ℕ) → arbiter_actor (arbiter_number actor) ≡ actor →
      Follows k (record w { arbiters = put (arbiter_number actor) (arbiter_begun units c (arbiter_number actor) (kept_of w actor)) w.arbiters }) t m
  arbiter_starts_follows c actor is =
      aside_follows w.time w.nodes (put (arbiter_number actor) (arbiter_begun units c (arbiter_number actor) (kept_of w actor)) w.arbiters) same_nodes
      (λ q s h.
      put_cases (λ (z : ArbiterState units). z.beside ≡ registers_in w q) (arbiter_number actor)
      (arbiter_begun units c (arbiter_number actor) (kept_of w actor)) w.arbiters q s h
      (λ same.
      ap (λ (z : ArbiterState units). z.beside) (arbiter_begun-is units c (arbiter_number actor) (kept_of w actor))
      ∙ ap (λ n. registers_after [] (kept_of w n)) (sym is ∙ ap arbiter_actor same))
      (λ apart there. f.beside q s there))
