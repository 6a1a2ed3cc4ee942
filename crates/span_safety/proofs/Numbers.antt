-- The number of a running node is no arbitrator's.
use Rattle.std.proofs.Common.{◌≡◌, ℕ, ◌<◌, Bool, true, false, List, [], ◌∷◌, Some, sym, ap, ◌∙◌, ⊎_elim, arith}
use Rattle.std.specs.Prelude.{◌==◌, All, not}
use Rattle.std.specs.List.{list_any}
use Rattle.std.proofs.lemmas.Bool.{and_parts, eqb-true, or_cases}
use Rattle.std.proofs.lemmas.Bool.Decides.{nat_tests}
use Rattle.std.proofs.lemmas.List.Elements.{All-head, All-tail}
use Rattle.cold_start.proofs.Steps.{life_first}
use Rattle.world_rules.specs.Starts.{first_whole}
use Rattle.fabric_lemmas.specs.Maps.{at}
use Rattle.fabric_terms.specs.declared.config.FabricConfig.{FabricConfig}
use Rattle.fabric_terms.specs.declared.config.NodeEntry.{NodeEntry}
use Rattle.fabric_terms.specs.declared.event.Event.{Event}
use Rattle.fabric_terms.specs.declared.event.Event.TheVariants.{Start}
use Rattle.fabric_terms.specs.Sound.{IsSound, IsSoundNode}
use Rattle.world_rules.specs.Events.{is_arbiter_actor}
use Rattle.world_rules.specs.Runs.{History, world_after}
use Rattle.world_rules.specs.Schedules.{Valid, is_configured_node, is_there, node_runs}
use Rattle.world_rules.specs.Uppers.{Upper}
use Rattle.world_rules.specs.Worlds.{World, Running, Stepped}
use Rattle.span_safety.specs.Lengths.{begins}
use Rattle.span_safety.proofs.Became.{Became, acted, became, began, showed, stayed}

low_node : (es : List NodeEntry) (node : ℕ) → All IsSoundNode es → list_any (λ e. e.node == node) es ≡ true → node < 32768
low_node [] node sound h = absurd (cc (h))
low_node (e ∷ es) node sound h =
    let first = (All-head IsSoundNode e es sound).node in
    ⊎_elim (λ here. let same = eqb-true e.node node here in let le = first.to_high in omega arith)
    (λ rest. low_node es node (All-tail IsSoundNode e es sound) rest) (or_cases (e.node == node) (list_any (λ e. e.node == node) es) h)

-- who starts is configured
starts_configured : {a : Upper} (is_frame : List ℕ → Bool) (c : FabricConfig) (w : World a) (node : ℕ) (e : Event) → begins node e ≡ true → is_there is_frame c w e ≡ true →
    is_configured_node c node ≡ true
unfolding is_there
starts_configured is_frame c w node (Start other (Some reading)) start there =
    sym (ap (is_configured_node c) (eqb-true other node start)) ∙ (and_parts (is_configured_node c other) (not (node_runs w other)) there).0
starts_configured is_frame c w node e start there = absurd (cc (start))

-- who starts doesn't run yet
pub starts_free : {a : Upper} (is_frame : List ℕ → Bool) (c : FabricConfig) (w : World a) (node : ℕ) (e : Event) → begins node e ≡ true → is_there is_frame c w e ≡ true →
    not (node_runs w node) ≡ true
unfolding is_there
starts_free is_frame c w node (Start other (Some reading)) start there =
    sym (ap (λ n. not (node_runs w n)) (eqb-true other node start)) ∙ (and_parts (is_configured_node c other) (not (node_runs w other)) there).1
starts_free is_frame c w node e start there = absurd (cc (start))

module _ (a : Upper) (is_frame : List ℕ → Bool) (c : FabricConfig) where
  configured : (h : History) → Valid a is_frame c h → (node : ℕ) (s : Running a) → at node (world_after a c h).nodes ≡ Some s → is_configured_node c node ≡ true
  configured [] valid node s there = absurd (cc (there))
  configured (e ∷ h) valid node s there =
      go
      (became a (first_whole c) c (world_after a c h) node e.1 s (ap (λ (st : Stepped a). at node st.world.nodes) (life_first a c (world_after a c h) e.1) ∙ there))
      (configured h valid.0 node)
    where
      go : Became a (first_whole c) c (world_after a c h) e.1 node s → ((r : Running a) → at node (world_after a c h).nodes ≡ Some r → is_configured_node c node ≡ true) →
          is_configured_node c node ≡ true
      go (stayed other was) again = again s was
      go (showed r time reading other was is) again = again r was
      go (acted i r other was calm does is) again = again r was
      go (began reading start is) again = starts_configured is_frame c (world_after a c h) node e.1 start valid.1.there

  pub no_arbiter : IsSound c → (h : History) → Valid a is_frame c h → (node : ℕ) (s : Running a) → at node (world_after a c h).nodes ≡ Some s →
      is_arbiter_actor node ≡ false
  no_arbiter sound h valid node s there =
      let lt = low_node c.nodes node sound.nodes (configured h valid node s there) in grind (arith, nat_tests, lt)
