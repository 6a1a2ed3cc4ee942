-- The recorded starts of a node grow only.
use Rattle.std.specs.Prelude.{◌==◌, drop}
use Rattle.std.proofs.Common.{◌≡◌, ℕ, zero, suc, ◌≤◌, Bool, true, false, cond, List, [], ◌∷◌, ◌++◌, refl, ap, ◌∙◌, arith}
use Rattle.std.proofs.lemmas.Bool.{eqb-true}
use Rattle.cold_start.proofs.Steps.{life_cases}
use Rattle.cold_start.specs.Lives.{Comes, Again, Lives, lives_world, whole_after}
use Rattle.world_rules.specs.Starts.{node_begun_in}
use Rattle.fabric_terms.specs.declared.config.FabricConfig.{FabricConfig}
use Rattle.fabric_terms.specs.declared.event.Event.{Event}
use Rattle.fabric_terms.specs.declared.message.Body.{Body}
use Rattle.fabric_terms.specs.declared.record.Record.{Record}
use Rattle.ring_points.specs.declared.who.Who.{Who}
use Rattle.run_facts.proofs.Happens.{Cases}
use Rattle.run_facts.proofs.Kept.{boots_append, kept_after}
use Rattle.world_rules.specs.Arbiters.{ArbiterState, arbiter_step}
use Rattle.world_rules.specs.Nodes.{NodeState, boots_of, node_begun, node_step}
use Rattle.world_rules.specs.Uppers.{Upper, Did}
use Rattle.world_rules.specs.Worlds.{World, Stepped, arbiter_who, kept_of, with_outcome}

recorded : {a : Upper} (w : World a) (who : Who) (records : List Record) (sent : List (Who × Body)) (q : ℕ) →
    boots_of (kept_of w q) ≤ boots_of (kept_of (with_outcome w who records sent) q)
recorded w who records sent q = go (who.actor == q) refl
  where
    go : (b : Bool) → (who.actor == q) ≡ b → boots_of (kept_of w q) ≤ boots_of (kept_of (with_outcome w who records sent) q)
    go true h =
        let is = kept_after w who records sent q ∙ ap (λ t. cond t (kept_of w who.actor ++ records) (kept_of w q)) h in
        let same : boots_of (kept_of w who.actor) ≡ boots_of (kept_of w q) = ap (λ z. boots_of (kept_of w z)) (eqb-true who.actor q h) in
        let sum = boots_append (kept_of w who.actor) records in
        let e = ap boots_of is in
        omega arith
    go false h =
        let e = ap boots_of (kept_after w who records sent q ∙ ap (λ t. cond t (kept_of w who.actor ++ records) (kept_of w q)) h) in omega arith

module _ (a : Upper) (c : FabricConfig) (q : ℕ) where
  abbrev More : World a → Stepped a → Type 0
  More w st = boots_of (kept_of w q) ≤ boots_of (kept_of st.world q)

  node_more : (w : World a) (d : Did (NodeState a)) → boots_of (kept_of w q) ≤ boots_of (kept_of (with_outcome w d.state.ring.me d.records d.sent) q)
  node_more w d = recorded w d.state.ring.me d.records d.sent q

  cases : (w : World a) (e : Event) → Cases a c w e (More w)
  cases w e = record {
    still = omega arith;
    begins = λ node reading h. node_more w (node_begun a c node (kept_of w node));
    stops = λ node s h. omega arith;
    ticks = λ advance readings h. omega arith;
    acts = λ node i s h came. node_more w (node_step a c s.reading i s.node);
    table_begins = λ actor h. omega arith;
    table_stops = λ arbiter s h. omega arith;
    rules = λ arbiter f s h m to. let d : Did (ArbiterState a) = arbiter_step a c arbiter f s in recorded w (arbiter_who arbiter) d.records d.sent q;
  }

  -- there were no more some moments ago
  pub boots_before : (ago : ℕ) (l : Lives) → boots_of (kept_of (lives_world a c (drop ago l)) q) ≤ boots_of (kept_of (lives_world a c l) q)
  boots_before zero l = omega arith
  boots_before (suc ago) [] = omega arith
  boots_before (suc ago) ((line, Again whole) ∷ l) = boots_before ago l
  boots_before (suc ago) ((line, Comes e) ∷ l) =
      let w : World a = lives_world a c l in
      let some = boots_before ago l in
      let more = life_cases a (whole_after c l) c w (More w) e (λ other. cases w e) (λ node reading h. node_more w (node_begun_in a (whole_after c l) c node (kept_of w node))) in
      omega arith
