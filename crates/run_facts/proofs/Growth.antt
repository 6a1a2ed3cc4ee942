-- Synced records only grow at their end.
use Rattle.std.proofs.Common.{◌≡◌, ℕ, Bool, true, false, cond, List, [], ◌++◌, refl, sym, ap, ◌∙◌}
use Rattle.std.specs.Prelude.{◌==◌}
use Rattle.std.proofs.lemmas.Bool.{eqb-true}
use Rattle.std.proofs.lemmas.List.{append-nil}
use Rattle.fabric_terms.specs.declared.config.FabricConfig.{FabricConfig}
use Rattle.fabric_terms.specs.declared.event.Event.{Event}
use Rattle.fabric_terms.specs.declared.message.Body.{Body}
use Rattle.fabric_terms.specs.declared.record.Record.{Record}
use Rattle.ring_points.specs.declared.who.Who.{Who}
use Rattle.world_rules.specs.Arbiters.{ArbiterState, arbiter_step}
use Rattle.world_rules.specs.Nodes.{NodeState, node_begun, node_step}
use Rattle.world_rules.specs.Runs.{world_after}
use Rattle.world_rules.specs.Uppers.{Upper, Did}
use Rattle.world_rules.specs.Worlds.{World, arbiter_who, kept_of, with_outcome}
use Rattle.run_facts.specs.Laws.{RecordsGrow}
use Rattle.run_facts.proofs.Happens.{Cases, by_cases}
use Rattle.run_facts.proofs.Kept.{kept_after}

-- the records of an actor are those before and more
abbrev More : List Record → List Record → Type 0
More before now = (more : List Record) × (now ≡ before ++ more)

no_more : (records : List Record) → More records records
no_more records = ([], sym (append-nil records))

grown : {a : Upper} (w : World a) (who : Who) (records : List Record) (sent : List (Who × Body)) (q : ℕ) → More (kept_of w q) (kept_of (with_outcome w who records sent) q)
grown w who records sent q = go (who.actor == q) refl
  where
    go : (b : Bool) → (who.actor == q) ≡ b → More (kept_of w q) (kept_of (with_outcome w who records sent) q)
    go true h = (
      records,
      kept_after w who records sent q
          ∙ (ap (λ b. cond b (kept_of w who.actor ++ records) (kept_of w q)) h ∙ ap (λ z. kept_of w z ++ records) (eqb-true who.actor q h)),
    )
    go false h = (
      [],
      kept_after w who records sent q ∙ (ap (λ b. cond b (kept_of w who.actor ++ records) (kept_of w q)) h ∙ sym (append-nil (kept_of w q))),
    )

module _ (a : Upper) (c : FabricConfig) (w : World a) (q : ℕ) where
  node_grown : (d : Did (NodeState a)) → More (kept_of w q) (kept_of (with_outcome w d.state.ring.me d.records d.sent) q)
  node_grown d = grown w d.state.ring.me d.records d.sent q

  grown_cases : (e : Event) → Cases a c w e (λ st. More (kept_of w q) (kept_of st.world q))
  grown_cases e = record {
    still = no_more (kept_of w q);
    begins = λ node reading h. node_grown (node_begun a c node (kept_of w node));
    stops = λ node s h. no_more (kept_of w q);
    ticks = λ advance readings h. no_more (kept_of w q);
    acts = λ node i s h came. node_grown (node_step a c s.reading i s.node);
    table_begins = λ actor h. no_more (kept_of w q);
    table_stops = λ arbiter s h. no_more (kept_of w q);
    rules = λ arbiter f s h m to.
        let d : Did (ArbiterState a) = arbiter_step a c arbiter f s in
        grown w (arbiter_who arbiter) d.records d.sent q;
  }

pub records_grow_lem : (a : Upper) → RecordsGrow a
records_grow_lem a c h e actor =
    let w : World a = world_after a c h in
    by_cases a c w e.1 (λ st. More (kept_of w actor) (kept_of st.world actor)) (grown_cases a c w actor e.1) e.1 refl
