-- A running arbitrator's table is that of its synced records.
use Rattle.std.proofs.Common.{◌≡◌, ℕ, ◌+◌, ◌-◌, Bool, true, false, not, ◌&&◌, List, [], ◌∷◌, Some, None, refl, sym, ap, ◌∙◌, subst, arith}
use Rattle.std.specs.Prelude.{◌==◌, nat_lt, nat_le, length}
use Rattle.std.proofs.lemmas.Bool.{and_parts, eqb-true, eqb-false, ltb-true}
use Rattle.fabric_terms.specs.declared.config.FabricConfig.{FabricConfig}
use Rattle.fabric_terms.specs.declared.event.Event.{Event}
use Rattle.fabric_terms.specs.declared.message.Body.{Body}
use Rattle.fabric_terms.specs.declared.record.Record.{Record}
use Rattle.ring_points.specs.Whos.{arbiter_actor}
use Rattle.ring_points.specs.declared.who.Who.{Who}
use Rattle.ring_rules.specs.Arbiters.{Table, no_table, table_after}
use Rattle.drift_clock.specs.Within.{Pair}
use Rattle.world_rules.specs.Arbiters.{ArbiterState, arbiter_begun, arbiter_step}
use Rattle.world_rules.specs.Events.{arbiter_number}
use Rattle.fabric_lemmas.specs.Maps.{at, put}
use Rattle.world_rules.specs.Nodes.{NodeState, node_begun, node_step}
use Rattle.world_rules.specs.Runs.{History, world_after}
use Rattle.world_rules.specs.Schedules.{is_there, may_start, arbiter_runs, MayCome, Valid}
use Rattle.world_rules.specs.Uppers.{Upper, Did}
use Rattle.world_rules.specs.Worlds.{World, kept_of, arbiter_who, arbiter_acted, node_acted, with_outcome}
use Rattle.world_rules.proofs.Rows.{arbiter_begun-is, is_there-start}
use Rattle.world_rules.specs.Above.{StaysAbove}
use Rattle.run_facts.specs.Laws.{TableIsKept}
use Rattle.run_facts.proofs.ArbiterSteps.{Answered, arbiter_stepped}
use Rattle.run_facts.proofs.Happens.{Cases, by_cases}
use Rattle.run_facts.proofs.Kept.{put_cases, without_cases, kept_here, kept_there, no_entries, table_append}
use Rattle.run_facts.proofs.Steps.{node_acted-told, begun_accuses}

-- the table of an actor's records
abbrev pub table_of : {a : Upper} → World a → ℕ → Table
table_of w actor = table_after no_table (kept_of w actor)

-- records without an accusation leave the table of an actor
pub table_stays : {a : Upper} (w : World a) (who : Who) (records : List Record) (sent : List (Who × Body)) →
    ((t : Table) → table_after t records ≡ t) → (q : ℕ) → table_of (with_outcome w who records sent) q ≡ table_of w q
table_stays w who records sent none q = go (who.actor == q) refl
  where
    go : (b : Bool) → (who.actor == q) ≡ b → table_of (with_outcome w who records sent) q ≡ table_of w q
    go true h =
        subst (λ q. table_of (with_outcome w who records sent) q ≡ table_of w q) (eqb-true who.actor q h)
        (ap (table_after no_table) (kept_here w who records sent)
        ∙ (table_append no_table (kept_of w who.actor) records ∙ none (table_of w who.actor)))
    go false h = ap (table_after no_table) (kept_there w who records sent q h)

-- the table of a running arbitrator
abbrev pub Tabled : {a : Upper} → World a → Type 0
Tabled {a = a} w = (arbiter : ℕ) (s : ArbiterState a) → at arbiter w.arbiters ≡ Some s → s.table ≡ table_of w (arbiter_actor arbiter)

-- arbitrators of two numbers are two actors
pub two_arbiters : (m q : ℕ) → (m == q) ≡ false → (arbiter_actor m == arbiter_actor q) ≡ false
two_arbiters m q h = go (arbiter_actor m == arbiter_actor q) refl
  where
    go : (b : Bool) → (arbiter_actor m == arbiter_actor q) ≡ b → (arbiter_actor m == arbiter_actor q) ≡ false
    go false e = e
    go true e = absurd (eqb-false m q h (let same = eqb-true (arbiter_actor m) (arbiter_actor q) e in omega arith))

-- a configured arbitrator's actor is that of its number
pub actor_of_number : {a : Upper} (c : FabricConfig) (w : World a) (actor : ℕ) → may_start c w actor None ≡ true →
    arbiter_actor (arbiter_number actor) ≡ actor
actor_of_number c w actor h =
    let both = and_parts (nat_lt (arbiter_actor 0) actor && nat_le actor (arbiter_actor (length c.arbiters))) (not (arbiter_runs w actor)) h in
    let parts = and_parts (nat_lt (arbiter_actor 0) actor) (nat_le actor (arbiter_actor (length c.arbiters))) both.0 in
    let lt = ltb-true (arbiter_actor 0) actor parts.0 in
    let same : 32768 + (actor - 32768) ≡ actor = omega arith in same

module _ (a : Upper) (stays : StaysAbove a) (c : FabricConfig) (w : World a) (t : Tabled w) where
  pub node_tabled : (node reading : ℕ) (pairs : List Pair) (d : Did (NodeState a)) → ((z : Table) → table_after z d.records ≡ z) →
      Tabled (node_acted a w node reading pairs d).world
  node_tabled node reading pairs d none arbiter s h = t arbiter s h ∙ sym (table_stays w d.state.ring.me d.records d.sent none (arbiter_actor arbiter))

  rules_tabled : (arbiter : ℕ) (old : ArbiterState a) (d : Did (ArbiterState a)) → at arbiter w.arbiters ≡ Some old →
      Answered old.table d.state.table d.records d.told → Tabled (arbiter_acted a w arbiter d).world
  rules_tabled arbiter old d there n q s h =
      put_cases (λ (z : ArbiterState a). z.table ≡ table_of (arbiter_acted a w arbiter d).world (arbiter_actor q)) arbiter d.state w.arbiters q s h
      (λ same. subst (λ q. d.state.table ≡ table_of (arbiter_acted a w arbiter d).world (arbiter_actor q)) same here)
      (λ apart g. t q s g ∙ sym (ap (table_after no_table) (kept_there w (arbiter_who arbiter) d.records d.sent (arbiter_actor q) (two_arbiters arbiter q apart))))
    where
      here : d.state.table ≡ table_of (arbiter_acted a w arbiter d).world (arbiter_actor arbiter)
      here =
          n.table
          ∙ (ap (λ z. table_after z d.records) (t arbiter old there)
          ∙ sym (ap (table_after no_table) (kept_here w (arbiter_who arbiter) d.records d.sent) ∙ table_append no_table (kept_of w (arbiter_actor arbiter)) d.records))

  begun_tabled : (actor : ℕ) → arbiter_actor (arbiter_number actor) ≡ actor →
      (q : ℕ) (s : ArbiterState a) → at q (put (arbiter_number actor) (arbiter_begun a c (arbiter_number actor) (kept_of w actor)) w.arbiters) ≡ Some s →
      s.table ≡ table_of w (arbiter_actor q)
  begun_tabled actor is q s h =
      put_cases (λ (z : ArbiterState a). z.table ≡ table_of w (arbiter_actor q)) (arbiter_number actor)
      (arbiter_begun a c (arbiter_number actor) (kept_of w actor)) w.arbiters q s h
      (λ same.
      ap (λ (z : ArbiterState a). z.table) (arbiter_begun-is a c (arbiter_number actor) (kept_of w actor))
      ∙ ap (table_of w) (sym is ∙ ap arbiter_actor same))
      (λ apart g. t q s g)

  pub tabled_cases : (is_frame : List ℕ → Bool) (e : Event) → MayCome is_frame c w e → Cases a c w e (λ st. Tabled st.world)
  tabled_cases is_frame e may = record {
    still = t;
    begins = λ node reading h. node_tabled node reading ((w.time, reading) ∷ []) (node_begun a c node (kept_of w node)) (λ z. begun_accuses a c node (kept_of w node) z);
    stops = λ node s h. t;
    ticks = λ advance readings h. t;
    acts = λ node i s there came.
        node_tabled node s.reading s.pairs (node_step a c s.reading i s.node)
        (λ z. no_entries z (node_step a c s.reading i s.node).records (node_acted-told a stays c s.reading i s.node).apart);
    table_begins = λ actor h.
        begun_tabled actor (actor_of_number c w actor (sym (is_there-start is_frame c w actor None) ∙ subst (λ e. is_there is_frame c w e ≡ true) h may.there));
    table_stops = λ arbiter s h q r g. let still = without_cases arbiter w.arbiters q r g in t q r still.1;
    rules = λ arbiter f s h m to. rules_tabled arbiter s (arbiter_step a c arbiter f s) h (arbiter_stepped a stays c arbiter f s);
  }

pub tabled : (a : Upper) → StaysAbove a → (is_frame : List ℕ → Bool) (c : FabricConfig) (h : History) → Valid a is_frame c h →
    Tabled (world_after a c h)
tabled a stays is_frame c [] valid = λ arbiter s there. absurd (cc (there))
tabled a stays is_frame c (e ∷ h) valid =
    by_cases a c (world_after a c h) e.1 (λ st. Tabled st.world)
    (tabled_cases a stays c (world_after a c h) (tabled a stays is_frame c h valid.0) is_frame e.1 valid.1) e.1 refl

pub table_is_kept_lem : (a : Upper) → StaysAbove a → TableIsKept a
table_is_kept_lem a stays is_frame c h valid = tabled a stays is_frame c h valid
