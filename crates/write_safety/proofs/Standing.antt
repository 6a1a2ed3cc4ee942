-- Who reports a commit runs and has not left, so its replica has the log that its records amount to.
use Rattle.std.proofs.Common.{◌≡◌, ℕ, Bool, true, false, cond, not, ◌&&◌, List, [], ◌∷◌, length, Some, refl, sym, ap, ◌∙◌, subst}
use Rattle.std.specs.Prelude.{Contains}
use Rattle.std.specs.List.{list_any}
use Rattle.std.proofs.lemmas.Bool.{and_parts, eq-eqb, not-true}
use Rattle.fabric_lemmas.specs.Maps.{at}
use Rattle.fabric_lemmas.proofs.Maps.{at-put}
use Rattle.fabric_terms.specs.declared.config.FabricConfig.{FabricConfig}
use Rattle.fabric_terms.specs.declared.event.Event.{Event}
use Rattle.fabric_terms.specs.declared.record.Record.{Record}
use Rattle.fabric_terms.specs.declared.report.Report.{Report}
use Rattle.fabric_terms.specs.declared.report.Report.TheVariants.{Committed, Own, Stopped}
use Rattle.fabric_terms.specs.Sound.{IsSound}
use Rattle.join_phases.specs.Phases.{is_left}
use Rattle.replica_core.specs.Replicas.{Replica}
use Rattle.ring_points.specs.declared.unit.Epoch.{Epoch}
use Rattle.ring_points.specs.declared.who.Who.{Who}
use Rattle.ring_points.specs.Whos.{node_instance}
use Rattle.ring_rules.specs.declared.input.Input.{Input}
use Rattle.ring_rules.specs.Slots.{fence_of}
use Rattle.ring_rules.specs.Rings.{Work, settings_of}
use Rattle.ring_rules.specs.Starts.{node_started}
use Rattle.ring_rules.specs.Steps.{ring_step}
use Rattle.run_facts.specs.RingApart.{is_unit_report}
use Rattle.run_facts.proofs.ApartSaying.{none_more}
use Rattle.run_facts.proofs.ApartSteps.{starts_apart_lem}
use Rattle.unit_rules.specs.Stays.{units_stay}
use Rattle.unit_rules.specs.Units.{units}
use Rattle.world_rules.specs.Arbiters.{arbiter_step}
use Rattle.world_rules.specs.Nodes.{NodeState, above_if, begun_as, both_did, comes_above, instance_begun, is_spent, node_begun, node_step}
use Rattle.world_rules.specs.Runs.{History, run_of, world_after}
use Rattle.world_rules.specs.Schedules.{Valid}
use Rattle.world_rules.specs.Uppers.{Did}
use Rattle.world_rules.specs.Worlds.{World, Running, Stepped, kept_of, node_acted}
use Rattle.world_rules.proofs.Rows.{node_begun-is, node_step-is}
use Rattle.run_facts.proofs.Happens.{Cases, by_cases}
use Rattle.run_facts.proofs.Orderly.{orderly}
use Rattle.replica_records.specs.ReplicaStates.{state_at}
use Rattle.epoch_refinement.specs.Nodes.{Machines}
use Rattle.run_promises.specs.Reports.{IsAmong, HasReported, log_after}
use Rattle.epoch_safety.proofs.ActFollows.{Numbered, actor, commit_above}
use Rattle.epoch_safety.proofs.Entries.{no_commit}
use Rattle.epoch_safety.proofs.Followed.{followed}
use Rattle.epoch_safety.proofs.Follows.{Follows}
use Rattle.epoch_safety.proofs.Members.{contained}
use Rattle.epoch_safety.proofs.RuleFollows.{rules_follow}
use Rattle.epoch_safety.proofs.Telling.{Tellings, told_of}
use Rattle.write_safety.specs.Beside.{log_of_running}
use Rattle.write_safety.specs.Laws.{LogsStandBeside}

none_among : (rs : List Report) → list_any is_unit_report rs ≡ false → (p : ℕ) (e : Epoch) (last : ℕ) → Contains rs (Committed p e last) → ⊥
none_among rs h p e last a = no_commit rs p e last h (contained (Committed p e last) rs a)

-- it runs in the world, and has not left
record StandsIn (w : World units) (x : Who) : Type 0 where
  state : Running units
  runs : at x.actor w.nodes ≡ Some state
  stays : is_left state.node.ring.phase ≡ false

abbrev Stand : Stepped units → Type 0
Stand st = (x : Who) (p : ℕ) (e : Epoch) (last : ℕ) → IsAmong st.entry x (Committed p e last) → StandsIn st.world x

module _ (c : FabricConfig) (w : World units) (t : Tellings) (m : Machines) (n : Numbered w) (f : Follows (length c.arbiters) w t m) where
  module _ (node reading : ℕ) where
    abbrev records : List Record
    records = kept_of w node

    abbrev me : Who
    me = node_instance node (instance_begun records)

    abbrev ring : Work
    ring = node_started c me (is_spent records)

    abbrev begun : Did (NodeState units)
    begun = begun_as units c me records ring

    apart : list_any is_unit_report begun.told ≡ false
    apart =
        none_more is_unit_report ring.told (Own ring.ring.token.ranges (fence_of c.answer ring.ring.slots)) (starts_apart_lem c me (is_spent records)).tells refl

    abbrev Begun : Did (NodeState units) → Type 0
    Begun d = Stand (node_acted units w node reading ((w.time, reading) ∷ []) d)

    begins : Begun (node_begun units c node records)
    begins = subst Begun (sym (node_begun-is units c node records)) (λ x p e last a. absurd (none_among begun.told apart p e last a.1))

  module _ (node : ℕ) (i : Input) (s : Running units) (there : at node w.nodes ≡ Some s) where
    abbrev new : Work
    new = ring_step (settings_of c s.node.ring.me.actor) s.reading i s.node.ring

    abbrev Acts : Did (NodeState units) → Type 0
    Acts d = Stand (node_acted units w node s.reading s.pairs d)

    -- who acts is the node of this number, and stands there from then on
    here : (d : Did (NodeState units)) → d.state.ring.me.actor ≡ node → is_left d.state.ring.phase ≡ false → (x : Who) → d.state.ring.me ≡ x →
        StandsIn (node_acted units w node s.reading s.pairs d).world x
    here d is stay x name =
        let same : x.actor ≡ node = ap (λ (z : Who). z.actor) (sym name) ∙ is in
        let now : Running units = record { node = d.state; reading = s.reading; pairs = s.pairs } in record {
          state = now;
          runs = at-put node now w.nodes x.actor ∙ ap (λ b. cond b (Some now) (at x.actor w.nodes)) (eq-eqb node x.actor (sym same));
          stays = stay;
        }

    acts : Acts (node_step units c s.reading i s.node)
    acts = subst Acts (sym (node_step-is units c s.reading i s.node))
        (go (not (is_left new.ring.phase) && comes_above (settings_of c s.node.ring.me.actor) s.node.ring i) refl)
      where
        go : (b : Bool) → (not (is_left new.ring.phase) && comes_above (settings_of c s.node.ring.me.actor) s.node.ring i) ≡ b →
            Acts (both_did units c s.node.ring new (above_if units c s.reading new.ring s.node.above i b))
        go false h = λ x p e last a. absurd (commit_above c w t m n f node i s there [] p e last a.1)
        go true h = λ x p e last a.
            let both = and_parts (not (is_left new.ring.phase)) (comes_above (settings_of c s.node.ring.me.actor) s.node.ring i) h in
            here (both_did units c s.node.ring new (above_if units c s.reading new.ring s.node.above i true)) (actor c w t m n f node i s there)
            (not-true (is_left new.ring.phase) both.0) x a.0

  stand_cases : (e : Event) → Cases units c w e Stand
  stand_cases e = record {
    still = λ x p ep last a. absurd a;
    begins = λ node reading h. begins node reading;
    stops = λ node s there x p ep last a. absurd (none_among (Stopped ∷ []) refl p ep last a.1);
    ticks = λ advance readings h x p ep last a. absurd a;
    acts = λ node i s there came. acts node i s there;
    table_begins = λ actor h x p ep last a. absurd (none_among [] refl p ep last a.1);
    table_stops = λ arbiter s there x p ep last a. absurd (none_among (Stopped ∷ []) refl p ep last a.1);
    rules = λ arbiter g s there came to x p ep last a.
        let r = rules_follow c (length c.arbiters) w t m f arbiter g s there came in
        absurd
        (none_among (arbiter_step units c arbiter g s).told (subst (λ (rs : List Report). list_any is_unit_report rs ≡ false) (sym r.rule.silent) refl) p ep last a.1);
  }

-- who reports a commit in the last event of a valid run
stands_after : (is_frame : List ℕ → Bool) (c : FabricConfig) (h : History) → IsSound c → Valid units is_frame c h → (x : Who) (p : ℕ) (e : Epoch) (last : ℕ) →
    HasReported (run_of units c h) x (Committed p e last) → StandsIn (world_after units c h) x
stands_after is_frame c [] sound valid x p e last a = absurd a
stands_after is_frame c (now ∷ h) sound valid x p e last a =
    let before = followed is_frame c sound h valid.0 in
    let o = orderly units c units_stay h in
    let numbered : Numbered (world_after units c h) = record { name = o.name; counted = o.counted } in
    by_cases units c (world_after units c h) now.1 Stand (stand_cases c (world_after units c h) (told_of c h) before.machines numbered before.follows now.1) now.1 refl x p e last a

-- the log of a running node that has not left is what its records amount to
pub log_stands : (is_frame : List ℕ → Bool) (c : FabricConfig) (h : History) → IsSound c → Valid units is_frame c h → (node p : ℕ) (s : Running units) →
    at node (world_after units c h).nodes ≡ Some s → is_left s.node.ring.phase ≡ false → log_after c h node p ≡ (state_at p s.node.above).replica.log
log_stands is_frame c h sound valid node p s there stay =
    let at_now = followed is_frame c sound h valid in
    ap (λ (r : Replica). r.log) ((at_now.follows.acts node s there stay).kept p)

pub logs_beside_lem : LogsStandBeside
logs_beside_lem is_frame c h sound valid x p e last a =
    let st = stands_after is_frame c h sound valid x p e last a in
    log_stands is_frame c h sound valid x.actor p st.state st.runs st.stays ∙ ap (log_of_running p) (sym st.runs)
