-- A node that is asked about names answers by the entries that it is ready to answer by.
use Rattle.std.proofs.Common.{◌≡◌, ℕ, Bool, true, false, not, ◌&&◌, List, [], ◌∷◌, ◌++◌, take, Option, None, Some, Result, Ok, Err, refl, sym, ap, ◌∙◌, subst, inl, inr, ⊎_elim}
use Rattle.std.specs.Prelude.{Contains, unwrap_or}
use Rattle.std.specs.List.{list_any}
use Rattle.std.proofs.lemmas.Bool.{and_parts, not-true, or_parts}
use Rattle.fabric_lemmas.specs.Maps.{at}
use Rattle.fabric_lemmas.specs.Members.{IsMember}
use Rattle.fabric_terms.specs.declared.command.Command.TheVariants as command
use Rattle.fabric_terms.specs.declared.config.FabricConfig.{FabricConfig}
use Rattle.fabric_terms.specs.declared.report.Reason.{Reason}
use Rattle.fabric_terms.specs.declared.report.Reason.TheVariants as reason
use Rattle.fabric_terms.specs.declared.report.Report.{Report}
use Rattle.fabric_terms.specs.declared.report.Report.TheVariants as report
use Rattle.fabric_terms.specs.declared.report.Verb.{Verb}
use Rattle.fabric_terms.specs.declared.report.Verb.TheVariants as verb
use Rattle.fabric_terms.specs.Places.{tells_leave}
use Rattle.join_phases.specs.Phases.{is_left}
use Rattle.ring_points.specs.declared.who.Who.{Who}
use Rattle.ring_rules.specs.declared.input.Input.{Input}
use Rattle.ring_rules.specs.declared.input.Input.TheVariants as input
use Rattle.ring_rules.specs.Owns.{own_after}
use Rattle.ring_rules.specs.Rings.{Ring, Settings, Work, settings_of}
use Rattle.ring_rules.specs.Steps.{ring_step}
use Rattle.name_rules.specs.Names.{NameMap, names_of}
use Rattle.unit_rules.specs.Answers.{answered, listing, names_commanded, ready, resolution, resolve_commanded}
use Rattle.unit_rules.specs.Deeds.{Acted, Tell, refuse, reports_of, unless}
use Rattle.unit_rules.specs.Progress.{progress_of}
use Rattle.unit_rules.specs.Loads.{Site, site_of}
use Rattle.unit_rules.specs.ReplicaStates.{ReplicaState, first_state}
use Rattle.unit_rules.specs.Steps.{Failover, at_found, at_standing, failover_step}
use Rattle.unit_rules.specs.Units.{units}
use Rattle.world_rules.specs.Above.{is_ring_report}
use Rattle.world_rules.specs.Events.{acts_at, node_acts, world_step}
use Rattle.world_rules.specs.Nodes.{above_if, comes_above}
use Rattle.world_rules.specs.Worlds.{World, Running}
use Rattle.world_rules.proofs.Rows.{node_step-is}
use Rattle.run_facts.proofs.Steps.{Stepped, ring_stepped}
use Rattle.replica_records.specs.ReplicaStates.{state_at}
use Rattle.run_facts.specs.RingApart.{is_unit_report}
use Rattle.run_facts.proofs.ApartSteps.{steps_apart_lem}
use Rattle.epoch_safety.specs.Answers.{AnswersAreByEntries, named_at}
use Rattle.run_promises.specs.Answers.{AnsweredBy}
use Rattle.run_promises.specs.Questions.{tells_names}
use Rattle.run_promises.specs.Reports.{IsAmong}
use Rattle.epoch_safety.proofs.ActFollows.{own_apart}
use Rattle.epoch_safety.proofs.Members.{contained}
use Rattle.epoch_safety.proofs.Sending.{append_cases, none_passes}

-- the ring tells no answer
told_above : (r : Report) → tells_names r ≡ true → is_unit_report r ≡ true
told_above (report.Resolved p name value) h = refl
told_above (report.Unresolved p name) h = refl
told_above (report.NameList p names) h = refl
told_above r h = absurd (cc (h))

pub apart : (r : Report) → tells_names r ≡ true → (rs : List Report) → list_any is_unit_report rs ≡ false → IsMember r rs → ⊥
apart r h rs none m =
    let yes : is_unit_report r ≡ true = told_above r h in
    let no : is_unit_report r ≡ false = none_passes is_unit_report rs r none m in
    cc (yes, no)

-- so what a node tells of names is told above its ring
pub from_above : (r : Report) → tells_names r ≡ true → (set : Settings) (now : ℕ) (i : Input) (old : Ring) (rs : List Report) →
    IsMember r ((ring_step set now i old).told ++ rs ++ own_after set old (ring_step set now i old).ring) → IsMember r rs
from_above r h set now i old rs m =
    let new : Work = ring_step set now i old in
    let own : List Report = own_after set old new.ring in
    ⊎_elim
    (λ a. ⊎_elim (λ b. absurd (apart r h new.told (steps_apart_lem set now i old).tells b)) (λ b. b) (append_cases r new.told rs a))
    (λ a. absurd (apart r h own (own_apart set old new.ring) a)) (append_cases r (new.told ++ rs) own m)

-- what one deed tells
one_told : (r z : Report) → IsMember r (reports_of (Tell z ∷ [])) → r ≡ z
one_told r z m = by (is_ring_report z) m
  where
    by : (b : Bool) → IsMember r (unless b z []) → r ≡ z
    by true n = absurd n
    by false (inl e) = e
    by false (inr n) = absurd n

not_refused : (r : Report) → tells_names r ≡ true → (question : Verb) (why : Reason) → IsMember r (reports_of (Tell (report.Refused question why) ∷ [])) → ⊥
not_refused r h question why m =
    let same : tells_names r ≡ false = ap tells_names (one_told r (report.Refused question why) m) in
    cc (h, same)

-- a question at a replica
abbrev asked : Verb → (ℕ → NameMap → Report) → ReplicaState → Acted ReplicaState
asked question answer s = answered question (answer s.replica.partition) s (ready (progress_of s))

-- the same at a node
abbrev asked_at : ℕ → Verb → (ℕ → NameMap → Report) → Failover → Acted Failover
asked_at partition question answer u = at_standing partition (asked question answer) (refuse question reason.NotPrimary u) u

module _ (r : Report) (told : tells_names r ≡ true) (partition : ℕ) (question : Verb) (answer : ℕ → NameMap → Report) where
  record From (s : ReplicaState) : Type 0 where
    pub count : ℕ
    pub is_ready : ready (progress_of s) ≡ Ok count
    pub is : r ≡ answer s.replica.partition (names_of (take count s.replica.log))

  from_state : (s : ReplicaState) → IsMember r (reports_of (asked question answer s).deeds) → From s
  from_state s m = by (ready (progress_of s)) refl m
    where
      by : (o : Result ℕ Reason) → ready (progress_of s) ≡ o → IsMember r (reports_of (answered question (answer s.replica.partition) s o).deeds) → From s
      by (Err why) is n = absurd (not_refused r told question why n)
      by (Ok count) is n =
          record { count = count; is_ready = is; is = one_told r (answer s.replica.partition (names_of (take count s.replica.log))) n }

  from_node : (u : Failover) → IsMember r (reports_of (asked_at partition question answer u).deeds) → From (state_at partition u)
  from_node u m = by (at partition u.states) refl m
    where
      by : (o : Option ReplicaState) → at partition u.states ≡ o →
          IsMember r (reports_of (at_found partition (asked question answer) (refuse question reason.NotPrimary u) u o).deeds) → From (state_at partition u)
      by None is n = absurd (not_refused r told question reason.NotPrimary n)
      by (Some s) is n = subst From (sym (ap (λ (o : Option ReplicaState). unwrap_or o (first_state partition)) is)) (from_state s n)

  module _ (c : FabricConfig) (w : World units) (node : ℕ) (x : Who) (i : Input) (row : (site : Site) (now : ℕ) (ring : Ring) (u : Failover) →
      failover_step site now ring u i ≡ asked_at partition question answer u) where
    abbrev Answered : Type 0
    Answered = AnsweredBy w node partition (answer (named_at partition (at node w.nodes))) r

    by_running : (s : Running units) → at node w.nodes ≡ Some s → IsAmong (node_acts units c w node i s).entry x r → Answered
    by_running s there a =
        go (not (is_left new.ring.phase) && comes_above set s.node.ring i) refl
        (contained r _ (subst (λ (rs : List Report). Contains rs r) (ap (λ d. d.told) (node_step-is units c s.reading i s.node)) a.1))
      where
        set : Settings
        set = settings_of c s.node.ring.me.actor

        new : Work
        new = ring_step set s.reading i s.node.ring

        own : List Report
        own = own_after set s.node.ring new.ring

        stayed : is_left new.ring.phase ≡ false → is_left s.node.ring.phase ≡ false
        stayed stay =
            let stepped : Stepped s.node.ring new = ring_stepped set s.reading i s.node.ring in
            (or_parts (list_any tells_leave new.told) (is_left s.node.ring.phase) (stepped.leaves ∙ stay)).1

        go : (b : Bool) → (not (is_left new.ring.phase) && comes_above set s.node.ring i) ≡ b →
            IsMember r (new.told ++ (above_if units c s.reading new.ring s.node.above i b).told ++ own) → Answered
        go false is m = absurd (from_above r told set s.reading i s.node.ring [] m)
        go true is m =
            let stay : is_left new.ring.phase ≡ false = not-true (is_left new.ring.phase) (and_parts (not (is_left new.ring.phase)) (comes_above set s.node.ring i) is).0 in
            let from : From (state_at partition s.node.above) =
            from_node s.node.above
            (subst (λ (a : Acted Failover). IsMember r (reports_of a.deeds)) (row (site_of c new.ring.me.actor) s.reading new.ring s.node.above)
            (from_above r told set s.reading i s.node.ring (reports_of (failover_step (site_of c new.ring.me.actor) s.reading new.ring s.node.above i).deeds) m)) in
            let names : NameMap = names_of (take from.count (state_at partition s.node.above).replica.log) in
            record {
              running = s;
              there = there;
              is = record {
                stays = stayed stay;
                count = from.count;
                is_ready = from.is_ready;
                told = subst (λ (o : Option (Running units)). r ≡ answer (named_at partition o) names) (sym there) from.is;
              };
            }

    by_node : (o : Option (Running units)) → at node w.nodes ≡ o → IsAmong (acts_at units c w node i o).entry x r → Answered
    by_node None there a = absurd a
    by_node (Some s) there a = by_running s there a

pub answers_by_entries_lem : AnswersAreByEntries
unfolding world_step failover_step resolve_commanded names_commanded
answers_by_entries_lem c w node partition x r told = (
  λ name a.
      by_node r told partition verb.Resolve (λ p. resolution p name) c w node x (input.Do (command.Resolve partition name)) (λ site now ring u. refl)
      (at node w.nodes) refl a,
  λ range a.
      by_node r told partition verb.Names (λ p. listing p range) c w node x (input.Do (command.Names partition range)) (λ site now ring u. refl)
      (at node w.nodes) refl a,
)
