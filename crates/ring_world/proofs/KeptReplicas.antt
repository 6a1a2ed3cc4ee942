-- What a node records of its replicas is what its next start begins with: after a step, after a start, and at a stop.
use Rattle.std.proofs.Common.{◌≡◌, ℕ, suc, Bool, true, false, cond, not, ◌&&◌, List, [], ◌∷◌, ◌++◌, refl, sym, ap, subst, ◌∙◌, arith}
use Rattle.std.specs.Prelude.{◌==◌, length}
use Rattle.std.proofs.lemmas.Bool.Decides.{nat_tests}
use Rattle.std.proofs.lemmas.List.{append-nil}
use Rattle.fabric_terms.specs.declared.config.FabricConfig.{FabricConfig}
use Rattle.fabric_terms.specs.declared.record.Record.{Record}
use Rattle.fabric_terms.specs.declared.record.Record.TheVariants.{Boot}
use Rattle.join_phases.specs.Phases.{is_left}
use Rattle.ring_points.specs.Epochs.{same_epoch}
use Rattle.ring_points.specs.Whos.{node_instance}
use Rattle.ring_points.specs.declared.who.Who.{Who}
use Rattle.ring_rules.specs.declared.input.Input.{Input}
use Rattle.ring_rules.specs.declared.input.Input.TheVariants as input
use Rattle.ring_rules.specs.Rings.{Ring, Work, settings_of}
use Rattle.ring_rules.specs.Starts.{begun, node_started}
use Rattle.ring_rules.specs.Steps.{ring_step, step_if}
use Rattle.ring_rules.proofs.Rows.{ring_step-is}
use Rattle.replica_core.specs.declared.entry.Entry.{Entry}
use Rattle.replica_core.specs.Calls.{is_empty}
use Rattle.replica_core.specs.Replicas.{Replica, first_epoch}
use Rattle.world_rules.specs.Nodes.{NodeState, above_acts, above_if, boots_of, both_did, comes_above, instance_begun, is_spent, node_begun, node_step}
use Rattle.world_rules.specs.Uppers.{Did, idle}
use Rattle.world_rules.proofs.Rows.{node_begun-is, node_step-is}
use Rattle.run_facts.proofs.Kept.{boots_append, no_boots}
use Rattle.run_facts.proofs.Steps.{begun_boots, node_acted-told, node_begun-told}
use Rattle.unit_rules.specs.Loads.{site_of}
use Rattle.unit_rules.specs.ReplicaStates.{ReplicaState}
use Rattle.unit_rules.specs.Starts.{states_begun}
use Rattle.unit_rules.specs.Steps.{Failover, failover_begun}
use Rattle.unit_replica.specs.Starts.{is_recorded, state_again, states_again}
use Rattle.unit_rules.specs.Fabric.{fabric, fabric_stays}
use Rattle.frames_fit.proofs.Steps.{spent_left}
use Rattle.replica_records.specs.Kept.{without_role}
use Rattle.replica_records.specs.Named.{FitsFrame, KeptAs, is_named, named, states_of}
use Rattle.replica_records.proofs.Begun.{begin_again_lem, nothing_lem, states_lem, starts_stay_lem}
use Rattle.replica_records.proofs.Exactly.{stay_lem}
use Rattle.node_core.specs.Nodes.{FitsInput, kept_in, nothing_kept}
use Rattle.node_core.specs.declared.kept.NodeKept.{NodeKept}
use Rattle.ring_world.specs.Stands.{IsKeptAs, IsKeptFor}

-- The replicas that records name are those with which the next instance begins.

empty_is : (es : List Entry) → is_empty es ≡ (length es == 0)
empty_is [] = refl
empty_is (e ∷ es) = let some : (suc (length es) == 0) ≡ false = grind (arith, nat_tests) in sym some

named_is : (r : Replica) → is_named (without_role r) ≡ is_recorded r
named_is r = ap (λ b. not (same_epoch r.promised first_epoch && b)) (empty_is r.log)

pub again_is : (states : List (ℕ × ReplicaState)) → states_of (named states) ≡ states_again states
again_is [] = refl
again_is (e ∷ es) =
    ap (λ b. states_of (cond b ((e.0, without_role e.1.replica) ∷ named es) (named es))) (named_is e.1.replica)
    ∙ by_test (is_recorded e.1.replica) (again_is es)
  where
    by_test : (b : Bool) → states_of (named es) ≡ states_again es → states_of (cond b ((e.0, without_role e.1.replica) ∷ named es) (named es)) ≡ cond b ((e.0, state_again e.1) ∷ states_again es) (states_again es)
    by_test true rest = ap (λ xs. (e.0, state_again e.1) ∷ xs) rest
    by_test false rest = rest

-- what stands is what the records amount to
states_are : (records : List Record) (s : Failover) → KeptAs records s → states_begun records ≡ states_again s.states
states_are records s k = (states_lem records s k).0 ∙ again_is s.states

pub fits_frame : (i : Input) → FitsInput i → FitsFrame i
fits_frame input.Fire h = tt
fits_frame (input.Frame m) h = h
fits_frame (input.Do d) h = tt

-- A step.

module _ (c : FabricConfig) (now : ℕ) (i : Input) (s : NodeState fabric) (records : List Record) (fits : FitsInput i) (k : IsKeptAs records s) where
  abbrev step : Did (NodeState fabric)
  step = node_step fabric c now i s

  abbrev work : Work
  work = ring_step (settings_of c s.ring.me.actor) now i s.ring

  boots : boots_of (records ++ step.records) ≡ step.state.ring.me.instance
  boots =
      let told = node_acted-told fabric fabric_stays c now i s in
      let sum = boots_append records step.records in
      let none : boots_of step.records ≡ 0 = no_boots step.records told.apart in
      let was = k.amounts.boots in
      let name : step.state.ring.me.instance ≡ s.ring.me.instance = ap (λ (x : Who). x.instance) told.name in
      omega arith

  kept_by : (d : Did (NodeState fabric)) → step ≡ d → (last : Failover) → KeptAs (records ++ d.records) last → (is_left d.state.ring.phase ≡ false → last ≡ d.state.above)
      → states_begun (records ++ d.records) ≡ states_again d.state.above.states → IsKeptAs (records ++ d.records) d.state
  kept_by d same last kept acts states = record {
    last = last;
    kept = kept;
    acts = acts;
    amounts = record { boots = subst (λ (x : Did (NodeState fabric)). boots_of (records ++ x.records) ≡ x.state.ring.me.instance) same boots; states = states };
  }

  -- where it has left, it does nothing

  left_is : is_left s.ring.phase ≡ true → step ≡ both_did fabric c s.ring (begun s.ring) (idle s.above)
  left_is left =
      let ring : work ≡ begun s.ring = ring_step-is (settings_of c s.ring.me.actor) now i s.ring ∙ ap (λ b. step_if (settings_of c s.ring.me.actor) now i (begun s.ring) b) left in
      node_step-is fabric c now i s
      ∙ (ap (λ (u : Work). both_did fabric c s.ring u (above_acts fabric c now i s u.ring)) ring
      ∙ ap (λ b. both_did fabric c s.ring (begun s.ring) (above_if fabric c now s.ring s.above i (not b && comes_above (settings_of c s.ring.me.actor) s.ring i))) left)

  left_kept : is_left s.ring.phase ≡ true → IsKeptAs (records ++ step.records) step.state
  left_kept left =
      let none : records ++ [] ≡ records = append-nil records in
      let d : Did (NodeState fabric) = both_did fabric c s.ring (begun s.ring) (idle s.above) in
      subst (λ (x : Did (NodeState fabric)). IsKeptAs (records ++ x.records) x.state) (sym (left_is left))
      (kept_by d (left_is left) k.last (subst (λ rs. KeptAs rs k.last) (sym none) k.kept) k.acts (ap states_begun none ∙ k.amounts.states))

  -- where it has not, all is kept of what it does

  above_kept : is_left s.ring.phase ≡ false → (new : Ring) (b : Bool) → let d = above_if fabric c now new s.above i b in KeptAs (records ++ d.records) d.state
  above_kept on new true =
      stay_lem (site_of c new.me.actor) now new s.above i records (fits_frame i fits) (subst (λ u. KeptAs records u) (k.acts on) k.kept)
  above_kept on new false = subst (λ rs. KeptAs rs s.above) (sym (append-nil records)) (subst (λ u. KeptAs records u) (k.acts on) k.kept)

  goes_kept : is_left s.ring.phase ≡ false → IsKeptAs (records ++ step.records) step.state
  goes_kept on =
      let d : Did (NodeState fabric) = both_did fabric c s.ring work (above_acts fabric c now i s work.ring) in
      let kept : KeptAs (records ++ d.records) d.state.above = above_kept on work.ring (not (is_left work.ring.phase) && comes_above (settings_of c s.ring.me.actor) s.ring i) in
      subst (λ (x : Did (NodeState fabric)). IsKeptAs (records ++ x.records) x.state) (sym (node_step-is fabric c now i s))
      (kept_by d (node_step-is fabric c now i s) d.state.above kept (λ e. refl) (states_are (records ++ d.records) d.state.above kept))

  pub step_kept : IsKeptAs (records ++ step.records) step.state
  step_kept = by_left (is_left s.ring.phase) refl
    where
      by_left : (b : Bool) → is_left s.ring.phase ≡ b → IsKeptAs (records ++ step.records) step.state
      by_left true left = left_kept left
      by_left false on = goes_kept on

-- A start.

module _ (c : FabricConfig) (node : ℕ) (records : List Record) (kept : NodeKept) (k : IsKeptFor records kept) where
  abbrev begins : Did (NodeState fabric)
  begins = node_begun fabric c node records

  abbrev me : Who
  me = node_instance node (instance_begun records)

  boots_begun : boots_of (records ++ begins.records) ≡ begins.state.ring.me.instance
  boots_begun =
      let sum = boots_append records begins.records in
      let count = begun_boots fabric c node records in
      let name : begins.state.ring.me.instance ≡ instance_begun records = ap (λ (x : Who). x.instance) (node_begun-told fabric c node records).name in
      omega arith

  begun_by : (b : Bool) → is_spent records ≡ b → let rs = records ++ cond b [] (Boot (instance_begun records) ∷ []) in
      let s : NodeState fabric = record { ring = (node_started c me b).ring; above = failover_begun records } in
      boots_of rs ≡ s.ring.me.instance → IsKeptAs rs s
  begun_by true spent boots = record {
    last = k.last;
    kept = subst (λ rs. KeptAs rs k.last) (sym (append-nil records)) k.kept;
    acts = λ on. let left = spent_left c me in absurd (cc (left, on));
    amounts = record {
      boots = boots;
      states = ap states_begun (append-nil records) ∙ (begin_again_lem records k.last k.kept ∙ again_is (failover_begun records).states);
    };
  }
  begun_by false goes boots =
      let next : KeptAs (records ++ Boot (instance_begun records) ∷ []) (failover_begun records) = starts_stay_lem records k.last (instance_begun records) k.kept in
      record {
        last = failover_begun records;
        kept = next;
        acts = λ on. refl;
        amounts = record { boots = boots; states = states_are (records ++ Boot (instance_begun records) ∷ []) (failover_begun records) next };
      }

  pub begun_kept : IsKeptAs (records ++ begins.records) begins.state
  begun_kept =
      subst (λ (x : Did (NodeState fabric)). IsKeptAs (records ++ x.records) x.state) (sym (node_begun-is fabric c node records))
      (begun_by (is_spent records) refl
      (subst (λ (x : Did (NodeState fabric)). boots_of (records ++ x.records) ≡ x.state.ring.me.instance) (node_begun-is fabric c node records) boots_begun))

-- A stop, and a node of which nothing is recorded.

pub ended_kept : (records : List Record) (s : NodeState fabric) → IsKeptAs records s → IsKeptFor records (kept_in s)
ended_kept records s k = record { last = k.last; kept = k.kept; amounts = k.amounts }

pub none_kept : IsKeptFor [] nothing_kept
none_kept = record { last = failover_begun []; kept = nothing_lem; amounts = record { boots = refl; states = refl } }
