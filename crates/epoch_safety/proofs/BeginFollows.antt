-- The machines follow the start of a node.
use Rattle.std.proofs.Common.{◌≡◌, ℕ, ◌+◌, ◌<◌, ◌≤◌, Bool, true, false, cond, List, [], ◌∷◌, ◌++◌, refl, sym, ap, ◌∙◌, subst, arith}
use Rattle.std.specs.List.{list_any}
use Rattle.std.proofs.lemmas.Bool.{both_ways}
use Rattle.std.proofs.lemmas.List.{append-nil}
use Rattle.fabric_terms.specs.declared.config.FabricConfig.{FabricConfig}
use Rattle.fabric_terms.specs.declared.record.Record.{Record}
use Rattle.fabric_terms.specs.declared.record.Record.TheVariants.{Boot}
use Rattle.fabric_terms.specs.declared.report.Report.TheVariants.{Own}
use Rattle.join_phases.specs.Phases.{is_left}
use Rattle.ring_points.specs.declared.who.Who.{Who}
use Rattle.ring_points.specs.Whos.{node_instance, same_who}
use Rattle.ring_rules.specs.Rings.{Work}
use Rattle.ring_rules.specs.Slots.{fence_of}
use Rattle.ring_rules.specs.Starts.{node_started, start_first}
use Rattle.unit_rules.specs.Deeds.{still}
use Rattle.unit_rules.specs.Starts.{replica_of, replicas_after_all}
use Rattle.unit_rules.specs.Steps.{failover_begun}
use Rattle.unit_rules.specs.Units.{units}
use Rattle.world_rules.specs.Nodes.{NodeState, begun_as, boot_kept, boots_of, instance_begun, is_spent}
use Rattle.world_rules.specs.Uppers.{Did}
use Rattle.world_rules.specs.Worlds.{World, kept_of}
use Rattle.run_facts.proofs.Kept.{boots_append}
use Rattle.replica_records.specs.ReplicaStates.{state_at, begun_again}
use Rattle.epoch_refinement.specs.Epochs.{settings_to}
use Rattle.epoch_refinement.specs.Nodes.{Machines}
use Rattle.epoch_refinement.specs.Refined.{Refined}
use Rattle.epoch_refinement.specs.ReplicaStates.{ShowsReplicaState}
use Rattle.epoch_refinement.proofs.Elsewhere.{manager_elsewhere}
use Rattle.epoch_refinement.proofs.Rows.{restarts_are_deeds_lem}
use Rattle.replica_records.specs.Kept.{AreKept}
use Rattle.replica_records.proofs.Starting.{go_on_lem, starts_kept_lem, starts_rise_lem}
use Rattle.run_facts.specs.RingApart.{is_unit_report}
use Rattle.run_facts.proofs.ApartSaying.{none_more}
use Rattle.run_facts.proofs.ApartSteps.{starts_apart_lem}
use Rattle.epoch_safety.proofs.Follows.{Follows, no_units}
use Rattle.epoch_safety.proofs.NodeFollows.{Follow}
use Rattle.epoch_safety.proofs.Telling.{Tellings, tells_on, tells_none}
use Rattle.world_rules.specs.Starts.{start_in, started_in, node_begun_in}
use Rattle.world_rules.proofs.Starts.{started_in-is, node_begun_in-is}
use Rattle.run_facts.proofs.Starts.{started_in_as}

-- where all numbers are used up it has left
spent_left : (whole : Who) (c : FabricConfig) (me : Who) → is_left (started_in whole c me true).ring.phase ≡ true
unfolding started_in node_started
spent_left whole c me = refl

-- a start tells nothing of partitions, whoever begins with the whole ring
started_apart : (whole : Who) (c : FabricConfig) (me : Who) (spent : Bool) → list_any is_unit_report (started_in whole c me spent).told ≡ false
started_apart whole c me spent = ap (λ (u : Work). list_any is_unit_report u.told) (started_in-is whole c me spent) ∙ go spent
  where
    one : (b : Bool) → list_any is_unit_report (start_first c me b).told ≡ false
    one true = refl
    one false = refl

    go : (spent : Bool) → list_any is_unit_report (start_in whole c me spent).told ≡ false
    go true = (starts_apart_lem c me true).tells
    go false = one (same_who me whole)

-- what it records, by whether all numbers are used up

boot_now : (records : List Record) (b : Bool) → is_spent records ≡ b → boot_kept records ≡ cond b [] (Boot (instance_begun records) ∷ [])
boot_now records b h = ap (λ s. cond s [] (Boot (instance_begun records) ∷ [])) h

number_now : (records : List Record) (b : Bool) → is_spent records ≡ b → instance_begun records ≡ cond b (boots_of records) (boots_of records + 1)
number_now records b h = ap (λ s. cond s (boots_of records) (boots_of records + 1)) h

pub begun_in_apart : (whole : Who) (c : FabricConfig) (node : ℕ) (records : List Record) →
    list_any is_unit_report (node_begun_in units whole c node records).told ≡ false
begun_in_apart whole c node records =
    let me : Who = node_instance node (instance_begun records) in
    let ring : Work = started_in whole c me (is_spent records) in
    ap (λ (d : Did (NodeState units)). list_any is_unit_report d.told) (node_begun_in-is units whole c node records)
    ∙ none_more is_unit_report ring.told (Own ring.ring.token.ranges (fence_of c.answer ring.ring.slots)) (started_apart whole c me (is_spent records)) refl

module _ (whole : Who) (c : FabricConfig) (w : World units) (t : Tellings) (m : Machines) (k : ℕ) (f : Follows k w t m) (node : ℕ) (low : node < 32768) where
  abbrev records : List Record
  records = kept_of w node

  abbrev me : Who
  me = node_instance node (instance_begun records)

  abbrev ring : Work
  ring = started_in whole c me (is_spent records)

  abbrev d : Did (NodeState units)
  d = begun_as units c me records ring

  named : ring.ring.me ≡ me
  named = (started_in_as whole c me (is_spent records)).0

  -- it tells nothing of partitions
  pub start_apart : list_any is_unit_report d.told ≡ false
  start_apart =
      none_more is_unit_report ring.told (Own ring.ring.token.ranges (fence_of c.answer ring.ring.slots)) (started_apart whole c me (is_spent records)) refl

  quiet : (p : ℕ) → (m p).told ≡ tells_on p node (replica_of p (replicas_after_all [] (records ++ d.records))).log d.told (m p).told
  quiet p = sym (tells_none p node _ d.told (m p).told start_apart)

  counted : (b : Bool) → is_spent records ≡ b → instance_begun records ≤ boots_of (records ++ boot_kept records)
  counted b h = go b (boot_now records b h) (number_now records b h)
    where
      go : (b : Bool) → boot_kept records ≡ cond b [] (Boot (instance_begun records) ∷ []) →
          instance_begun records ≡ cond b (boots_of records) (boots_of records + 1) → instance_begun records ≤ boots_of (records ++ boot_kept records)
      go true e g = let sum = boots_append records (boot_kept records) in omega arith
      go false e g =
          let sum = boots_append records (boot_kept records) in let one : boots_of (boot_kept records) ≡ 1 = ap boots_of e in omega arith

  -- all numbers of instances are used up: it has left, and nothing happens
  pub spent_follows : is_spent records ≡ true → Follow k w m m me node (f.last node) d
  spent_follows h = record {
    name = named;
    actor = refl;
    low = low;
    counted = counted true h;
    inv = f.inv;
    keeps = λ p g e. e;
    others = λ p q e. record { promised = refl; joined = refl; log = refl; collected = refl; role = refl };
    registers = λ p a. record { prepared = refl; preparer = refl; done = refl };
    managers = λ p y u e shows. shows;
    states = λ p. f.states node p;
    begins = λ p.
        subst (λ (r : List Record). state_at p (failover_begun r) ≡ begun_again (state_at p (f.last node))) (sym none) (f.begins node p low);
    here = λ stay. absurd (both_ways (is_left ring.ring.phase) stay left);
    acts = λ stay. absurd (both_ways (is_left ring.ring.phase) stay left);
    sent = λ z e. absurd e;
    told = quiet;
  }
    where
      none : records ++ boot_kept records ≡ records
      none = ap (λ more. records ++ more) (boot_now records true h) ∙ append-nil records

      left : is_left ring.ring.phase ≡ true
      left = ap (λ b. is_left (started_in whole c me b).ring.phase) h ∙ spent_left whole c me

  -- else its replicas begin again

  pub restart : (p : ℕ) → Refined (settings_to k) (m p) p me (still (begun_again (state_at p (f.last node))))
  restart p = restarts_are_deeds_lem (settings_to k) (m p) p me (state_at p (f.last node)) (f.inv p) (f.states node p)

  abbrev pub restarted : Machines
  restarted p = (restart p).after

  pub new_follows : is_spent records ≡ false → Follow k w m restarted me node (failover_begun records) d
  new_follows h = record {
    name = named;
    actor = refl;
    low = low;
    counted = counted false h;
    inv = λ p. (restart p).inv;
    keeps = λ p. (restart p).later.keeps;
    others = λ p q e. (restart p).later.beside.states q (λ i. e cc);
    registers = λ p a. (restart p).later.beside.registers a (λ i. cc (i));
    managers = λ p y u e shows. manager_elsewhere (restart p).later k p y u (λ i. cc (i)) shows;
    states = λ p. subst (ShowsReplicaState (restarted p) p node) (sym (f.begins node p low)) (restart p).shows;
    begins = λ p. go_on_lem (records ++ boot_kept records) (failover_begun records) kept p;
    here = λ stay. refl;
    acts = λ stay. record {
      managers = λ p.
          manager_elsewhere (restart p).later k p me no_units (λ i. cc (i)) (f.fresh me p (let e = number_now records false h in omega arith));
      states_rise = starts_rise_lem records;
      reconfigs_rise = refl;
      kept = kept;
    };
    sent = λ z e. absurd e;
    told = λ p. (restart p).told ∙ quiet p;
  }
    where
      kept : AreKept (records ++ boot_kept records) (failover_begun records)
      kept =
          subst (λ (r : List Record). AreKept (records ++ r) (failover_begun records)) (sym (boot_now records false h))
          (starts_kept_lem records (instance_begun records))
