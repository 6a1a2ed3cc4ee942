-- An answer at the place of its reconfiguration.
use Rattle.std.proofs.Common.{◌≡◌, ℕ, ◌<◌, ◌≤◌, true, List, Option, Some, IsTrue, length, set, get_or, sym, subst, ap, ◌∙◌, arith}
use Rattle.std.specs.Prelude.{is_some}
use Rattle.std.proofs.lemmas.List.{length-map, length-set}
use Rattle.fabric_lemmas.specs.Maps.{at, put, rises, without}
use Rattle.fabric_lemmas.proofs.Maps.{rises-put}
use Rattle.ring_points.specs.Limits.{most_partitions}
use Rattle.fabric_terms.specs.declared.message.Message.{Message}
use Rattle.failover_units.specs.Units.{Table, changed, noted, seen_at}
use Rattle.fabric_terms.specs.Messages.{is_sound_body}
use Rattle.ring_points.specs.declared.unit.Epoch.{Epoch}
use Rattle.replica_place.specs.declared.load.NodeLoad.{NodeLoad}
use Rattle.unit_rules.specs.declared.reconfig.Task.{Task}
use Rattle.unit_rules.specs.Manager.{Managed, table_or}
use Rattle.unit_rules.specs.Reconfigs as rules
use Rattle.unit_rules.specs.Reconfigs.{task_of}
use Rattle.unit_desk.specs.declared.unit_effects.UnitEffects.{UnitEffects}
use Rattle.unit_desk.specs.UnitEffects.{Does}
use Rattle.reconfig_phases.specs.Answers.{answered_unit, received}
use Rattle.reconfig_phases.specs.Views.{step_with, reconfig_of}
use Rattle.reconfig_phases.specs.declared.reconfig.Reconfig.{Reconfig}
use Rattle.reconfig_phases.specs.declared.step.Progress.{Progress}
use Rattle.reconfig_phases.specs.declared.step.Progress.TheVariants.{Stays, Finished, Superseded, Refused}
use Rattle.unit_manager.specs.Managers.{HasOwn, IsManaged, IsOwnEnd, answer_taken, concluded, managed, place, reconfigs_of}
use Rattle.unit_manager.proofs.Asking.{receiving}
use Rattle.unit_manager.proofs.Keeping.{goes_on_managed, over_managed, refused_managed}
use Rattle.unit_manager.proofs.Owning.{EndsOwn, received_own}
use Rattle.unit_manager.proofs.Places.{stands_there, changed_there, same_place, without-put}
use Rattle.unit_manager.proofs.Taking.{Sent, taken}

module _ (units : Table) (es : List (ℕ × Reconfig)) (k i : ℕ) (e : ℕ × Reconfig) (there_is : e ≡ get_or es i e) (is : i ≡ place k es) (inside : i < length es) (whole : IsManaged (managed units es)) where
  -- what is written at the place
  abbrev pub written : Reconfig → List (ℕ × Reconfig)
  written next = set es i (e.0, next)

  there : at k (reconfigs_of es) ≡ Some (reconfig_of e.1)
  there = stands_there k es i e is inside ∙ ap (λ (x : ℕ × Reconfig). Some (reconfig_of x.1)) (sym there_is)

  pub own_there : (task_of (reconfig_of e.1)).partition ≡ k
  own_there = whole.own k (reconfig_of e.1) there

  pub known_there : is_some (at k units) ≡ true
  known_there = whole.known k (reconfig_of e.1) there

  written_is : (next : Reconfig) → reconfigs_of (written next) ≡ put k (reconfig_of next) (reconfigs_of es)
  written_is next =
      ap (λ (x : ℕ × Reconfig). reconfigs_of (set es i (x.0, next))) there_is ∙ changed_there k es i e next is inside whole.rise

  pub configs_there : HasOwn (reconfig_of e.1)
  configs_there = whole.configs k (reconfig_of e.1) there

  pub rise_there : (next : Reconfig) → rises (reconfigs_of (written next)) ≡ true
  rise_there next =
      subst (λ (rs : List (ℕ × rules.Reconfig)). rises rs ≡ true) (sym (written_is next)) (rises-put k (reconfig_of next) (reconfigs_of es) whole.rise)

  few_there : (next : Reconfig) → length (put k (reconfig_of next) (reconfigs_of es)) ≤ most_partitions
  few_there next =
      let was : length (reconfigs_of es) ≡ length es = length-map es _ in
      let same : length (put k (reconfig_of next) (reconfigs_of es)) ≡ length es = ap length (sym (written_is next)) ∙ length-map (written next) _ ∙ length-set es i (e.0, next) in
      omega (arith, same, was, whole.few)

  whole_there : (next : Reconfig) → task_of (reconfig_of next) ≡ task_of (reconfig_of e.1) → HasOwn (reconfig_of next) → IsManaged (managed units (written next))
  whole_there next task own =
      subst (λ (rs : List (ℕ × rules.Reconfig)). IsManaged (record { units = units; reconfigs = rs })) (sym (written_is next))
      (goes_on_managed k (reconfig_of e.1) (reconfig_of next) (managed units es) whole there task own (few_there next))

  -- the reconfiguration is over
  out_there : (t : Task) (next : Reconfig) → t.partition ≡ k → without t.partition (reconfigs_of (written next)) ≡ without k (reconfigs_of es)
  out_there t next own =
      ap (λ n. without n (reconfigs_of (written next))) own
      ∙ ap (without k) (written_is next)
      ∙ without-put k (reconfig_of next) (reconfigs_of es) whole.rise

  over_there : (t : Task) (next : Reconfig) (changed_units : Table) → t.partition ≡ k → IsManaged (record { units = changed_units; reconfigs = without k (reconfigs_of es) })
      → IsManaged (record { units = changed_units; reconfigs = without t.partition (reconfigs_of (written next)) })
  over_there t next changed_units own kept = subst (λ (rs : List (ℕ × rules.Reconfig)). IsManaged (record { units = changed_units; reconfigs = rs })) (sym (out_there t next own)) kept

  -- what is managed stays whole, whatever becomes of the reconfiguration
  concluded_there : (t : Task) (next : Reconfig) (p : Progress) → t.partition ≡ k → task_of (reconfig_of next) ≡ task_of (reconfig_of e.1) → EndsOwn k (step_with next p)
      → IsManaged (concluded t (managed units (written next)) p).state
  concluded_there t next Stays own task ends = whole_there next task ends
  concluded_there t next (Finished config) own task ends =
      over_there t next (table_or units (changed config.partition (noted config) units)) own (over_managed k config.partition (noted config) (managed units es) whole)
  concluded_there t next (Superseded epoch) own task ends =
      over_there t next (table_or units (changed t.partition (seen_at epoch) units)) own (over_managed k t.partition (seen_at epoch) (managed units es) whole)
  concluded_there t next (Refused refusal) own task ends = over_there t next units own (refused_managed k (managed units es) whole)

  pub whole_after : (t : Task) (next : Reconfig) (p : Progress) (new : Managed) (before after : UnitEffects) → t.partition ≡ k → task_of (reconfig_of next) ≡ task_of (reconfig_of e.1) → EndsOwn k (step_with next p)
      → Does (concluded t (managed units (written next)) p) new before after → IsManaged new
  whole_after t next p new before after own task ends does = subst IsManaged (sym does.state) (concluded_there t next p own task ends)

  -- it comes to a configuration of the partition alone
  pub ends_there : (nodes : List NodeLoad) (m : Message) (next : Reconfig) (p : Progress) (epoch : Epoch) → IsTrue (is_sound_body m.body) → answered_unit m.body ≡ Some (k, epoch)
      → (received nodes m (reconfig_of e.1)).state ≡ step_with next p → EndsOwn k (step_with next p)
  ends_there nodes m next p epoch sound is step =
      subst (λ (n : ℕ). EndsOwn n (step_with next p)) own_there
      (subst (λ (s : rules.Step). EndsOwn (task_of (reconfig_of e.1)).partition s) step
      (received_own nodes m (reconfig_of e.1) (k, epoch) sound is (sym own_there) configs_there))

  pub own_end : (t : Task) (next : Reconfig) (p : Progress) → t.partition ≡ k → EndsOwn k (step_with next p) → IsOwnEnd t p
  own_end t next Stays own ends = tt
  own_end t next (Finished config) own ends = ends ∙ sym own
  own_end t next (Superseded epoch) own ends = tt
  own_end t next (Refused refusal) own ends = tt

  pub place_there : (next : Reconfig) → i ≡ place k (written next)
  place_there next =
      let first : place k es < length es = omega (arith, is, inside) in
      let here : place k (written next) ≡ place k (set es (place k es) ((get_or es (place k es) e).0, next)) =
      ap (λ (x : ℕ × Reconfig). place k (set es i (x.0, next))) there_is ∙ ap (λ n. place k (set es n ((get_or es n e).0, next))) is in
      is ∙ sym (here ∙ same_place k es e next first)

  pub does_there : (nodes : List NodeLoad) (m : Message) (t : Task) (next : Reconfig) (p : Progress) (s2 : Managed) (d0 d1 d2 : UnitEffects)
      → t ≡ task_of (reconfig_of e.1) → (received nodes m (reconfig_of e.1)).state ≡ step_with next p
      → Sent (received nodes m (reconfig_of e.1)).deeds d0 d1
      → Does (concluded t (managed units (written next)) p) s2 d1 d2
      → Does (answer_taken nodes m (managed units es) (at k (reconfigs_of es))) s2 d0 d2
  does_there nodes m t next p s2 d0 d1 d2 task step sent does =
      let same : k ≡ (task_of (reconfig_of e.1)).partition = sym own_there in
      let put_is : reconfigs_of (written next) ≡ put (task_of (reconfig_of e.1)).partition (reconfig_of next) (reconfigs_of es) =
      written_is next ∙ ap (λ n. put n (reconfig_of next) (reconfigs_of es)) same in
      let by_task : Does (concluded (task_of (reconfig_of e.1)) (managed units (written next)) p) s2 d1 d2 =
      subst (λ (u : Task). Does (concluded u (managed units (written next)) p) s2 d1 d2) task does in
      let by_put : Does (concluded (task_of (reconfig_of e.1)) (record { units = units; reconfigs = put (task_of (reconfig_of e.1)).partition (reconfig_of next) (reconfigs_of es) }) p) s2 d1 d2 =
      subst (λ (rs : List (ℕ × rules.Reconfig)). Does (concluded (task_of (reconfig_of e.1)) (record { units = units; reconfigs = rs }) p) s2 d1 d2) put_is by_task in
      subst (λ (o : Option rules.Reconfig). Does (answer_taken nodes m (managed units es) o) s2 d0 d2) (sym there)
      (taken (task_of (reconfig_of e.1)) next p (managed units es) s2 (received nodes m (reconfig_of e.1)) d0 d1 d2 whole.rise step
      (receiving nodes m (reconfig_of e.1)) sent by_put)
