-- How an answer is taken, step by step.
use Rattle.std.proofs.Common.{◌≡◌, ℕ, true, List, [], ◌++◌, Option, Some, None, refl, sym, subst, ap, ◌∙◌}
use Rattle.std.proofs.lemmas.List.{append-nil}
use Rattle.ring_points.specs.declared.unit.Epoch.{Epoch}
use Rattle.fabric_lemmas.specs.Maps.{at, put, rises}
use Rattle.fabric_terms.specs.declared.message.Message.{Message}
use Rattle.failover_units.specs.Units.{changed, noted, seen_at}
use Rattle.replica_place.specs.declared.load.NodeLoad.{NodeLoad}
use Rattle.unit_rules.specs.declared.reconfig.Task.{Task}
use Rattle.unit_rules.specs.Deeds.{Deed, Acted, records_of, frames_of, reports_of}
use Rattle.unit_rules.specs.Manager.{Managed, manager_answered, stands, stands_after, table_or}
use Rattle.unit_rules.specs.Reconfigs as rules
use Rattle.unit_desk.specs.declared.unit_effects.UnitEffects.{UnitEffects}
use Rattle.unit_desk.specs.UnitEffects.{Does, Left}
use Rattle.reconfig_phases.specs.Answers.{answered_unit}
use Rattle.reconfig_phases.specs.Views.{step_with, reconfig_of}
use Rattle.reconfig_phases.specs.declared.reconfig.Reconfig.{Reconfig}
use Rattle.reconfig_phases.specs.declared.step.Progress.{Progress}
use Rattle.reconfig_phases.specs.declared.step.Progress.TheVariants.{Stays, Finished, Superseded, Refused}
use Rattle.unit_manager.specs.Managers.{answer_taken, concluded, manager_received}
use Rattle.unit_manager.proofs.Asking.{Asks, OnlyAsks}
use Rattle.unit_manager.proofs.Places.{without-put}

-- an answer goes to the reconfiguration of its partition
received_at : (nodes : List NodeLoad) (m : Message) (s : Managed) (u : ℕ × Epoch) → answered_unit m.body ≡ Some u → (o : Option rules.Reconfig) → at u.0 s.reconfigs ≡ o
    → manager_received nodes m s ≡ answer_taken nodes m s o
unfolding manager_answered
received_at nodes m s u is None there = rw (is, there) refl
received_at nodes m s u is (Some r) there = rw (is, there) refl

pub received_is : (nodes : List NodeLoad) (m : Message) (s : Managed) (u : ℕ × Epoch) → answered_unit m.body ≡ Some u
    → answer_taken nodes m s (at u.0 s.reconfigs) ≡ manager_received nodes m s
received_is nodes m s u is = sym (received_at nodes m s u is (at u.0 s.reconfigs) refl)

pub received_does : (nodes : List NodeLoad) (m : Message) (s s2 : Managed) (u : ℕ × Epoch) (d0 d2 : UnitEffects)
    → answered_unit m.body ≡ Some u → Does (answer_taken nodes m s (at u.0 s.reconfigs)) s2 d0 d2 → Does (manager_received nodes m s) s2 d0 d2
received_does nodes m s s2 u d0 d2 is does = subst (λ (a : Acted Managed). Does a s2 d0 d2) (received_is nodes m s u is) does

-- what was sent before
pub record Sent (deeds : List Deed) (before after : UnitEffects) : Type 0 where
  pub records : after.records ≡ before.records
  pub sent : after.out ≡ before.out ++ frames_of deeds
  pub told : after.told ≡ before.told

left_behind : (deeds : List Deed) (d0 d1 d2 : UnitEffects) → Sent deeds d0 d1 → (records_of deeds ≡ []) × (reports_of deeds ≡ []) → Left [] d1 d2 → Left deeds d0 d2
left_behind deeds d0 d1 d2 m own l = record {
  records = l.records ∙ ap (λ xs. xs ++ []) m.records ∙ ap (λ xs. d0.records ++ xs) (sym own.0);
  sent = l.sent ∙ append-nil d1.out ∙ m.sent;
  told = l.told ∙ ap (λ xs. xs ++ []) m.told ∙ ap (λ xs. d0.told ++ xs) (sym own.1);
}

left_over : (none deeds : List Deed) (d0 d1 d2 : UnitEffects) → Sent none d0 d1 → none ≡ [] → Left deeds d1 d2 → Left deeds d0 d2
left_over none deeds d0 d1 d2 m is l = record {
  records = l.records ∙ ap (λ xs. xs ++ records_of deeds) m.records;
  sent = l.sent ∙ ap (λ xs. xs ++ frames_of deeds) (m.sent ∙ ap (λ ds. d0.out ++ frames_of ds) is ∙ append-nil d0.out);
  told = l.told ∙ ap (λ xs. xs ++ reports_of deeds) m.told;
}

-- what was concluded is what becomes of it
stands_so : (t : Task) (r : Reconfig) (p : Progress) (s s2 : Managed) (deeds : List Deed) (d0 d1 d2 : UnitEffects) → rises s.reconfigs ≡ true
    → OnlyAsks (step_with r p) deeds → Sent deeds d0 d1
    → Does (concluded t (record s { reconfigs = put t.partition (reconfig_of r) s.reconfigs }) p) s2 d1 d2
    → Does (stands t s (step_with r p) deeds) s2 d0 d2
stands_so t r Stays s s2 deeds d0 d1 d2 up own sent does = record { state = does.state; left = left_behind deeds d0 d1 d2 sent own does.left }
stands_so t r (Finished config) s s2 deeds d0 d1 d2 up own sent does = record {
  state = does.state ∙ ap (λ (es : List (ℕ × rules.Reconfig)). record { units = table_or s.units (changed config.partition (noted config) s.units); reconfigs = es }) (without-put t.partition (reconfig_of r) s.reconfigs up);
  left = left_over deeds _ d0 d1 d2 sent own does.left;
}
stands_so t r (Superseded epoch) s s2 deeds d0 d1 d2 up own sent does = record {
  state = does.state ∙ ap (λ (es : List (ℕ × rules.Reconfig)). record { units = table_or s.units (changed t.partition (seen_at epoch) s.units); reconfigs = es }) (without-put t.partition (reconfig_of r) s.reconfigs up);
  left = left_over deeds _ d0 d1 d2 sent own does.left;
}
stands_so t r (Refused refusal) s s2 deeds d0 d1 d2 up own sent does = record {
  state = does.state ∙ ap (λ (es : List (ℕ × rules.Reconfig)). record { units = s.units; reconfigs = es }) (without-put t.partition (reconfig_of r) s.reconfigs up);
  left = left_over deeds _ d0 d1 d2 sent own does.left;
}

pub taken : (t : Task) (r : Reconfig) (p : Progress) (s s2 : Managed) (a : Acted rules.Step) (d0 d1 d2 : UnitEffects) → rises s.reconfigs ≡ true
    → a.state ≡ step_with r p → Asks a → Sent a.deeds d0 d1
    → Does (concluded t (record s { reconfigs = put t.partition (reconfig_of r) s.reconfigs }) p) s2 d1 d2
    → Does (stands_after t s a) s2 d0 d2
taken t r p s s2 a d0 d1 d2 up is own sent does =
    let only : OnlyAsks (step_with r p) a.deeds = subst (λ (x : rules.Step). OnlyAsks x a.deeds) is own in
    subst (λ (x : rules.Step). Does (stands t s x a.deeds) s2 d0 d2) (sym is) (stands_so t r p s s2 a.deeds d0 d1 d2 up only sent does)
