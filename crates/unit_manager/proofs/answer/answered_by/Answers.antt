use Rattle.std.proofs.Common.{◌≡◌, ℕ, ◌<◌, List, true, length, set, subst, sym, ap, ◌∙◌, arith, length-set, refl}
use Rattle.std.specs.Prelude.{is_some}
use Rattle.fabric_lemmas.specs.Maps.{at}
use Rattle.unit_desk.specs.declared.unit_effects.UnitEffects.{UnitEffects}
use Rattle.unit_rules.specs.Manager.{Managed}
use Rattle.reconfig_phases.specs.declared.reconfig.Reconfig.{Reconfig}
use Rattle.unit_manager.specs.Managers.{loaded, managed, place}
use Rattle.unit_manager.proofs.Answering.{does_there, ends_there, known_there, own_end, own_there, place_there, rise_there, whole_after}
use Rattle.unit_manager.proofs.Owning.{EndsOwn}
use Rattle.reconfig_phases.specs.Views.{step_with}
use Rattle.unit_manager.proofs.answer.answered_by.Goals as goal

pub conclude-requires : goal.conclude-requires
conclude-requires c =
    let units = c.args.units.now in
    let es = c.args.reconfigs.now.items in
    let k = c.args.partition in
    let i = c.in-Some.i in
    let e = c.index_mut.result.now in
    let next = c.go_on-progress.new.reconfig in
    let is : i ≡ place k es = c.in-Some.ensures.place ∙ ap (λ (fs : List (ℕ × Reconfig)). place k fs) c.deref.ensures.value in
    let inside : i < length es = subst (λ (fs : List (ℕ × Reconfig)). i < length fs) c.deref.ensures.value c.in-Some.ensures.inside in
    let own : c.task-task.result.partition ≡ k =
    ap (λ t. t.partition) c.task-task.ensures.task ∙ own_there units es k i e c.index_mut.ensures.value is inside c.requires.whole in
    let nodes = loaded units c.args.nodes.now in
    let ends : EndsOwn k (step_with next c.go_on-progress.result) =
    ends_there units es k i e c.index_mut.ensures.value is inside c.requires.whole nodes c.args.answer.now next c.go_on-progress.result c.requires.unit.0 c.requires.sound c.requires.unit.1 c.go_on-progress.ensures.does.step in
    record {
      room = omega (arith, c.requires.room.told);
      place = subst (λ (n : ℕ). i ≡ place n (set es i (e.0, next))) (sym own) (place_there units es k i e c.index_mut.ensures.value is inside c.requires.whole next);
      inside = simp length-set inside;
      rise = rise_there units es k i e c.index_mut.ensures.value is inside c.requires.whole next;
      known = subst (λ (n : ℕ). is_some (at n units) ≡ true) (sym own) (known_there units es k i e c.index_mut.ensures.value is inside c.requires.whole);
      own = own_end units es k i e c.index_mut.ensures.value is inside c.requires.whole c.task-task.result next c.go_on-progress.result own ends;
    }

pub returns-clause-does : goal.returns-clause-does
returns-clause-does c =
    let units = c.args.units.now in
    let es = c.args.reconfigs.now.items in
    let k = c.args.partition in
    let i = c.in-Some.i in
    let e = c.index_mut.result.now in
    let next = c.go_on-progress.new.reconfig in
    let is : i ≡ place k es = c.in-Some.ensures.place ∙ ap (λ (fs : List (ℕ × Reconfig)). place k fs) c.deref.ensures.value in
    let inside : i < length es = subst (λ (fs : List (ℕ × Reconfig)). i < length fs) c.deref.ensures.value c.in-Some.ensures.inside in
    let nodes = loaded units c.args.nodes.now in
    let m = c.args.answer.now in
    let t = c.task-task.result in
    let p = c.go_on-progress.result in
    let s2 : Managed = managed c.conclude.new.units c.conclude.new.reconfigs.items in
    let between : UnitEffects = record { records = c.args.effects.now.records; out = c.go_on-progress.new.out; told = c.args.effects.now.told } in
    does_there units es k i e c.index_mut.ensures.value is inside c.requires.whole nodes m t next p s2 c.args.effects.now between c.conclude.new.effects c.task-task.ensures.task c.go_on-progress.ensures.does.step
    (record { records = refl; sent = c.go_on-progress.ensures.does.sent; told = refl }) c.conclude.ensures.does

pub returns-clause-whole : goal.returns-clause-whole
returns-clause-whole c =
    let units = c.args.units.now in
    let es = c.args.reconfigs.now.items in
    let k = c.args.partition in
    let i = c.in-Some.i in
    let e = c.index_mut.result.now in
    let next = c.go_on-progress.new.reconfig in
    let is : i ≡ place k es = c.in-Some.ensures.place ∙ ap (λ (fs : List (ℕ × Reconfig)). place k fs) c.deref.ensures.value in
    let inside : i < length es = subst (λ (fs : List (ℕ × Reconfig)). i < length fs) c.deref.ensures.value c.in-Some.ensures.inside in
    let t = c.task-task.result in
    let p = c.go_on-progress.result in
    let s2 : Managed = managed c.conclude.new.units c.conclude.new.reconfigs.items in
    let between : UnitEffects = record { records = c.args.effects.now.records; out = c.go_on-progress.new.out; told = c.args.effects.now.told } in
    let own : t.partition ≡ k = ap (λ t. t.partition) c.task-task.ensures.task ∙ own_there units es k i e c.index_mut.ensures.value is inside c.requires.whole in
    let ends : EndsOwn k (step_with next p) =
    ends_there units es k i e c.index_mut.ensures.value is inside c.requires.whole (loaded units c.args.nodes.now) c.args.answer.now next p c.requires.unit.0 c.requires.sound c.requires.unit.1 c.go_on-progress.ensures.does.step in
    whole_after units es k i e c.index_mut.ensures.value is inside c.requires.whole t next p s2 between c.conclude.new.effects own c.go_on-progress.ensures.task ends c.conclude.ensures.does
