use Rattle.std.proofs.Common.{◌≡◌, ◌<◌, List, ℕ, None, ap, length, ◌∙◌, arith, rules}
use Rattle.fabric_lemmas.specs.Maps.{put}
use Rattle.failover_units.specs.Units.{unit_of}
use Rattle.unit_rules.specs.Manager.{Managed, entered, epoch_of}
use Rattle.reconfig_phases.specs.Views.{reconfig_of}
use Rattle.reconfig_phases.specs.declared.reconfig.Reconfig.{Reconfig}
use Rattle.ring_points.specs.Limits.{most_partitions}
use Rattle.unit_manager.specs.Managers.{managed, reconfigs_of, refusal_in}
use Rattle.std.proofs.lemmas.List.{length-map}
use Rattle.std.proofs.lemmas.Result.{err_from_is_err_and}
use Rattle.unit_manager.proofs.Beginning.{begins_if_free, begins_so, begins_whole}
use Rattle.unit_manager.proofs.command.begin.Goals as goal

pub returns-clause-begins : goal.returns-clause-begins
returns-clause-begins c =
    let es = c.args.reconfigs.now.items in
    let r = c.begin-begun.result in
    let epoch : c.in-Some.epoch ≡ epoch_of c.args.wanted.kind (unit_of c.args.wanted.partition c.args.units.now).highest =
    c.in-Some.ensures.next.0 ∙ ap (epoch_of c.args.wanted.kind) c.highest.ensures in
    let put_is : reconfigs_of c.enter.new.reconfigs.items ≡ put c.args.wanted.partition (reconfig_of r) (reconfigs_of es) =
    c.enter.ensures ∙ ap (λ (fs : List (ℕ × Reconfig)). put c.args.wanted.partition (reconfig_of r) (reconfigs_of fs)) c.take_place.ensures.same in
    begins_so c.args.wanted.arbitrators c.args.wanted.partition c.args.wanted.kind c.in-Some.epoch (managed c.args.units.now es) c.take_place.new.units (reconfig_of r) (reconfigs_of c.enter.new.reconfigs.items) c.in_ok-take_place.ensures.entered c.begin-begun.ensures.begun put_is c.args.out.now c.begin-begun.new.out epoch c.in-Some.ensures.next.1 c.begin-begun.ensures.sent

pub returns-clause-whole : goal.returns-clause-whole
returns-clause-whole c =
    let es = c.args.reconfigs.now.items in
    let r = c.begin-begun.result in
    let put_is : reconfigs_of c.enter.new.reconfigs.items ≡ put c.args.wanted.partition (reconfig_of r) (reconfigs_of es) =
    c.enter.ensures ∙ ap (λ (fs : List (ℕ × Reconfig)). put c.args.wanted.partition (reconfig_of r) (reconfigs_of fs)) c.take_place.ensures.same in
    let many : length (reconfigs_of es) ≡ length es = length-map es _ in
    let room : length (reconfigs_of es) < most_partitions = omega (arith, many, c.in_ok-take_place.ensures.few) in
    begins_whole c.args.wanted.arbitrators c.args.wanted.partition c.args.wanted.kind c.in-Some.epoch (managed c.args.units.now es) c.take_place.new.units (reconfig_of r) (reconfigs_of c.enter.new.reconfigs.items) c.in_ok-take_place.ensures.entered c.begin-begun.ensures.begun put_is c.requires.whole room

pub returns-in_err-take_place-clause-memory : goal.returns-in_err-take_place-clause-memory
returns-in_err-take_place-clause-memory c =
    let s : Managed = managed c.args.units.now c.args.reconfigs.now.items in
    let p = err_from_is_err_and c.from_residual.result c.from_residual.ensures.1 in
    let epoch : c.in-Some.epoch ≡ epoch_of c.args.wanted.kind (unit_of c.args.wanted.partition c.args.units.now).highest =
    c.in-Some.ensures.next.0 ∙ ap (epoch_of c.args.wanted.kind) c.highest.ensures in
    let free : refusal_in (entered c.args.wanted.kind c.args.wanted.partition c.args.units.now) ≡ None = search rules in
    rw p.1 (begins_if_free c.args.wanted.arbitrators c.args.wanted.partition c.args.wanted.kind s c.in-Some.epoch epoch c.in-Some.ensures.next.1 free c.requires.none)
