use Rattle.std.proofs.Common.{◌≡◌, ◌∙◌, ap, sym, subst}
use Rattle.unit_rules.specs.Fabric.{fabric}
use Rattle.ring_points.specs.Whos.{node_instance}
use Rattle.world_rules.specs.Starts.{node_begun_in}
use Rattle.node_core.specs.Begins.{part_begun}
use Rattle.node_core.specs.declared.kept.NodeKept.{NodeKept}
use Rattle.node_core.specs.Nodes.{Core, Does, GoesBy, core_of, ring_of, with_states}
use Rattle.node_core.proofs.Starting.{does_start, starts_by}
use Rattle.node_core.proofs.node.NodeCore.begin_again_in.Goals as goal

pub returns-clause-begins : goal.returns-clause-begins
returns-clause-begins c = λ records kept.
    let ring = ring_of c.begin_as.new.self in
    let core_is : c.put_states.new.self ≡ core_of ring (part_begun c.args.config.now c.args.kept.now.states) =
    c.put_states.ensures
    ∙ ap (λ (n : Core). with_states c.replace.result.states n) c.begin_as.ensures.core
    ∙ ap (λ (k : NodeKept). core_of ring (part_begun c.args.config.now k.states)) c.replace.ensures.value in
    subst (λ (n : Core). Does (node_begun_in fabric c.args.whole c.args.config.now c.args.node records) n (record { records = c.new-2.result; frames = c.new-4.result; reports = c.new-5.result })) (sym core_is)
    (does_start c.args.config.now c.args.whole c.args.node records c.args.kept.now c.instance_after-instance.result c.eq-first.result c.is_spent-spent.result ring c.begin_as.new.told.items (record { records = c.new-2.result; frames = c.new-4.result; reports = c.new-5.result }) kept c.is_spent-spent.ensures c.instance_after-instance.ensures c.eq-first.ensures c.begin_as.ensures.ring
    (c.new-2.ensures ∙ c.in_ok-records.ensures)
    (c.new-4.ensures ∙ c.new-3.ensures.items)
    c.new-5.ensures)

pub returns-clause-goes_by : goal.returns-clause-goes_by
returns-clause-goes_by c =
    let ring = ring_of c.begin_as.new.self in
    let core_is : c.put_states.new.self ≡ core_of ring (part_begun c.args.config.now c.args.kept.now.states) =
    c.put_states.ensures
    ∙ ap (λ (n : Core). with_states c.replace.result.states n) c.begin_as.ensures.core
    ∙ ap (λ (k : NodeKept). core_of ring (part_begun c.args.config.now k.states)) c.replace.ensures.value in
    subst (λ (n : Core). GoesBy c.args.config.now n) (sym core_is)
    (starts_by c.args.config.now (node_instance c.args.node c.instance_after-instance.result) c.eq-first.result c.is_spent-spent.result ring c.begin_as.new.told.items c.args.kept.now.states c.begin_as.ensures.ring)
