use Rattle.std.proofs.Common.{◌∙◌, ◌++◌, List, ap}
use Rattle.fabric_terms.specs.declared.report.Report.{Report}
use Rattle.ring_node.specs.Begins.{begun_told}
use Rattle.ring_node.proofs.Begun.{begun_by}
use Rattle.ring_node.proofs.node.RingNode.begin_again.Goals as goal

pub returns-clause-begins : goal.returns-clause-begins
returns-clause-begins c =
    begun_by c.args.config.now c.args.me c.args.whole c.args.spent c.phase_again.new.self c.begun_phase-phase.result.0 c.begun_phase-phase.result.1 c.tell_begun.new.told.items
    c.phase_again.ensures.settings c.phase_again.ensures.ring c.begun_phase-phase.ensures.phase c.begun_phase-phase.ensures.ranges
    (c.tell_begun.ensures.told ∙ ap (λ (x : List Report). x ++ begun_told c.args.spent c.begun_phase-phase.result.1) c.requires.empty)
