use Rattle.std.proofs.Common.{◌∙◌, ap, subst}
use Rattle.unit_rules.specs.Fabric.{fabric}
use Rattle.world_rules.proofs.Starts.{begun_first}
use Rattle.world_rules.specs.Starts.{node_begun_in}
use Rattle.node_core.specs.declared.outcome.Outcome.{Outcome}
use Rattle.ring_points.specs.declared.who.Who.{Who}
use Rattle.world_rules.specs.Nodes.{NodeState}
use Rattle.world_rules.specs.Uppers.{Did}
use Rattle.node_core.specs.Nodes.{Does}
use Rattle.node_core.proofs.Starting.{ok_map}
use Rattle.node_core.proofs.node.NodeCore.begin_again.Goals as goal

pub returns-clause-begins : goal.returns-clause-begins
returns-clause-begins c =
    ok_map c.begin_again_in.result
    (λ (o : Outcome) does. λ records kept.
    subst (λ (d : Did (NodeState fabric)). Does d c.begin_again_in.new.self o)
    (ap (λ (w : Who). node_begun_in fabric w c.args.config.now c.args.node records) c.first_whole.ensures ∙ begun_first fabric c.args.config.now c.args.node records)
    (does records kept))
    c.begin_again_in.ensures.begins
