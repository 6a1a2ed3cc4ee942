use Rattle.std.proofs.Common.{◌∙◌, ap, subst}
use Rattle.unit_rules.specs.Fabric.{fabric}
use Rattle.world_rules.proofs.Starts.{begun_first}
use Rattle.world_rules.specs.Starts.{node_begun_in}
use Rattle.ring_points.specs.declared.who.Who.{Who}
use Rattle.world_rules.specs.Nodes.{NodeState}
use Rattle.world_rules.specs.Uppers.{Did}
use Rattle.node_core.specs.Nodes.{Does}
use Rattle.node_core.proofs.Starting.{ok_map}
use Rattle.node_core.proofs.node.NodeCore.start.Goals as goal

pub returns-clause-begins : goal.returns-clause-begins
returns-clause-begins c =
    ok_map c.start_in.result
    (λ r does. λ records kept.
    subst (λ (d : Did (NodeState fabric)). Does d r.0 r.1)
    (ap (λ (w : Who). node_begun_in fabric w c.args.config.now c.args.node records) c.first_whole.ensures ∙ begun_first fabric c.args.config.now c.args.node records)
    (does records kept))
    c.start_in.ensures.begins
