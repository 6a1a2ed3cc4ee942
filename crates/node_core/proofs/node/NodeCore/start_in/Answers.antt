use Rattle.std.proofs.Common.{◌∙◌, ap, sym, subst}
use Rattle.unit_rules.specs.Fabric.{fabric}
use Rattle.unit_replica.specs.Starts.{states_from}
use Rattle.unit_replica.proofs.Kept.{starts_lem}
use Rattle.world_rules.specs.Starts.{node_begun_in}
use Rattle.node_core.specs.Nodes.{Core, Does}
use Rattle.node_core.proofs.node.NodeCore.start_in.Goals as goal

pub returns-clause-begins : goal.returns-clause-begins
returns-clause-begins c = λ records kept.
    subst (λ (n : Core). Does (node_begun_in fabric c.args.whole c.args.config.now c.args.node records) n c.in_ok-core.outcome) (sym c.into_inner.ensures)
    (c.in_ok-core.ensures.begins records (record {
      boots = sym kept.boots;
      states = sym (c.in_ok-begun.ensures.begun ∙ ap states_from (c.into_vec-replicas.ensures ∙ kept.replicas) ∙ (starts_lem records).begun);
    }))
