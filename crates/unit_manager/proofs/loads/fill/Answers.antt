use Rattle.std.proofs.Common.{false, arith}
use Rattle.std.proofs.lemmas.Grind.{common_steps}
use Rattle.unit_manager.proofs.Loading.{loaded_more}
use Rattle.unit_manager.proofs.loads.fill.Goals as goal

pub loop-node-preserved : goal.loop-node-preserved
loop-node-preserved c = record {
  loads = loaded_more c.args.units.now c.args.nodes.now c.loop-node.nodes c.loop-node.node-index (record { node = 0; domain = 0; up = false; load = 0 }) c.load-node.result (omega arith) c.loop-node.invariant.loads c.load-node.ensures;
  many = grind (arith, common_steps);
}
