-- All that runs above the ring at a node and beside the accusations at an arbitrator.
use Rattle.std.specs.Prelude.{[]}
use Rattle.world_rules.specs.Uppers.{Upper}
use Rattle.unit_rules.specs.Deeds.{did}
use Rattle.unit_rules.specs.Registers.{Registers, registers_after, question_received}
use Rattle.unit_rules.specs.Loads.{site_of}
use Rattle.unit_rules.specs.Steps.{Failover, failover_begun, failover_step}

-- above: the manager and the replicas, which begin from the node's records; beside: the registers, which are the
-- arbitrator's records
abbrev pub units : Upper
units = record {
  Above = Failover;
  Beside = Registers;
  above_begun = λ c me records. failover_begun records;
  above_step = λ c now r s i. did (failover_step (site_of c r.me.actor) now r s i);
  beside_begun = λ c arbiter records. registers_after [] records;
  beside_step = λ c arbiter s m. did (question_received m.body m.from s);
}
