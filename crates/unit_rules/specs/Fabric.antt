-- What the fabric runs above the ring at a node, and beside the accusations at an arbitrator.
use Rattle.world_rules.specs.Above.{StaysAbove}
use Rattle.world_rules.specs.Uppers.{Upper}
use Rattle.unit_rules.specs.Stays.{units_stay}
use Rattle.unit_rules.specs.Units.{units}

-- above the ring the manager and the replicas of partitions, beside the accusations their registers
abbrev pub fabric : Upper
fabric = units

-- it does nothing of the ring
pub fabric_stays : StaysAbove fabric
fabric_stays = units_stay
