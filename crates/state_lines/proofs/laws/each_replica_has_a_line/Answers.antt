use Rattle.state_lines.proofs.OwnLines.{each_replica}
use Rattle.state_lines.proofs.laws.each_replica_has_a_line.Goals as goal

pub returns : goal.returns
returns c = each_replica
