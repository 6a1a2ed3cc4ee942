use Rattle.std.proofs.Common.{◌≤◌, ◌-◌}
use Rattle.turn_plans.proofs.Along.{Along}
use Rattle.turn_plans.specs.Reading.{AreTaken}
use Rattle.turn_plans.proofs.orders.take_lines.Given as goal

abbrev pub invariant-lines : goal.invariant-lines
invariant-lines g l = record {
  along : Along (record { crew = l.given.crew; config = l.given.config.now; actors = l.given.actors.now; turns = l.given.turns }) l.fn.reader.waiting (g.S.Source.left l.fn.source) l.orders l.least l.number l.reader.waiting (g.S.Source.left l.source);
  bounded : l.number ≤ 2000001;
  taken : AreTaken l.orders l.least;
  later : g.S.Source.faults l.fn.source ≤ g.S.Source.faults l.source;
}

abbrev pub decreases-lines : goal.decreases-lines
decreases-lines g l = 2000002 - l.number
