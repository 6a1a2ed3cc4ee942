use Rattle.std.proofs.Common.{◌≡◌, length}
use Rattle.unit_rules.specs.Polls.{arbiters_to}
use Rattle.reconfig_phases.proofs.arbiters.arbiters.Given as goal

abbrev pub invariant-loop-i : goal.invariant-loop-i
invariant-loop-i l = record {
  so_far : l.actors.items ≡ arbiters_to l.i;
  many : length l.actors.items ≡ l.i;
}
