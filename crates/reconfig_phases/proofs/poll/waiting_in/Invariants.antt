use Rattle.std.proofs.Common.{◌≡◌, ◌≤◌, take, length}
use Rattle.unit_rules.specs.Polls.{waiting}
use Rattle.reconfig_phases.proofs.poll.waiting_in.Given as goal

abbrev pub invariant-loop-entry : goal.invariant-loop-entry
invariant-loop-entry g l = record {
  so_far : l.actors.items ≡ waiting (take l.entry-index l.entries);
  few : length l.actors.items ≤ l.entry-index;
}
