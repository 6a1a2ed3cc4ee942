use Rattle.std.proofs.Common.{◌≡◌, drop}
use Rattle.unit_rules.specs.Choices.{highest_done}
use Rattle.unit_rules.specs.Polls.{answers_in}
use Rattle.reconfig_phases.proofs.choices.highest_done.Given as goal

abbrev pub invariant-loop-i : goal.invariant-loop-i
invariant-loop-i l = l.highest ≡ highest_done (answers_in (drop l.i l.entries))
