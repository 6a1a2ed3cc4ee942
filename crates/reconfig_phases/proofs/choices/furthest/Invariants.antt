use Rattle.std.proofs.Common.{◌≡◌, drop}
use Rattle.unit_rules.specs.Choices.{furthest}
use Rattle.unit_rules.specs.Polls.{answers_in}
use Rattle.reconfig_phases.proofs.choices.furthest.Given as goal

abbrev pub invariant-loop-i : goal.invariant-loop-i
invariant-loop-i l = l.best ≡ furthest (answers_in (drop l.i l.entries))
