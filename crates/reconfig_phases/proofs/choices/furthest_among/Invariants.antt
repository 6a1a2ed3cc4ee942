use Rattle.std.proofs.Common.{◌≡◌, drop}
use Rattle.std.specs.Prelude.{filter}
use Rattle.unit_rules.specs.Choices.{furthest, is_among}
use Rattle.unit_rules.specs.Polls.{answers_in}
use Rattle.reconfig_phases.proofs.choices.furthest_among.Given as goal

abbrev pub invariant-loop-i : goal.invariant-loop-i
invariant-loop-i l = l.best ≡ furthest (filter (λ a. is_among a.0 l.nodes) (answers_in (drop l.i l.entries)))
