use Rattle.std.proofs.Common.{◌∙◌, ap}
use Rattle.heir_rounds.specs.Rounds.{round_verdict_of}
use Rattle.heir_rounds.proofs.rounds.RoundTally.note.Goals as goal

pub returns-clause-verdict : goal.returns-clause-verdict
returns-clause-verdict c = c.verdict-verdict.ensures ∙ ap round_verdict_of c.count.ensures
