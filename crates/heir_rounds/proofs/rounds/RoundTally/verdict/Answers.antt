use Rattle.std.proofs.Common.{◌∙◌, sym, ap}
use Rattle.heir_rounds.specs.Rounds.{RoundTally, has_majority}
use Rattle.heir_rounds.proofs.Verdicts.{is_over, is_still_open}
use Rattle.heir_rounds.proofs.rounds.RoundTally.verdict.Goals as goal

pub returns-then-is_won : goal.returns-then-is_won
returns-then-is_won c =
    is_over c.args.self.now (ap (has_majority c.args.self.now) (ap (λ (t : RoundTally). t.me) (sym c.self.view_is)) ∙ sym c.has_majority.ensures ∙ c.if-has_majority.false)
    (sym c.is_won.ensures ∙ c.if-is_won.true)

pub returns-then-one_may_win : goal.returns-then-one_may_win
returns-then-one_may_win c =
    is_still_open c.args.self.now (ap (has_majority c.args.self.now) (ap (λ (t : RoundTally). t.me) (sym c.self.view_is)) ∙ sym c.has_majority.ensures ∙ c.if-has_majority.false)
    (sym c.is_won.ensures ∙ c.if-is_won.false) (sym c.one_may_win.ensures ∙ c.if-one_may_win.true)
