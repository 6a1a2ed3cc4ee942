use Rattle.std.proofs.Common.{◌∙◌, sym, ap}
use Rattle.arbiter_quorum.specs.Votes.{VoteTally}
use Rattle.arbiter_quorum.proofs.Counts.{one_may_win_is}
use Rattle.arbiter_quorum.proofs.votes.VoteTally.one_may_win.Goals as goal

pub returns-else-is_majority : goal.returns-else-is_majority
returns-else-is_majority c = one_may_win_is c.args.self.now c.as_slice.result.now c.self.inside.answers.items c.self.inside.arbitrators c.unanswered.result c.one_of_these_may_win.result
    c.as_slice.ensures.value
    (ap (λ (t : VoteTally). t.answers) (sym c.self.view_is))
    (ap (λ (t : VoteTally). t.arbitrators) c.self.view_is)
    c.unanswered.ensures.count
    (sym c.if-is_majority.false ∙ c.is_majority.ensures)
    c.one_of_these_may_win.ensures
