use Rattle.std.proofs.Common.{◌∙◌, sym, ap, Some, None}
use Rattle.ring_points.specs.declared.unit.Config.{Config}
use Rattle.arbiter_quorum.specs.Votes.{VoteTally, verdict_by}
use Rattle.arbiter_quorum.specs.declared.verdict.VoteVerdict.TheVariants.{Decided}
use Rattle.arbiter_quorum.proofs.Counts.{verdict_is}
use Rattle.arbiter_quorum.proofs.votes.VoteTally.verdict.Goals as goal

pub returns-in-Some : goal.returns-in-Some
returns-in-Some c = ap (λ (kept : Config). Decided kept) c.copy.ensures
    ∙ verdict_is c.args.self.now c.as_slice.result.now c.self.inside.answers.items c.as_slice.ensures.value (ap (λ (t : VoteTally). t.answers) (sym c.self.view_is)) (Some c.in-Some.vote.now) (c.in-Some.ensures)

pub returns-in-None : goal.returns-in-None
returns-in-None c = ap (verdict_by None) (sym c.if-one_may_win.true ∙ c.one_may_win.ensures)
    ∙ verdict_is c.args.self.now c.as_slice.result.now c.self.inside.answers.items c.as_slice.ensures.value (ap (λ (t : VoteTally). t.answers) (sym c.self.view_is)) None (c.in-None.ensures)

pub returns-in-None-2 : goal.returns-in-None-2
returns-in-None-2 c = ap (verdict_by None) (sym c.if-one_may_win.false ∙ c.one_may_win.ensures)
    ∙ verdict_is c.args.self.now c.as_slice.result.now c.self.inside.answers.items c.as_slice.ensures.value (ap (λ (t : VoteTally). t.answers) (sym c.self.view_is)) None (c.in-None-2.ensures)
