use Rattle.std.proofs.Common.{◌∙◌, ◌==◌, sym, ap, ℕ}
use Rattle.std.specs.List.{list_any}
use Rattle.ring_points.specs.declared.unit.Config.{Config}
use Rattle.arbiter_quorum.specs.Kept.{pair}
use Rattle.arbiter_quorum.specs.declared.votes.Vote.{Vote}
use Rattle.arbiter_quorum.proofs.Mapped.{list_any_map}
use Rattle.arbiter_quorum.proofs.votes.VoteTally.answered.Goals as goal

pub returns : goal.returns
returns c = rw (← c.self.view_is) (c.is_of_one.ensures
    ∙ ap (list_any (λ (vote : Vote). vote.arbitrator == c.args.arbitrator)) c.as_slice.ensures.value
    ∙ sym (list_any_map (λ (answer : ℕ × Config). answer.0 == c.args.arbitrator) pair c.self.inside.answers.items))
