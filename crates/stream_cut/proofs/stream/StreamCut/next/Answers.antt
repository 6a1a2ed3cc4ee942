use Rattle.std.proofs.Common.{◌≡◌, Some, ap, sym, ◌∙◌}
use Rattle.std.specs.List.{position}
use Rattle.stream_cut.proofs.Positions.{is_feed}
use Rattle.stream_cut.proofs.Cutting.{line_given}
use Rattle.stream_cut.specs.Cuts.{Stream}
use Rattle.stream_cut.specs.declared.cut.Cut.TheVariants.{Line}
use Rattle.stream_cut.proofs.Coming.{came_out}
use Rattle.stream_cut.proofs.stream.StreamCut.next.Goals as goal

pub returns-in-Some-clause-given : goal.returns-in-Some-clause-given
returns-in-Some-clause-given c =
    let skipped = c.skip_rest.new.self in
    let found : position is_feed skipped.waiting ≡ Some c.in-Some.feed = ap (position is_feed) (sym c.waiting.ensures) ∙ sym c.in-Some.ensures in
    rw c.cut_to.ensures.cut (λ more. c.skip_rest.ensures.same more ∙ line_given skipped c.in-Some.feed found c.skip_rest.ensures.nothing c.cut_to.ensures.fits more)

pub returns-in-Some-clause-came : goal.returns-in-Some-clause-came
returns-in-Some-clause-came c bytes out came =
    let most = ap (λ (s : Stream). s.most) c.cut_to.ensures.cut ∙ c.skip_rest.ensures.most in
    came_out Line bytes out c.args.self.now c.cut_to.new.self (returns-in-Some-clause-given c) most came
