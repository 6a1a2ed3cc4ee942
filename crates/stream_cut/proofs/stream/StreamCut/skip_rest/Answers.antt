use Rattle.std.proofs.Common.{◌≡◌, true, Some, None, ap, sym, ◌∙◌}
use Rattle.std.specs.List.{position}
use Rattle.stream_cut.specs.Cuts.{Stream}
use Rattle.stream_cut.proofs.Positions.{is_feed}
use Rattle.stream_cut.proofs.Cutting.{skipped_to, skipped_all}
use Rattle.stream_cut.proofs.stream.StreamCut.skip_rest.Goals as goal

pub returns-in-Some-clause-same : goal.returns-in-Some-clause-same
returns-in-Some-clause-same c =
    let skips : c.args.self.now.skips ≡ true = sym (ap (λ (r : Stream). r.skips) c.self.view_is) ∙ c.if-self.true in
    let found : position is_feed c.args.self.now.waiting ≡ Some c.in-Some.feed = ap (position is_feed) (sym c.waiting.ensures) ∙ sym c.in-Some.ensures in
    rw c.skip_to.ensures (λ more. skipped_to c.args.self.now c.in-Some.feed more skips found)

pub returns-in-None-clause-same : goal.returns-in-None-clause-same
returns-in-None-clause-same c =
    let skips : c.args.self.now.skips ≡ true = sym (ap (λ (r : Stream). r.skips) c.self.view_is) ∙ c.if-self.true in
    let none : position is_feed c.args.self.now.waiting ≡ None = ap (position is_feed) (sym c.waiting.ensures) ∙ sym c.in-None.ensures in
    rw c.drop_all.ensures (λ more. skipped_all c.args.self.now more skips none)
