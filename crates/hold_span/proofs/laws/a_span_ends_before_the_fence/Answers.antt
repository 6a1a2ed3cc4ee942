use Rattle.hold_span.proofs.Spans.{spans_end}
use Rattle.hold_span.proofs.laws.a_span_ends_before_the_fence.Goals as goal

pub returns : goal.returns
returns c = spans_end
