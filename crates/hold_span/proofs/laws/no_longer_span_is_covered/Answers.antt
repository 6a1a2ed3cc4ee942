use Rattle.hold_span.proofs.Spans.{none_longer}
use Rattle.hold_span.proofs.laws.no_longer_span_is_covered.Goals as goal

pub returns : goal.returns
returns c = none_longer
