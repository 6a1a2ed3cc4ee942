-- What the laws of this crate say.
use Rattle.std.specs.Prelude.{ℕ, ◌+◌, ◌<◌, ◌≤◌}
use Rattle.drift_clock.specs.declared.bound.Bound.{Bound}
use Rattle.drift_clock.specs.Within.{Pair, Within}
use Rattle.drift_clock.specs.Wait.{wait}
use Rattle.hold_span.specs.Span.{span}

-- The parent asked, and acts before its span is over. The node read its clock after the question, and its fence is this.
-- Then at no true time up to the act the node's clock has reached the fence.
abbrev pub SpanEndsBeforeFence : Type 0
SpanEndsBeforeFence =
    (bound : Bound) (fence : ℕ) (asked acting read then : Pair) → bound.d < 1000 →
    Within bound asked acting → acting.1 < asked.1 + span bound fence read.1 →
    Within bound read then → asked.0 ≤ read.0 → then.0 ≤ acting.0 →
    then.1 < fence

-- who waits for more than the span may have waited beyond the fence
abbrev pub NoLongerSpanIsCovered : Type 0
NoLongerSpanIsCovered =
    (bound : Bound) (fence now x : ℕ) → bound.d < 1000 → now ≤ fence → span bound fence now < x → fence < now + wait bound x
