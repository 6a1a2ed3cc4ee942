use Rattle.std.proofs.Common.{◌≢◌, ℕ, ◌≤◌, ◌<◌, length}
use Rattle.std.specs.Prelude.{slice_index}
use Rattle.serve_edge.proofs.actor_lines.whole_lines.Given as goal

-- no line feed follows
abbrev pub invariant-loop-end : goal.invariant-loop-end
invariant-loop-end l = (l.end ≤ length l.bytes) × ((k : ℕ) → l.end ≤ k → k < length l.bytes → slice_index l.bytes k ≢ 10)

abbrev pub decreases-loop-end : goal.decreases-loop-end
decreases-loop-end l = l.end
