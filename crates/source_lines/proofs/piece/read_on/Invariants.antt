use Rattle.std.proofs.Common.{◌≡◌, ◌+◌, ◌-◌, ◌≤◌, ◌++◌, ℕ, List, Some, length, take}
use Rattle.source_lines.specs.Feeds.{HasNoFeed}
use Rattle.source_lines.proofs.piece.read_on.Given as goal

-- what stands in the room has no line feed, and what was read of the source stands there
abbrev pub invariant-loop-end : goal.invariant-loop-end
invariant-loop-end g l = record {
  same : length l.room ≡ length l.fn.room;
  within : l.end ≤ length l.room;
  no_feed : HasNoFeed (take l.end l.room);
  bytes : (bytes : List ℕ) → g.S.Source.left l.fn.source ≡ Some bytes → ((rest : List ℕ) × (g.S.Source.left l.source ≡ Some rest) × (take l.end l.room ++ rest ≡ take l.fn.end l.fn.room ++ bytes));
  later : g.S.Source.faults l.fn.source ≤ g.S.Source.faults l.source;
}

abbrev pub decreases-loop-end : goal.decreases-loop-end
decreases-loop-end g l = l.most + 1 - l.end
