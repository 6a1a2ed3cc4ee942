use Rattle.std.proofs.Common.{◌≡◌, ◌+◌, drop}
use Rattle.ring_world.specs.Starts.{place_for}
use Rattle.ring_world.proofs.start.place_for.Given as goal

-- the place among the rest
abbrev pub invariant-loop-i : goal.invariant-loop-i
invariant-loop-i l = l.i + place_for l.node (drop l.i l.clocks) ≡ place_for l.node l.clocks
