use Rattle.std.proofs.Common.{length, ◌-◌, ◌≤◌, take}
use Rattle.edge_io.specs.Edge.{Grew}
use Rattle.edge_io.proofs.PlannedSoFar.{NoneFailed}
use Rattle.edge_io.proofs.sink.write_all.Given as goal

-- the bytes done are written, and no write has failed
abbrev pub invariant-loop-done : goal.invariant-loop-done
invariant-loop-done g l = (l.done ≤ length l.piece)
    × Grew (g.K.Sink.held l.fn.sink) (g.K.Sink.held l.sink) (take l.done l.piece)
    × (g.K.Sink.faults l.fn.sink ≤ g.K.Sink.faults l.sink)
    × NoneFailed (g.K.Sink.plan l.fn.sink) (g.K.Sink.plan l.sink)

abbrev pub decreases-loop-done : goal.decreases-loop-done
decreases-loop-done g l = length l.piece - l.done
