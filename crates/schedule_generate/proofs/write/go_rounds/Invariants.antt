use Rattle.std.proofs.Common.{◌≡◌, ◌≤◌, ◌*◌, ◌++◌, ℕ, List}
use Rattle.edge_io.specs.Edge.{Grew}
use Rattle.schedule_generate.specs.Course.{Course, rounds}
use Rattle.schedule_generate.specs.Goes.{At}
use Rattle.schedule_generate.specs.Settings.{generated_config}
use Rattle.schedule_generate.proofs.write.go_rounds.Given as goal

abbrev pub invariant-loop-round : goal.invariant-loop-round
invariant-loop-round g l = record {
  went : (k : Course) (first : List ℕ) → At g.L.CourseObserver.writing (g.L.CourseObserver.knows l.fn.listener) l.fn.generator.nodes l.fn.generator l.fn.text.items k first
      → (sent : List ℕ) × Grew (g.K.Sink.held l.fn.sink) (g.K.Sink.held l.sink) sent × At g.L.CourseObserver.writing (g.L.CourseObserver.knows l.listener) l.fn.generator.nodes l.generator l.text.items (rounds (generated_config l.fn.generator.nodes) l.fn.generator.nodes l._round k) (first ++ sent);
  time : l.generator.time ≤ 100 * l._round;
  nodes : l.generator.nodes ≡ l.fn.generator.nodes;
  later : g.K.Sink.faults l.fn.sink ≤ g.K.Sink.faults l.sink;
}
