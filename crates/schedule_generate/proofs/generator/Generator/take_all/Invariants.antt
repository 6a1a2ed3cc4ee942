use Rattle.std.proofs.Common.{◌≡◌, ℕ, List, take}
use Rattle.schedule_generate.specs.Course.{Course, taken_all}
use Rattle.schedule_generate.specs.Goes.{At}
use Rattle.schedule_generate.specs.Moves.{events_for}
use Rattle.schedule_generate.specs.Settings.{generated_config}
use Rattle.schedule_generate.proofs.generator.Generator.take_all.Given as goal

abbrev pub invariant-loop-i : goal.invariant-loop-i
invariant-loop-i g l = record {
  went : (k : Course) (sent : List ℕ) → At g.L.CourseObserver.writing (g.L.CourseObserver.knows l.fn.listener) l.fn.self.nodes l.fn.self l.fn.text.items k sent
      → At g.L.CourseObserver.writing (g.L.CourseObserver.knows l.listener) l.fn.self.nodes l.self l.text.items (taken_all (generated_config l.fn.self.nodes) (events_for (take l.i l.moves)) k) sent;
  rest : l.self ≡ record l.fn.self { world = l.self.world; line = l.self.line };
}
