use Rattle.std.proofs.Common.{◌≡◌, ◌≤◌, ◌-◌, ◌⊎◌, ℕ, List}
use Rattle.schedule_generate.specs.Course.{Course, considers}
use Rattle.schedule_generate.specs.Goes.{At}
use Rattle.schedule_generate.specs.Settings.{generated_config}
use Rattle.schedule_generate.proofs.generator.Generator.give.Given as goal

abbrev pub invariant-loop-before : goal.invariant-loop-before
invariant-loop-before g l = record {
  went : (k : Course) (sent : List ℕ) → At g.L.CourseObserver.writing (g.L.CourseObserver.knows l.fn.listener) l.fn.self.nodes l.fn.self l.fn.text.items k sent
      → At g.L.CourseObserver.writing (g.L.CourseObserver.knows l.listener) l.fn.self.nodes l.self l.text.items (considers (generated_config l.fn.self.nodes) (l.before - l.fn.self.considered) k) sent;
  ends : (l.before ≡ l.fn.self.considered) ⊎ (l.before ≤ l.sent);
  counted : l.self.considered ≡ l.before;
  still : l.self.time ≡ l.fn.self.time;
  nodes : l.self.nodes ≡ l.fn.self.nodes;
}
