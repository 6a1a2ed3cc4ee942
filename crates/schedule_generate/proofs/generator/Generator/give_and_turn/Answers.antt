use Rattle.schedule_generate.specs.Course.{with_gives, with_turn}
use Rattle.schedule_generate.specs.Settings.{generated_config}
use Rattle.schedule_generate.proofs.Loops.{own_number}
use Rattle.schedule_generate.proofs.Steps.{turn_sticks, went_on}
use Rattle.schedule_generate.proofs.generator.Generator.give_and_turn.Goals as goal

pub turn-requires-clause-at : goal.turn-requires-clause-at
turn-requires-clause-at g c =
    let n = c.args.self.now.nodes in
    let own = own_number g.L.CourseObserver.writing (g.L.CourseObserver.knows c.args.listener.now) c.args.self.now c.args.text.now.items c.requires.at in
    (n, with_gives (generated_config n) own.0, own.1, c.in-Ok.ensures.went own.0 own.1 own.2)

pub returns-in-Err-clause-went : goal.returns-in-Err-clause-went
returns-in-Err-clause-went g c k sent at =
    let n = c.args.self.now.nodes in
    went_on g.L.CourseObserver.writing (g.L.CourseObserver.knows c.give.new.listener) (g.L.CourseObserver.knows c.give.new.listener) n c.in-Err.halt c.give.new.self c.give.new.text.items (with_gives (generated_config n) k) sent (with_turn (generated_config n) n) (turn_sticks (generated_config n) n) (c.in-Err.ensures.went k sent at)
