use Rattle.std.proofs.Common.{◌≡◌, ℕ, ap, subst, ◌∙◌}
use Rattle.unit_rules.specs.Ruled.{ruled}
use Rattle.schedule_generate.specs.Course.{running, with_firings, with_gives, with_tick, with_turn}
use Rattle.schedule_generate.specs.Goes.{At, Went}
use Rattle.schedule_generate.specs.Moves.{events_for}
use Rattle.schedule_generate.specs.Settings.{generated_config}
use Rattle.schedule_generate.specs.Shown.{nodes_of}
use Rattle.schedule_generate.proofs.Loops.{own_number}
use Rattle.schedule_generate.proofs.Steps.{after_tick, went_on}
use Rattle.schedule_generate.proofs.generator.Generator.round.Goals as goal

pub go_on-requires-clause-at : goal.go_on-requires-clause-at
go_on-requires-clause-at g c =
    let n = c.args.self.now.nodes in
    let own = own_number g.L.CourseObserver.writing (g.L.CourseObserver.knows c.args.listener.now) c.args.self.now c.args.text.now.items c.requires.at in
    (n, with_tick (generated_config n) own.0, own.1, c.in-Ok.ensures.went own.0 own.1 own.2, c.in-Ok.ensures.shown own.0 own.1 own.2)

pub go_on-requires-clause-moves : goal.go_on-requires-clause-moves
go_on-requires-clause-moves g c = ap events_for c.deref.ensures.value ∙ c.in-Ok.ensures.moves

pub returns-in-Ok-clause-went : goal.returns-in-Ok-clause-went
returns-in-Ok-clause-went g c k sent at =
    let n = c.args.self.now.nodes in
    let after = with_tick (generated_config n) k in
    subst (λ (m : ℕ). At g.L.CourseObserver.writing (g.L.CourseObserver.knows c.tick.new.listener) m c.tick.new.self c.tick.new.text.items after sent → nodes_of c.tick.new.self.readings.items ≡ running (ruled (generated_config m) after.history)
    → Went g.L.CourseObserver.writing (g.L.CourseObserver.knows c.go_on.new.listener) m c.go_on.result c.go_on.new.self c.go_on.new.text.items (with_turn (generated_config m) m (with_gives (generated_config m) (with_firings (generated_config m) after))) sent) c.tick.ensures.nodes
    (c.go_on.ensures.went after sent) (c.in-Ok.ensures.went k sent at) (c.in-Ok.ensures.shown k sent at)

pub returns-in-Err-clause-went : goal.returns-in-Err-clause-went
returns-in-Err-clause-went g c k sent at =
    let n = c.args.self.now.nodes in
    went_on g.L.CourseObserver.writing (g.L.CourseObserver.knows c.tick.new.listener) (g.L.CourseObserver.knows c.tick.new.listener) n c.in-Err.halt c.tick.new.self c.tick.new.text.items (with_tick (generated_config n) k) sent (λ x. with_turn (generated_config n) n (with_gives (generated_config n) (with_firings (generated_config n) x))) (after_tick (generated_config n) n) (c.in-Err.ensures.went k sent at)
