use Rattle.std.proofs.Common.{◌+◌, ◌∷◌, [], refl, sym, subst, ◌∙◌, Err}
use Rattle.std.proofs.lemmas.Result.{err_from_is_err_and}
use Rattle.fabric_terms.specs.declared.event.Event.{Event}
use Rattle.ring_world.specs.Answers.{Refuses, Takes}
use Rattle.unit_rules.specs.Ruled.{ruled}
use Rattle.schedule_generate.specs.Course.{taken}
use Rattle.schedule_generate.specs.Goes.{Went}
use Rattle.schedule_generate.specs.Moves.{event_for}
use Rattle.schedule_generate.specs.Settings.{generated_config}
use Rattle.schedule_generate.specs.declared.course_halt.CourseHalt.{CourseHalt}
use Rattle.schedule_generate.proofs.Due.{for_a_limit}
use Rattle.schedule_generate.proofs.Loops.{own_due}
use Rattle.schedule_generate.proofs.Taking.{names_true, no_tick, refused_on, time_still, took_on, wanted_on}
use Rattle.schedule_generate.proofs.generator.Generator.take.Goals as goal

pub returns-in_ok-took-in-Ok-clause-went : goal.returns-in_ok-took-in-Ok-clause-went
returns-in_ok-took-in-Ok-clause-went g c k sent at =
    let n = c.args.self.now.nodes in
    let e = event_for c.args.made in
    let world = ruled (generated_config n) k.history in
    let takes : Takes c.apply.new.self (generated_config n) k.history c.args.self.now.line e c.in-Ok.acted =
    subst (λ (d : Event). Takes c.apply.new.self (generated_config n) k.history c.args.self.now.line d c.in-Ok.acted) c.event.ensures (c.in-Ok.ensures (generated_config n) k.history at.goes.world) in
    let again : Takes c.recycle.new.self (generated_config n) k.history c.args.self.now.line e c.in-Ok.acted =
    record { accepted = takes.accepted; stands = c.recycle.ensures.stands (generated_config n) ((c.args.self.now.line, e) ∷ k.history) takes.stands; entry = takes.entry; seen = takes.seen } in
    took_on g.L.CourseObserver.writing (g.L.CourseObserver.knows c.args.listener.now) (g.L.CourseObserver.knows c.took.new.self) n c.args.self.now (record c.args.self.now { world = c.recycle.new.self; line = c.args.self.now.line + 1 }) c.args.text.now.items c.took.new.text.items k sent e c.in-Ok.acted at again
    (c.in_ok-took-in-Ok.ensures n k.history at.known takes) refl refl (at.goes.time ∙ sym (time_still (generated_config n) world e (no_tick c.args.made))) refl refl (names_true n c.args.self.now k c.args.made at.goes c.requires.shows)

-- memory was short for what is written of the event
pub returns-in_err-took-in-Ok-clause-went : goal.returns-in_err-took-in-Ok-clause-went
returns-in_err-took-in-Ok-clause-went g c k sent at =
    let n = c.args.self.now.nodes in
    let e = event_for c.args.made in
    let takes : Takes c.apply.new.self (generated_config n) k.history c.args.self.now.line e c.in-Ok.acted =
    subst (λ (d : Event). Takes c.apply.new.self (generated_config n) k.history c.args.self.now.line d c.in-Ok.acted) c.event.ensures (c.in-Ok.ensures (generated_config n) k.history at.goes.world) in
    let p = err_from_is_err_and c.from_residual.result c.from_residual.ensures.1 in
    rw (p.1, p.2) (wanted_on n c.args.self.now k e at.goes takes.accepted)

pub halt_of-requires : goal.halt_of-requires
halt_of-requires g c =
    let n = c.args.self.now.nodes in
    let e = event_for c.args.made in
    let own = own_due g.L.CourseObserver.writing (g.L.CourseObserver.knows c.args.listener.now) c.args.self.now c.args.text.now.items (e ∷ []) c.requires.due in
    let refuses : Refuses c.in-Err.refusal (generated_config n) own.0.history e =
    subst (λ (d : Event). Refuses c.in-Err.refusal (generated_config n) own.0.history d) c.event.ensures (c.in-Err.ensures (generated_config n) own.0.history own.2.goes.world).refused in
    for_a_limit c.in-Err.refusal (generated_config n) own.0.history e own.3.0 refuses

pub returns-in-Err-clause-went : goal.returns-in-Err-clause-went
returns-in-Err-clause-went g c k sent at =
    let n = c.args.self.now.nodes in
    let e = event_for c.args.made in
    let own = own_due g.L.CourseObserver.writing (g.L.CourseObserver.knows c.args.listener.now) c.args.self.now c.args.text.now.items (e ∷ []) c.requires.due in
    let limit = for_a_limit c.in-Err.refusal (generated_config n) own.0.history e own.3.0 (subst (λ (d : Event). Refuses c.in-Err.refusal (generated_config n) own.0.history d) c.event.ensures (c.in-Err.ensures (generated_config n) own.0.history own.2.goes.world).refused) in
    let refuses : Refuses c.in-Err.refusal (generated_config n) k.history e =
    subst (λ (d : Event). Refuses c.in-Err.refusal (generated_config n) k.history d) c.event.ensures (c.in-Err.ensures (generated_config n) k.history at.goes.world).refused in
    subst (λ (s : CourseHalt). Went g.L.CourseObserver.writing (g.L.CourseObserver.knows c.args.listener.now) n (Err s) (record c.args.self.now { world = c.apply.new.self }) c.args.text.now.items (taken (generated_config n) e k) sent) (sym c.halt_of.ensures)
    (refused_on g.L.CourseObserver.writing (g.L.CourseObserver.knows c.args.listener.now) (g.L.CourseObserver.knows c.args.listener.now) n c.args.self.now (record c.args.self.now { world = c.apply.new.self }) c.args.text.now.items k sent e c.in-Err.refusal limit refl at c.requires.fits refuses)
