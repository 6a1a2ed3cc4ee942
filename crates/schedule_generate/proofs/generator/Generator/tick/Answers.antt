use Rattle.std.proofs.Common.{◌≡◌, ◌+◌, ◌++◌, ◌∷◌, ℕ, List, None, Err, map, refl, ap, sym, subst, ◌∙◌, arith}
use Rattle.std.proofs.lemmas.Result.{err_from_is_err_and}
use Rattle.fabric_terms.specs.Ranges.{Fits}
use Rattle.fabric_terms.specs.declared.event.Event.{Event}
use Rattle.fabric_terms.specs.declared.event.Event.TheVariants.{Tick}
use Rattle.ring_world.specs.Answers.{Refuses, Takes}
use Rattle.unit_rules.specs.Ruled.{ruled}
use Rattle.schedule_generate.specs.Course.{fires, taken, tick_of}
use Rattle.schedule_generate.specs.Goes.{Went}
use Rattle.schedule_generate.specs.Settings.{generated_config}
use Rattle.schedule_generate.specs.Shown.{nodes_of}
use Rattle.schedule_generate.specs.declared.generator.Generator.{Generator}
use Rattle.schedule_generate.specs.declared.course_halt.CourseHalt.{CourseHalt}
use Rattle.schedule_generate.proofs.Due.{for_a_limit}
use Rattle.schedule_generate.proofs.Loops.{own_number}
use Rattle.schedule_generate.proofs.Taking.{refused_on, took_on, wanted_on}
use Rattle.schedule_generate.proofs.Ticking.{nodes_are, readings_are, readings_fit, tick_accepted, tick_after, tick_is}
use Rattle.schedule_generate.proofs.Truly.{tick_due}
use Rattle.schedule_generate.proofs.generator.Generator.tick.Goals as goal

pub tick-requires-clause-fits : goal.tick-requires-clause-fits
tick-requires-clause-fits g c =
    let n = c.args.self.now.nodes in
    let own = own_number g.L.CourseObserver.writing (g.L.CourseObserver.knows c.args.listener.now) c.args.self.now c.args.text.now.items c.requires.at in
    let k = own.0 in
    let goes = own.2.goes in
    let items = c.show_all.new.readings.items in
    let are = readings_are n c.args.self.now k c.clocks.result.now (c.args.self.now.time + 100) items goes (c.clocks.ensures (generated_config n) k.history goes.world) refl c.in_ok-show_all.ensures in
    subst (λ (rs : List (ℕ × ℕ)). Fits (Tick 100 rs)) (sym c.deref-2.ensures.value) (omega arith, readings_fit n c.args.self.now k items c.requires.few c.requires.early goes are)

pub returns-in_ok-ticked-in-Ok-clause-went : goal.returns-in_ok-ticked-in-Ok-clause-went
returns-in_ok-ticked-in-Ok-clause-went g c k sent at =
    let n = c.args.self.now.nodes in
    let w = ruled (generated_config n) k.history in
    let items = c.show_all.new.readings.items in
    let are = readings_are n c.args.self.now k c.clocks.result.now (c.args.self.now.time + 100) items at.goes (c.clocks.ensures (generated_config n) k.history at.goes.world) refl c.in_ok-show_all.ensures in
    let first : Tick 100 c.deref-2.result.now ≡ tick_of w = ap (Tick 100) c.deref-2.ensures.value ∙ tick_is n k items are in
    let second : Tick 100 c.deref-in-Ok.result.now ≡ tick_of w = ap (Tick 100) c.deref-in-Ok.ensures.value ∙ tick_is n k items are in
    let takes : Takes c.tick.new.self (generated_config n) k.history c.args.self.now.line (tick_of w) None =
    subst (λ (e : Event). Takes c.tick.new.self (generated_config n) k.history c.args.self.now.line e None) first (c.in-Ok.ensures.answers (generated_config n) k.history c.args.self.now.line at.goes.world) in
    let told = subst (λ (e : Event). Takes c.tick.new.self (generated_config n) k.history c.args.self.now.line e None → g.L.CourseObserver.knows c.ticked.new.self n ((c.args.self.now.line, e) ∷ k.history) × (c.ticked.new.text.items ≡ c.args.text.now.items ++ (g.L.CourseObserver.writing n).line e)) second (c.in_ok-ticked-in-Ok.ensures n k.history at.known) takes in
    took_on g.L.CourseObserver.writing (g.L.CourseObserver.knows c.args.listener.now) (g.L.CourseObserver.knows c.ticked.new.self) n c.args.self.now (record c.args.self.now { world = c.tick.new.self; line = c.args.self.now.line + 1; time = c.args.self.now.time + 100; readings = c.show_all.new.readings }) c.args.text.now.items c.ticked.new.text.items k sent (tick_of w) None at takes told
    refl refl (tick_after n c.args.self.now k (c.args.self.now.time + 100) at.goes refl) refl refl refl

pub returns-in_ok-ticked-in-Ok-clause-shown : goal.returns-in_ok-ticked-in-Ok-clause-shown
returns-in_ok-ticked-in-Ok-clause-shown g c k sent at =
    let n = c.args.self.now.nodes in
    let w = ruled (generated_config n) k.history in
    let items = c.show_all.new.readings.items in
    let are = readings_are n c.args.self.now k c.clocks.result.now (c.args.self.now.time + 100) items at.goes (c.clocks.ensures (generated_config n) k.history at.goes.world) refl c.in_ok-show_all.ensures in
    let first : Tick 100 c.deref-2.result.now ≡ tick_of w = ap (Tick 100) c.deref-2.ensures.value ∙ tick_is n k items are in
    let takes : Takes c.tick.new.self (generated_config n) k.history c.args.self.now.line (tick_of w) None =
    subst (λ (e : Event). Takes c.tick.new.self (generated_config n) k.history c.args.self.now.line e None) first (c.in-Ok.ensures.answers (generated_config n) k.history c.args.self.now.line at.goes.world) in
    nodes_are n c.args.self.now (record c.args.self.now { world = c.tick.new.self }) k items c.args.self.now.line None at.goes are takes

pub returns-in_ok-ticked-in-Ok-clause-fit : goal.returns-in_ok-ticked-in-Ok-clause-fit
returns-in_ok-ticked-in-Ok-clause-fit g c =
    let n = c.args.self.now.nodes in
    let own = own_number g.L.CourseObserver.writing (g.L.CourseObserver.knows c.args.listener.now) c.args.self.now c.args.text.now.items c.requires.at in
    let k = own.0 in
    let goes = own.2.goes in
    let items = c.show_all.new.readings.items in
    let are = readings_are n c.args.self.now k c.clocks.result.now (c.args.self.now.time + 100) items goes (c.clocks.ensures (generated_config n) k.history goes.world) refl c.in_ok-show_all.ensures in
    readings_fit n c.args.self.now k items c.requires.few c.requires.early goes are

pub halt_of-requires : goal.halt_of-requires
halt_of-requires g c =
    let n = c.args.self.now.nodes in
    let own = own_number g.L.CourseObserver.writing (g.L.CourseObserver.knows c.args.listener.now) c.args.self.now c.args.text.now.items c.requires.at in
    let k = own.0 in
    let goes = own.2.goes in
    let w = ruled (generated_config n) k.history in
    let items = c.show_all.new.readings.items in
    let are = readings_are n c.args.self.now k c.clocks.result.now (c.args.self.now.time + 100) items goes (c.clocks.ensures (generated_config n) k.history goes.world) refl c.in_ok-show_all.ensures in
    let first : Tick 100 c.deref-2.result.now ≡ tick_of w = ap (Tick 100) c.deref-2.ensures.value ∙ tick_is n k items are in
    let refuses : Refuses c.in-Err.refusal (generated_config n) k.history (tick_of w) =
    subst (λ (e : Event). Refuses c.in-Err.refusal (generated_config n) k.history e) first (c.in-Err.ensures.answers (generated_config n) k.history c.args.self.now.line goes.world).refused in
    for_a_limit c.in-Err.refusal (generated_config n) k.history (tick_of w) (tick_due n w goes.clocks) refuses

pub returns-in-Err-clause-went : goal.returns-in-Err-clause-went
returns-in-Err-clause-went g c k sent at =
    let n = c.args.self.now.nodes in
    let w = ruled (generated_config n) k.history in
    let items = c.show_all.new.readings.items in
    let are = readings_are n c.args.self.now k c.clocks.result.now (c.args.self.now.time + 100) items at.goes (c.clocks.ensures (generated_config n) k.history at.goes.world) refl c.in_ok-show_all.ensures in
    let first : Tick 100 c.deref-2.result.now ≡ tick_of w = ap (Tick 100) c.deref-2.ensures.value ∙ tick_is n k items are in
    let fit : Fits (tick_of w) = subst (λ (e : Event). Fits e) (tick_is n k items are) (omega arith, readings_fit n c.args.self.now k items c.requires.few c.requires.early at.goes are) in
    let refuses : Refuses c.in-Err.refusal (generated_config n) k.history (tick_of w) =
    subst (λ (e : Event). Refuses c.in-Err.refusal (generated_config n) k.history e) first (c.in-Err.ensures.answers (generated_config n) k.history c.args.self.now.line at.goes.world).refused in
    let limit = for_a_limit c.in-Err.refusal (generated_config n) k.history (tick_of w) (tick_due n w at.goes.clocks) refuses in
    let b : Generator = record c.args.self.now { world = c.tick.new.self; readings = c.show_all.new.readings } in
    subst (λ (s : CourseHalt). Went g.L.CourseObserver.writing (g.L.CourseObserver.knows c.args.listener.now) n (Err s) b c.args.text.now.items (taken (generated_config n) (tick_of w) k) sent) (sym c.halt_of.ensures)
    (refused_on g.L.CourseObserver.writing (g.L.CourseObserver.knows c.args.listener.now) (g.L.CourseObserver.knows c.args.listener.now) n c.args.self.now b c.args.text.now.items k sent (tick_of w) c.in-Err.refusal limit refl at fit refuses)

-- memory was short before the tick, for which there is room, or for what is written of it

pub returns-in_err-show_all-clause-went : goal.returns-in_err-show_all-clause-went
returns-in_err-show_all-clause-went g c k sent at =
    let n = c.args.self.now.nodes in
    let p = err_from_is_err_and c.from_residual.result c.from_residual.ensures.1 in
    rw (p.1, p.2) (wanted_on n c.args.self.now k (tick_of (ruled (generated_config n) k.history)) at.goes (tick_accepted n c.args.self.now k c.requires.early at.goes (c.requires.room n k at.goes)))

pub returns-in_err-push_firings-clause-went : goal.returns-in_err-push_firings-clause-went
returns-in_err-push_firings-clause-went g c k sent at =
    let n = c.args.self.now.nodes in
    let p = err_from_is_err_and c.from_residual-in_err-push_firings.result c.from_residual-in_err-push_firings.ensures.1 in
    rw (p.1, p.2) (wanted_on n c.args.self.now k (tick_of (ruled (generated_config n) k.history)) at.goes (tick_accepted n c.args.self.now k c.requires.early at.goes (c.requires.room n k at.goes)))

pub returns-in_err-ticked-in-Ok-clause-went : goal.returns-in_err-ticked-in-Ok-clause-went
returns-in_err-ticked-in-Ok-clause-went g c k sent at =
    let n = c.args.self.now.nodes in
    let p = err_from_is_err_and c.from_residual-in_err-ticked-in-Ok.result c.from_residual-in_err-ticked-in-Ok.ensures.1 in
    rw (p.1, p.2) (wanted_on n c.args.self.now k (tick_of (ruled (generated_config n) k.history)) at.goes (tick_accepted n c.args.self.now k c.requires.early at.goes (c.requires.room n k at.goes)))

pub returns-in_ok-ticked-in-Ok-clause-moves : goal.returns-in_ok-ticked-in-Ok-clause-moves
returns-in_ok-ticked-in-Ok-clause-moves g c = c.in_ok-push_firings.ensures ∙ ap (λ (rs : List (ℕ × ℕ)). map fires (nodes_of rs)) c.deref.ensures.value
