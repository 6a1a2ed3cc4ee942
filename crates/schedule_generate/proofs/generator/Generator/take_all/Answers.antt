use Rattle.std.proofs.Common.{◌≡◌, ℕ, List, None, take, Err, ap, sym, subst, ◌∙◌, get_or}
use Rattle.std.proofs.lemmas.List.{take_all}
use Rattle.fabric_terms.specs.Ranges.{Fits}
use Rattle.schedule_generate.specs.Course.{Course, taken, taken_all}
use Rattle.schedule_generate.specs.Due.{ShowsTime}
use Rattle.schedule_generate.specs.Goes.{At, Went}
use Rattle.schedule_generate.specs.Moves.{event_for, events_for}
use Rattle.schedule_generate.specs.Settings.{generated_config}
use Rattle.schedule_generate.specs.declared.generator.Generator.{Generator}
use Rattle.schedule_generate.specs.declared.moves.Move.{Move}
use Rattle.schedule_generate.specs.declared.moves.Move.TheVariants.{Start}
use Rattle.schedule_generate.proofs.Due.{due_at}
use Rattle.schedule_generate.proofs.Loops.{all_halt, all_more, own_due}
use Rattle.schedule_generate.proofs.Numbers.{holds_at}
use Rattle.schedule_generate.proofs.generator.Generator.take_all.Goals as goal

pub take-requires-clause-fits : goal.take-requires-clause-fits
take-requires-clause-fits g c = holds_at Fits c.args.moves.now c.loop-i.i (Start 0 None) c.requires.fit c.loop-i-test.true

pub take-requires-clause-shows : goal.take-requires-clause-shows
take-requires-clause-shows g c =
    let still : c.loop-i.self.time ≡ c.args.self.now.time = ap (λ (a : Generator). a.time) c.loop-i.invariant.rest in
    subst (λ (t : ℕ). ShowsTime t (event_for (get_or c.args.moves.now c.loop-i.i (Start 0 None)))) (sym still)
    (holds_at (ShowsTime c.args.self.now.time) c.args.moves.now c.loop-i.i (Start 0 None) c.requires.shows c.loop-i-test.true)

pub take-requires-clause-due : goal.take-requires-clause-due
take-requires-clause-due g c =
    let n = c.args.self.now.nodes in
    let i = c.loop-i.i in
    let d : Move = Start 0 None in
    let moves = c.args.moves.now in
    let own = own_due g.L.CourseObserver.writing (g.L.CourseObserver.knows c.args.listener.now) c.args.self.now c.args.text.now.items (events_for moves) c.requires.due in
    let here = c.loop-i.invariant.went own.0 own.1 own.2 in
    (n, taken_all (generated_config n) (events_for (take i moves)) own.0, own.1, here, (due_at (generated_config n) moves i d own.0 c.loop-i-test.true own.3 own.2.goes.going here.goes.going, tt))

pub returns-in-Err-clause-went : goal.returns-in-Err-clause-went
returns-in-Err-clause-went g c k sent at =
    let n = c.args.self.now.nodes in
    let i = c.loop-i.i in
    let d : Move = Start 0 None in
    let moves = c.args.moves.now in
    let same : c.loop-i.self.nodes ≡ n = ap (λ (a : Generator). a.nodes) c.loop-i.invariant.rest in
    let before = taken_all (generated_config n) (events_for (take i moves)) k in
    let here : Went g.L.CourseObserver.writing (g.L.CourseObserver.knows c.take.new.listener) n (Err c.in-Err.halt) c.take.new.self c.take.new.text.items (taken (generated_config n) (event_for (get_or moves i d)) before) sent =
    subst (λ (m : ℕ). At g.L.CourseObserver.writing (g.L.CourseObserver.knows c.loop-i.listener) m c.loop-i.self c.loop-i.text.items before sent → Went g.L.CourseObserver.writing (g.L.CourseObserver.knows c.take.new.listener) m (Err c.in-Err.halt) c.take.new.self c.take.new.text.items (taken (generated_config m) (event_for (get_or moves i d)) before) sent) same
    (c.in-Err.ensures.went before sent) (c.loop-i.invariant.went k sent at) in
    all_halt g.L.CourseObserver.writing (g.L.CourseObserver.knows c.take.new.listener) (g.L.CourseObserver.knows c.take.new.listener) n c.in-Err.halt c.take.new.self c.take.new.text.items moves i d k sent c.loop-i-test.true here

pub loop-i-preserved : goal.loop-i-preserved
loop-i-preserved g c =
    let n = c.args.self.now.nodes in
    let i = c.loop-i.i in
    let d : Move = Start 0 None in
    let moves = c.args.moves.now in
    let same : c.loop-i.self.nodes ≡ n = ap (λ (a : Generator). a.nodes) c.loop-i.invariant.rest in
    record {
      went = λ k sent at.
          let before = taken_all (generated_config n) (events_for (take i moves)) k in
          let here : At g.L.CourseObserver.writing (g.L.CourseObserver.knows c.take.new.listener) n c.take.new.self c.take.new.text.items (taken (generated_config n) (event_for (get_or moves i d)) before) sent =
          subst (λ (m : ℕ). At g.L.CourseObserver.writing (g.L.CourseObserver.knows c.loop-i.listener) m c.loop-i.self c.loop-i.text.items before sent → At g.L.CourseObserver.writing (g.L.CourseObserver.knows c.take.new.listener) m c.take.new.self c.take.new.text.items (taken (generated_config m) (event_for (get_or moves i d)) before) sent) same
          (c.in-Ok.ensures.went before sent) (c.loop-i.invariant.went k sent at) in
          subst (λ (x : Course). At g.L.CourseObserver.writing (g.L.CourseObserver.knows c.take.new.listener) n c.take.new.self c.take.new.text.items x sent) (sym (all_more (generated_config n) moves i d k c.loop-i-test.true)) here;
      rest = c.take.ensures.rest ∙ ap (λ (a : Generator). record a { world = c.take.new.self.world; line = c.take.new.self.line }) c.loop-i.invariant.rest;
    }

pub returns-clause-went : goal.returns-clause-went
returns-clause-went g c k sent at =
    let n = c.args.self.now.nodes in
    subst (λ (ms : List Move). At g.L.CourseObserver.writing (g.L.CourseObserver.knows c.loop-i.listener) n c.loop-i.self c.loop-i.text.items (taken_all (generated_config n) (events_for ms) k) sent) (take_all c.loop-i.i c.args.moves.now c.loop-i-test.false) (c.loop-i.invariant.went k sent at)
