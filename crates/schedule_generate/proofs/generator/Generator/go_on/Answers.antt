use Rattle.std.proofs.Common.{◌≡◌, List, All, Err, map, ap, sym, subst, ◌∙◌}
use Rattle.fabric_terms.specs.Ranges.{Fits}
use Rattle.fabric_terms.specs.declared.event.Event.{Event}
use Rattle.unit_rules.specs.Ruled.{ruled}
use Rattle.schedule_generate.specs.Course.{firings, fires, taken_all, with_firings, with_gives, with_turn}
use Rattle.schedule_generate.specs.Due.{AreDue, ShowsTime}
use Rattle.schedule_generate.specs.Goes.{Went}
use Rattle.schedule_generate.specs.Moves.{events_for}
use Rattle.schedule_generate.specs.Settings.{generated_config}
use Rattle.schedule_generate.specs.Shown.{nodes_of}
use Rattle.schedule_generate.proofs.Due.{firings_due}
use Rattle.schedule_generate.proofs.Frames.{fires_fit, fires_show}
use Rattle.schedule_generate.proofs.Loops.{own_shown}
use Rattle.schedule_generate.proofs.Steps.{after_firings, went_on}
use Rattle.schedule_generate.proofs.generator.Generator.go_on.Goals as goal

pub take_all-requires-clause-fit : goal.take_all-requires-clause-fit
take_all-requires-clause-fit g c =
    let items = c.args.self.now.readings.items in
    let is : events_for c.args.moves.now ≡ map fires (nodes_of items) = c.requires.moves in
    subst (λ (es : List Event). All Fits es) (sym is) (fires_fit items c.requires.fit.1)

pub take_all-requires-clause-shows : goal.take_all-requires-clause-shows
take_all-requires-clause-shows g c =
    let items = c.args.self.now.readings.items in
    let is : events_for c.args.moves.now ≡ map fires (nodes_of items) = c.requires.moves in
    subst (λ (es : List Event). All (ShowsTime c.args.self.now.time) es) (sym is) (fires_show c.args.self.now.time (nodes_of items))

pub take_all-requires-clause-due : goal.take_all-requires-clause-due
take_all-requires-clause-due g c =
    let n = c.args.self.now.nodes in
    let items = c.args.self.now.readings.items in
    let own = own_shown g.L.CourseObserver.writing (g.L.CourseObserver.knows c.args.listener.now) c.args.self.now c.args.text.now.items c.requires.at in
    let is : events_for c.args.moves.now ≡ firings (ruled (generated_config n) own.0.history) = c.requires.moves ∙ ap (map fires) own.3 in
    (n, own.0, own.1, own.2, subst (λ (es : List Event). AreDue (generated_config n) own.0.history es) (sym is) (firings_due (generated_config n) own.0.history))

pub give_and_turn-requires-clause-at : goal.give_and_turn-requires-clause-at
give_and_turn-requires-clause-at g c =
    let n = c.args.self.now.nodes in
    let own = own_shown g.L.CourseObserver.writing (g.L.CourseObserver.knows c.args.listener.now) c.args.self.now c.args.text.now.items c.requires.at in
    (n, taken_all (generated_config n) (events_for c.args.moves.now) own.0, own.1, c.in-Ok.ensures.went own.0 own.1 own.2)

pub returns-in-Err-clause-went : goal.returns-in-Err-clause-went
returns-in-Err-clause-went g c k sent at runs =
    let n = c.args.self.now.nodes in
    let is : events_for c.args.moves.now ≡ firings (ruled (generated_config n) k.history) = c.requires.moves ∙ ap (map fires) runs in
    let here : Went g.L.CourseObserver.writing (g.L.CourseObserver.knows c.take_all.new.listener) n (Err c.in-Err.halt) c.take_all.new.self c.take_all.new.text.items (with_firings (generated_config n) k) sent =
    subst (λ (es : List Event). Went g.L.CourseObserver.writing (g.L.CourseObserver.knows c.take_all.new.listener) n (Err c.in-Err.halt) c.take_all.new.self c.take_all.new.text.items (taken_all (generated_config n) es k) sent) is (c.in-Err.ensures.went k sent at) in
    went_on g.L.CourseObserver.writing (g.L.CourseObserver.knows c.take_all.new.listener) (g.L.CourseObserver.knows c.take_all.new.listener) n c.in-Err.halt c.take_all.new.self c.take_all.new.text.items (with_firings (generated_config n) k) sent (λ x. with_turn (generated_config n) n (with_gives (generated_config n) x)) (after_firings (generated_config n) n) here
