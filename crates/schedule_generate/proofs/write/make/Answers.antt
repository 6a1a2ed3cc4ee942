use Rattle.std.proofs.Common.{◌≡◌, ℕ, [], List, All, ap, sym, subst, ◌∙◌, Ok, Err}
use Rattle.fabric_terms.specs.Ranges.{Fits}
use Rattle.fabric_terms.specs.declared.event.Event.{Event}
use Rattle.schedule_generate.specs.Course.{begun, opening, taken_all}
use Rattle.schedule_generate.specs.Due.{AreDue, ShowsTime}
use Rattle.schedule_generate.specs.Goes.{At, WentAll}
use Rattle.schedule_generate.specs.Moves.{events_for}
use Rattle.schedule_generate.specs.Settings.{generated_config}
use Rattle.schedule_generate.specs.Texts.{all_written, generated}
use Rattle.schedule_generate.proofs.Closing.{at_first, end_halts, gone, made_all, nothing_sent, opened, opening_halts, rounds_halt}
use Rattle.schedule_generate.proofs.Loops.{no_failure}
use Rattle.schedule_generate.proofs.Due.{opening_due}
use Rattle.schedule_generate.proofs.Numbers.{opening_fits, opening_shows}
use Rattle.schedule_generate.proofs.write.make.Goals as goal

pub returns-in-Err-clause-made : goal.returns-in-Err-clause-made
returns-in-Err-clause-made g c = nothing_sent (g.K.Sink.held c.args.sink.now) (all_written (g.L.CourseObserver.writing c.args.course.nodes) (generated c.args.course.seed c.args.course.nodes c.args.course.rounds))

pub returns-in-Err-new-clause-made : goal.returns-in-Err-new-clause-made
returns-in-Err-new-clause-made g c = nothing_sent (g.K.Sink.held c.args.sink.now) (all_written (g.L.CourseObserver.writing c.args.course.nodes) (generated c.args.course.seed c.args.course.nodes c.args.course.rounds))

pub returns-in-Err-opening_moves-clause-made : goal.returns-in-Err-opening_moves-clause-made
returns-in-Err-opening_moves-clause-made g c = nothing_sent (g.K.Sink.held c.args.sink.now) (all_written (g.L.CourseObserver.writing c.args.course.nodes) (generated c.args.course.seed c.args.course.nodes c.args.course.rounds))

pub take_all-requires-clause-due : goal.take_all-requires-clause-due
take_all-requires-clause-due g c =
    let n = c.args.course.nodes in
    let first : At g.L.CourseObserver.writing (g.L.CourseObserver.knows c.args.listener.now) n c.in-Ok-new.generator c.begin.new.text.items (begun c.args.course.seed) [] =
    at_first g.L.CourseObserver.writing (g.L.CourseObserver.knows c.args.listener.now) n c.in-Ok-new.generator c.begin.new.text.items c.args.text.now.items c.args.course.seed c.in-Ok-new.ensures.goes c.requires.known c.requires.empty c.in-Ok.ensures in
    let is : events_for c.deref.result.now ≡ opening n = ap events_for c.deref.ensures.value ∙ c.in-Ok-opening_moves.ensures in
    (n, begun c.args.course.seed, [], first, subst (λ (es : List Event). AreDue (generated_config n) [] es) (sym is) (opening_due n c.requires.some))

pub take_all-requires-clause-shows : goal.take_all-requires-clause-shows
take_all-requires-clause-shows g c =
    let n = c.args.course.nodes in
    let is : events_for c.deref.result.now ≡ opening n = ap events_for c.deref.ensures.value ∙ c.in-Ok-opening_moves.ensures in
    subst (λ (t : ℕ). All (ShowsTime t) (events_for c.deref.result.now)) (sym c.in-Ok-new.ensures.time)
    (subst (λ (es : List Event). All (ShowsTime 0) es) (sym is) (opening_shows n))

pub take_all-requires-clause-fit : goal.take_all-requires-clause-fit
take_all-requires-clause-fit g c =
    let n = c.args.course.nodes in
    let is : events_for c.deref.result.now ≡ opening n = ap events_for c.deref.ensures.value ∙ c.in-Ok-opening_moves.ensures in
    subst (λ (es : List Event). All Fits es) (sym is) (opening_fits n c.requires.some c.requires.few)

pub returns-in-Err-take_all-clause-made : goal.returns-in-Err-take_all-clause-made
returns-in-Err-take_all-clause-made g c =
    let n = c.args.course.nodes in
    let first : At g.L.CourseObserver.writing (g.L.CourseObserver.knows c.args.listener.now) n c.in-Ok-new.generator c.begin.new.text.items (begun c.args.course.seed) [] =
    at_first g.L.CourseObserver.writing (g.L.CourseObserver.knows c.args.listener.now) n c.in-Ok-new.generator c.begin.new.text.items c.args.text.now.items c.args.course.seed c.in-Ok-new.ensures.goes c.requires.known c.requires.empty c.in-Ok.ensures in
    let is : events_for c.deref.result.now ≡ opening n = ap events_for c.deref.ensures.value ∙ c.in-Ok-opening_moves.ensures in
    opening_halts g.L.CourseObserver.writing (g.L.CourseObserver.knows c.take_all.new.listener) n c.args.course.rounds c.in-Err-take_all.halt c.take_all.new.self c.take_all.new.text.items (taken_all (generated_config n) (opening n) (begun c.args.course.seed)) (g.K.Sink.held c.args.sink.now)
    (opened g.L.CourseObserver.writing (g.L.CourseObserver.knows c.args.listener.now) (g.L.CourseObserver.knows c.take_all.new.listener) n (Err c.in-Err-take_all.halt) c.in-Ok-new.generator c.take_all.new.self c.begin.new.text.items c.take_all.new.text.items c.args.course.seed (events_for c.deref.result.now) first is c.in-Err-take_all.ensures.went)

pub returns-in-Err-take_all-clause-failed : goal.returns-in-Err-take_all-clause-failed
returns-in-Err-take_all-clause-failed g c stops =
    let n = c.args.course.nodes in
    let first : At g.L.CourseObserver.writing (g.L.CourseObserver.knows c.args.listener.now) n c.in-Ok-new.generator c.begin.new.text.items (begun c.args.course.seed) [] =
    at_first g.L.CourseObserver.writing (g.L.CourseObserver.knows c.args.listener.now) n c.in-Ok-new.generator c.begin.new.text.items c.args.text.now.items c.args.course.seed c.in-Ok-new.ensures.goes c.requires.known c.requires.empty c.in-Ok.ensures in
    let is : events_for c.deref.result.now ≡ opening n = ap events_for c.deref.ensures.value ∙ c.in-Ok-opening_moves.ensures in
    absurd
    (no_failure g.L.CourseObserver.writing (g.L.CourseObserver.knows c.take_all.new.listener) n c.in-Err-take_all.halt c.take_all.new.self c.take_all.new.text.items (taken_all (generated_config n) (opening n) (begun c.args.course.seed)) [] stops
    (opened g.L.CourseObserver.writing (g.L.CourseObserver.knows c.args.listener.now) (g.L.CourseObserver.knows c.take_all.new.listener) n (Err c.in-Err-take_all.halt) c.in-Ok-new.generator c.take_all.new.self c.begin.new.text.items c.take_all.new.text.items c.args.course.seed (events_for c.deref.result.now) first is c.in-Err-take_all.ensures.went))

pub go_rounds-requires-clause-at : goal.go_rounds-requires-clause-at
go_rounds-requires-clause-at g c =
    let n = c.args.course.nodes in
    let first : At g.L.CourseObserver.writing (g.L.CourseObserver.knows c.args.listener.now) n c.in-Ok-new.generator c.begin.new.text.items (begun c.args.course.seed) [] =
    at_first g.L.CourseObserver.writing (g.L.CourseObserver.knows c.args.listener.now) n c.in-Ok-new.generator c.begin.new.text.items c.args.text.now.items c.args.course.seed c.in-Ok-new.ensures.goes c.requires.known c.requires.empty c.in-Ok.ensures in
    let is : events_for c.deref.result.now ≡ opening n = ap events_for c.deref.ensures.value ∙ c.in-Ok-opening_moves.ensures in
    (n, taken_all (generated_config n) (opening n) (begun c.args.course.seed), [], opened g.L.CourseObserver.writing (g.L.CourseObserver.knows c.args.listener.now) (g.L.CourseObserver.knows c.take_all.new.listener) n (Ok tt) c.in-Ok-new.generator c.take_all.new.self c.begin.new.text.items c.take_all.new.text.items c.args.course.seed (events_for c.deref.result.now) first is c.in-Ok-take_all.ensures.went)

pub returns-in-Err-go_rounds-clause-made : goal.returns-in-Err-go_rounds-clause-made
returns-in-Err-go_rounds-clause-made g c =
    let n = c.args.course.nodes in
    let first : At g.L.CourseObserver.writing (g.L.CourseObserver.knows c.args.listener.now) n c.in-Ok-new.generator c.begin.new.text.items (begun c.args.course.seed) [] =
    at_first g.L.CourseObserver.writing (g.L.CourseObserver.knows c.args.listener.now) n c.in-Ok-new.generator c.begin.new.text.items c.args.text.now.items c.args.course.seed c.in-Ok-new.ensures.goes c.requires.known c.requires.empty c.in-Ok.ensures in
    let is : events_for c.deref.result.now ≡ opening n = ap events_for c.deref.ensures.value ∙ c.in-Ok-opening_moves.ensures in
    let after : At g.L.CourseObserver.writing (g.L.CourseObserver.knows c.take_all.new.listener) n c.take_all.new.self c.take_all.new.text.items (taken_all (generated_config n) (opening n) (begun c.args.course.seed)) [] =
    opened g.L.CourseObserver.writing (g.L.CourseObserver.knows c.args.listener.now) (g.L.CourseObserver.knows c.take_all.new.listener) n (Ok tt) c.in-Ok-new.generator c.take_all.new.self c.begin.new.text.items c.take_all.new.text.items c.args.course.seed (events_for c.deref.result.now) first is c.in-Ok-take_all.ensures.went in
    rounds_halt g.L.CourseObserver.writing (g.L.CourseObserver.knows c.go_rounds.new.listener) n c.in-Err-go_rounds.halt c.go_rounds.new.generator c.go_rounds.new.text.items (generated c.args.course.seed c.args.course.nodes c.args.course.rounds) (g.K.Sink.held c.args.sink.now) (g.K.Sink.held c.go_rounds.new.sink)
    (gone g.L.CourseObserver.writing (g.L.CourseObserver.knows c.take_all.new.listener) (g.L.CourseObserver.knows c.go_rounds.new.listener) n c.args.course.rounds (Err c.in-Err-go_rounds.halt) c.take_all.new.self c.go_rounds.new.generator c.take_all.new.text.items c.go_rounds.new.text.items (taken_all (generated_config n) (opening n) (begun c.args.course.seed)) (g.K.Sink.held c.args.sink.now) (g.K.Sink.held c.go_rounds.new.sink) after c.in-Err-go_rounds.ensures.went)

pub returns-clause-made : goal.returns-clause-made
returns-clause-made g c =
    let n = c.args.course.nodes in
    let first : At g.L.CourseObserver.writing (g.L.CourseObserver.knows c.args.listener.now) n c.in-Ok-new.generator c.begin.new.text.items (begun c.args.course.seed) [] =
    at_first g.L.CourseObserver.writing (g.L.CourseObserver.knows c.args.listener.now) n c.in-Ok-new.generator c.begin.new.text.items c.args.text.now.items c.args.course.seed c.in-Ok-new.ensures.goes c.requires.known c.requires.empty c.in-Ok.ensures in
    let is : events_for c.deref.result.now ≡ opening n = ap events_for c.deref.ensures.value ∙ c.in-Ok-opening_moves.ensures in
    let after : At g.L.CourseObserver.writing (g.L.CourseObserver.knows c.take_all.new.listener) n c.take_all.new.self c.take_all.new.text.items (taken_all (generated_config n) (opening n) (begun c.args.course.seed)) [] =
    opened g.L.CourseObserver.writing (g.L.CourseObserver.knows c.args.listener.now) (g.L.CourseObserver.knows c.take_all.new.listener) n (Ok tt) c.in-Ok-new.generator c.take_all.new.self c.begin.new.text.items c.take_all.new.text.items c.args.course.seed (events_for c.deref.result.now) first is c.in-Ok-take_all.ensures.went in
    end_halts g.L.CourseObserver.writing (g.L.CourseObserver.knows c.go_rounds.new.listener) n c.go_rounds.new.generator c.go_rounds.new.text.items c.end.new.text.items (generated c.args.course.seed c.args.course.nodes c.args.course.rounds) (g.K.Sink.held c.args.sink.now) (g.K.Sink.held c.go_rounds.new.sink) tt
    (gone g.L.CourseObserver.writing (g.L.CourseObserver.knows c.take_all.new.listener) (g.L.CourseObserver.knows c.go_rounds.new.listener) n c.args.course.rounds (Ok tt) c.take_all.new.self c.go_rounds.new.generator c.take_all.new.text.items c.go_rounds.new.text.items (taken_all (generated_config n) (opening n) (begun c.args.course.seed)) (g.K.Sink.held c.args.sink.now) (g.K.Sink.held c.go_rounds.new.sink) after c.in-Ok-go_rounds.ensures.went)

pub returns-in-Ok-end-clause-made : goal.returns-in-Ok-end-clause-made
returns-in-Ok-end-clause-made g c =
    let n = c.args.course.nodes in
    let first : At g.L.CourseObserver.writing (g.L.CourseObserver.knows c.args.listener.now) n c.in-Ok-new.generator c.begin.new.text.items (begun c.args.course.seed) [] =
    at_first g.L.CourseObserver.writing (g.L.CourseObserver.knows c.args.listener.now) n c.in-Ok-new.generator c.begin.new.text.items c.args.text.now.items c.args.course.seed c.in-Ok-new.ensures.goes c.requires.known c.requires.empty c.in-Ok.ensures in
    let is : events_for c.deref.result.now ≡ opening n = ap events_for c.deref.ensures.value ∙ c.in-Ok-opening_moves.ensures in
    let after : At g.L.CourseObserver.writing (g.L.CourseObserver.knows c.take_all.new.listener) n c.take_all.new.self c.take_all.new.text.items (taken_all (generated_config n) (opening n) (begun c.args.course.seed)) [] =
    opened g.L.CourseObserver.writing (g.L.CourseObserver.knows c.args.listener.now) (g.L.CourseObserver.knows c.take_all.new.listener) n (Ok tt) c.in-Ok-new.generator c.take_all.new.self c.begin.new.text.items c.take_all.new.text.items c.args.course.seed (events_for c.deref.result.now) first is c.in-Ok-take_all.ensures.went in
    let all : WentAll g.L.CourseObserver.writing (g.L.CourseObserver.knows c.go_rounds.new.listener) n (Ok tt) c.go_rounds.new.generator c.go_rounds.new.text.items (generated c.args.course.seed c.args.course.nodes c.args.course.rounds) (g.K.Sink.held c.args.sink.now) (g.K.Sink.held c.go_rounds.new.sink) =
    gone g.L.CourseObserver.writing (g.L.CourseObserver.knows c.take_all.new.listener) (g.L.CourseObserver.knows c.go_rounds.new.listener) n c.args.course.rounds (Ok tt) c.take_all.new.self c.go_rounds.new.generator c.take_all.new.text.items c.go_rounds.new.text.items (taken_all (generated_config n) (opening n) (begun c.args.course.seed)) (g.K.Sink.held c.args.sink.now) (g.K.Sink.held c.go_rounds.new.sink) after c.in-Ok-go_rounds.ensures.went in
    made_all g.L.CourseObserver.writing (g.L.CourseObserver.knows c.go_rounds.new.listener) n c.go_rounds.new.generator c.go_rounds.new.text.items c.end.new.text.items (generated c.args.course.seed c.args.course.nodes c.args.course.rounds) (g.K.Sink.held c.args.sink.now) (g.K.Sink.held c.go_rounds.new.sink) tt all
    (c.in-Ok-end.ensures n (generated c.args.course.seed c.args.course.nodes c.args.course.rounds).history all.1 all.0.world)
