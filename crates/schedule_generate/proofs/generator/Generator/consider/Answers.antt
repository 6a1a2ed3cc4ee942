use Rattle.std.proofs.Common.{◌≡◌, ◌+◌, ℕ, Ok, refl, ap, sym, subst, ◌∙◌}
use Rattle.rand_pcg.specs.Lcg.{Lcg}
use Rattle.rand_pcg.specs.Pcg.{pcg32}
use Rattle.unit_rules.specs.Ruled.{ruled}
use Rattle.schedule_generate.specs.Course.{Course}
use Rattle.schedule_generate.specs.Goes.{Went}
use Rattle.schedule_generate.specs.Settings.{generated_config}
use Rattle.schedule_generate.specs.declared.generator.Generator.{Generator}
use Rattle.schedule_generate.proofs.Due.{give_due, twice_due}
use Rattle.schedule_generate.proofs.Loops.{own_more}
use Rattle.schedule_generate.proofs.Frames.{considered_on, frame_lost, frame_once, frame_twice, next_sent}
use Rattle.schedule_generate.proofs.generator.Generator.consider.Goals as goal

pub returns-then-draw-eq0-clause-went : goal.returns-then-draw-eq0-clause-went
returns-then-draw-eq0-clause-went g c k sent at =
    let n = c.args.self.now.nodes in
    let draw = c.next_word-draw.result in
    let b : Generator = record c.args.self.now { considered = c.args.before + 1; draws = c.next_word-draw.new.self } in
    let word : (pcg32 k.draws).0 ≡ draw = ap (λ (d : Lcg). (pcg32 d).0) (sym at.goes.draws) ∙ sym (ap (λ (p : ℕ × Lcg). p.0) c.next_word-draw.ensures) in
    let on = considered_on g.L.CourseObserver.writing (g.L.CourseObserver.knows c.args.listener.now) n c.args.self.now b c.args.text.now.items c.args.before k sent at c.requires.before refl (ap (λ (p : ℕ × Lcg). p.1) c.next_word-draw.ensures) in
    subst (λ (x : Course). Went g.L.CourseObserver.writing (g.L.CourseObserver.knows c.args.listener.now) n (Ok tt) b c.args.text.now.items x sent) (sym (frame_lost (generated_config n) k draw word c.if-draw-eq0.true)) on

pub take_all-requires-clause-due : goal.take_all-requires-clause-due
take_all-requires-clause-due g c =
    let n = c.args.self.now.nodes in
    let own = own_more g.L.CourseObserver.writing (g.L.CourseObserver.knows c.args.listener.now) c.args.self.now c.args.text.now.items c.args.before c.requires.at in
    let k = own.0 in
    let b : Generator = record c.args.self.now { considered = c.args.before + 1; draws = c.next_word-draw.new.self } in
    let sent = next_sent c.args.before c.from.result (ruled (generated_config n) k.history).count c.from.ensures own.3 in
    (n, record k { considered = k.considered + 1; draws = (pcg32 k.draws).1 }, own.1, considered_on g.L.CourseObserver.writing (g.L.CourseObserver.knows c.args.listener.now) n c.args.self.now b c.args.text.now.items c.args.before k own.1 own.2 c.requires.before refl (ap (λ (p : ℕ × Lcg). p.1) c.next_word-draw.ensures), twice_due (generated_config n) k.history c.from.result sent.0 sent.1)

pub take-requires-clause-due : goal.take-requires-clause-due
take-requires-clause-due g c =
    let n = c.args.self.now.nodes in
    let own = own_more g.L.CourseObserver.writing (g.L.CourseObserver.knows c.args.listener.now) c.args.self.now c.args.text.now.items c.args.before c.requires.at in
    let k = own.0 in
    let b : Generator = record c.args.self.now { considered = c.args.before + 1; draws = c.next_word-draw.new.self } in
    let sent = next_sent c.args.before c.from.result (ruled (generated_config n) k.history).count c.from.ensures own.3 in
    (n, record k { considered = k.considered + 1; draws = (pcg32 k.draws).1 }, own.1, considered_on g.L.CourseObserver.writing (g.L.CourseObserver.knows c.args.listener.now) n c.args.self.now b c.args.text.now.items c.args.before k own.1 own.2 c.requires.before refl (ap (λ (p : ℕ × Lcg). p.1) c.next_word-draw.ensures), (give_due (generated_config n) (ruled (generated_config n) k.history) c.from.result sent.0 sent.1, tt))

pub returns-then-draw-eq1-clause-went : goal.returns-then-draw-eq1-clause-went
returns-then-draw-eq1-clause-went g c k sent at =
    let n = c.args.self.now.nodes in
    let draw = c.next_word-draw.result in
    let now : Course = record k { considered = k.considered + 1; draws = (pcg32 k.draws).1 } in
    let b : Generator = record c.args.self.now { considered = c.args.before + 1; draws = c.next_word-draw.new.self } in
    let word : (pcg32 k.draws).0 ≡ draw = ap (λ (d : Lcg). (pcg32 d).0) (sym at.goes.draws) ∙ sym (ap (λ (p : ℕ × Lcg). p.0) c.next_word-draw.ensures) in
    let number : c.from.result ≡ k.considered + 1 = c.from.ensures ∙ ap (λ (j : ℕ). j + 1) (c.requires.before ∙ at.goes.considered) in
    let on = considered_on g.L.CourseObserver.writing (g.L.CourseObserver.knows c.args.listener.now) n c.args.self.now b c.args.text.now.items c.args.before k sent at c.requires.before refl (ap (λ (p : ℕ × Lcg). p.1) c.next_word-draw.ensures) in
    subst (λ (x : Course). Went g.L.CourseObserver.writing (g.L.CourseObserver.knows c.take_all.new.listener) n c.take_all.result c.take_all.new.self c.take_all.new.text.items x sent) (sym (frame_twice (generated_config n) k draw c.from.result word c.if-draw-eq1.true number)) (c.take_all.ensures.went now sent on)

pub returns-then-draw-eq1-clause-counted : goal.returns-then-draw-eq1-clause-counted
returns-then-draw-eq1-clause-counted g c = ap (λ (a : Generator). a.considered) c.take_all.ensures.rest

pub returns-then-draw-eq1-clause-still : goal.returns-then-draw-eq1-clause-still
returns-then-draw-eq1-clause-still g c = ap (λ (a : Generator). a.time) c.take_all.ensures.rest

pub returns-then-draw-eq1-clause-nodes : goal.returns-then-draw-eq1-clause-nodes
returns-then-draw-eq1-clause-nodes g c = ap (λ (a : Generator). a.nodes) c.take_all.ensures.rest

pub returns-clause-went : goal.returns-clause-went
returns-clause-went g c k sent at =
    let n = c.args.self.now.nodes in
    let draw = c.next_word-draw.result in
    let now : Course = record k { considered = k.considered + 1; draws = (pcg32 k.draws).1 } in
    let b : Generator = record c.args.self.now { considered = c.args.before + 1; draws = c.next_word-draw.new.self } in
    let word : (pcg32 k.draws).0 ≡ draw = ap (λ (d : Lcg). (pcg32 d).0) (sym at.goes.draws) ∙ sym (ap (λ (p : ℕ × Lcg). p.0) c.next_word-draw.ensures) in
    let number : c.from.result ≡ k.considered + 1 = c.from.ensures ∙ ap (λ (j : ℕ). j + 1) (c.requires.before ∙ at.goes.considered) in
    let on = considered_on g.L.CourseObserver.writing (g.L.CourseObserver.knows c.args.listener.now) n c.args.self.now b c.args.text.now.items c.args.before k sent at c.requires.before refl (ap (λ (p : ℕ × Lcg). p.1) c.next_word-draw.ensures) in
    subst (λ (x : Course). Went g.L.CourseObserver.writing (g.L.CourseObserver.knows c.take.new.listener) n c.take.result c.take.new.self c.take.new.text.items x sent) (sym (frame_once (generated_config n) k draw c.from.result word c.if-draw-eq0.false c.if-draw-eq1.false number)) (c.take.ensures.went now sent on)

pub returns-clause-counted : goal.returns-clause-counted
returns-clause-counted g c = ap (λ (a : Generator). a.considered) c.take.ensures.rest

pub returns-clause-still : goal.returns-clause-still
returns-clause-still g c = ap (λ (a : Generator). a.time) c.take.ensures.rest

pub returns-clause-nodes : goal.returns-clause-nodes
returns-clause-nodes g c = ap (λ (a : Generator). a.nodes) c.take.ensures.rest
