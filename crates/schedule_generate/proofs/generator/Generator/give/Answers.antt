use Rattle.std.proofs.Common.{◌≡◌, ◌+◌, ◌-◌, ◌<◌, ◌≤◌, ℕ, suc, Err, refl, sym, subst, ◌∙◌, arith, ⊎_elim, inl, inr}
use Rattle.unit_rules.specs.Ruled.{ruled}
use Rattle.schedule_generate.specs.Course.{considered_next, considers}
use Rattle.schedule_generate.specs.Goes.{At, Went}
use Rattle.schedule_generate.specs.Settings.{generated_config}
use Rattle.schedule_generate.proofs.Due.{considers_sent}
use Rattle.schedule_generate.proofs.Loops.{considers_halt, own_number}
use Rattle.schedule_generate.proofs.generator.Generator.give.Goals as goal

pub loop-before-init : goal.loop-before-init
loop-before-init g c =
    let n = c.args.self.now.nodes in
    let none : c.args.self.now.considered - c.args.self.now.considered ≡ 0 = omega arith in
    record {
      went = λ k sent at. subst (λ (j : ℕ). At g.L.CourseObserver.writing (g.L.CourseObserver.knows c.args.listener.now) n c.args.self.now c.args.text.now.items (considers (generated_config n) j k) sent) (sym none) at;
      ends = inl refl;
      counted = refl;
      still = refl;
      nodes = refl;
    }

pub consider-requires-clause-at : goal.consider-requires-clause-at
consider-requires-clause-at g c =
    let n = c.args.self.now.nodes in
    let own = own_number g.L.CourseObserver.writing (g.L.CourseObserver.knows c.args.listener.now) c.args.self.now c.args.text.now.items c.requires.at in
    let k = c.loop-before.before - c.args.self.now.considered in
    let all : c.counts-sent.result.1 ≡ (ruled (generated_config n) own.0.history).count = (c.counts-sent.ensures (generated_config n) own.0.history own.2.goes.world).1 in
    let more : (ruled (generated_config n) own.0.history).count ≤ (ruled (generated_config n) (considers (generated_config n) k own.0).history).count = considers_sent (generated_config n) k own.0 in
    (n, considers (generated_config n) k own.0, own.1, c.loop-before.invariant.went own.0 own.1 own.2, omega arith)

pub returns-in-Err-clause-went : goal.returns-in-Err-clause-went
returns-in-Err-clause-went g c k sent at =
    let n = c.args.self.now.nodes in
    let first = c.args.self.now.considered in
    let before = considers (generated_config n) (c.loop-before.before - first) k in
    let here : Went g.L.CourseObserver.writing (g.L.CourseObserver.knows c.consider.new.listener) n (Err c.in-Err.halt) c.consider.new.self c.consider.new.text.items (considered_next (generated_config n) before) sent =
    subst (λ (m : ℕ). At g.L.CourseObserver.writing (g.L.CourseObserver.knows c.loop-before.listener) m c.loop-before.self c.loop-before.text.items before sent → Went g.L.CourseObserver.writing (g.L.CourseObserver.knows c.consider.new.listener) m (Err c.in-Err.halt) c.consider.new.self c.consider.new.text.items (considered_next (generated_config m) before) sent) c.loop-before.invariant.nodes
    (c.in-Err.ensures.went before sent) (c.loop-before.invariant.went k sent at) in
    let all : c.counts-sent.result.1 ≡ (ruled (generated_config n) k.history).count = (c.counts-sent.ensures (generated_config n) k.history at.goes.world).1 in
    let same : first ≡ k.considered = at.goes.considered in
    let lt : c.loop-before.before - first < (ruled (generated_config n) k.history).count - k.considered = omega arith in
    considers_halt g.L.CourseObserver.writing (g.L.CourseObserver.knows c.consider.new.listener) (g.L.CourseObserver.knows c.consider.new.listener) n c.in-Err.halt c.consider.new.self c.consider.new.text.items (c.loop-before.before - first) ((ruled (generated_config n) k.history).count - k.considered) k sent lt here

pub loop-before-preserved : goal.loop-before-preserved
loop-before-preserved g c =
    let n = c.args.self.now.nodes in
    let first = c.args.self.now.considered in
    let next : suc (c.loop-before.before - first) ≡ c.loop-before.before + 1 - first = omega arith in
    record {
      went = λ k sent at.
          let before = considers (generated_config n) (c.loop-before.before - first) k in
          let here : At g.L.CourseObserver.writing (g.L.CourseObserver.knows c.consider.new.listener) n c.consider.new.self c.consider.new.text.items (considered_next (generated_config n) before) sent =
          subst (λ (m : ℕ). At g.L.CourseObserver.writing (g.L.CourseObserver.knows c.loop-before.listener) m c.loop-before.self c.loop-before.text.items before sent → At g.L.CourseObserver.writing (g.L.CourseObserver.knows c.consider.new.listener) m c.consider.new.self c.consider.new.text.items (considered_next (generated_config m) before) sent) c.loop-before.invariant.nodes
          (c.in-Ok.ensures.went before sent) (c.loop-before.invariant.went k sent at) in
          subst (λ (j : ℕ). At g.L.CourseObserver.writing (g.L.CourseObserver.knows c.consider.new.listener) n c.consider.new.self c.consider.new.text.items (considers (generated_config n) j k) sent) next here;
      ends = inr (omega arith);
      counted = c.consider.ensures.counted;
      still = c.consider.ensures.still ∙ c.loop-before.invariant.still;
      nodes = c.consider.ensures.nodes ∙ c.loop-before.invariant.nodes;
    }

pub returns-clause-went : goal.returns-clause-went
returns-clause-went g c k sent at =
    let n = c.args.self.now.nodes in
    let first = c.args.self.now.considered in
    let all : c.counts-sent.result.1 ≡ (ruled (generated_config n) k.history).count = (c.counts-sent.ensures (generated_config n) k.history at.goes.world).1 in
    let same : first ≡ k.considered = at.goes.considered in
    let end : c.loop-before.before - first ≡ (ruled (generated_config n) k.history).count - k.considered = ⊎_elim (λ none. omega (arith, none)) (λ some. omega (arith, some)) c.loop-before.invariant.ends in
    subst (λ (j : ℕ). At g.L.CourseObserver.writing (g.L.CourseObserver.knows c.loop-before.listener) n c.loop-before.self c.loop-before.text.items (considers (generated_config n) j k) sent) end (c.loop-before.invariant.went k sent at)
