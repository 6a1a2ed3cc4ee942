use Rattle.std.proofs.Common.{◌≡◌, ◌≤◌, ◌+◌, ◌++◌, ℕ, suc, List, [], Ok, Err, subst, ◌∙◌, arith, append_assoc}
use Rattle.schedule_rules.proofs.Fronts.{grew_more}
use Rattle.schedule_generate.specs.Course.{is_full, round_unless, rounds}
use Rattle.schedule_generate.specs.Goes.{At, Rounded}
use Rattle.schedule_generate.specs.Settings.{generated_config}
use Rattle.schedule_generate.proofs.Loops.{own_number, rounded_halts}
use Rattle.schedule_generate.proofs.write.go_rounds.Goals as goal

pub go_round-requires-clause-at : goal.go_round-requires-clause-at
go_round-requires-clause-at g c =
    let n = c.args.generator.now.nodes in
    let own = own_number g.L.CourseObserver.writing (g.L.CourseObserver.knows c.args.listener.now) c.args.generator.now c.args.text.now.items c.requires.at in
    let here = c.loop-round.invariant.went own.0 own.1 own.2 in
    (n, rounds (generated_config n) n c.loop-round._round own.0, own.1 ++ here.0, here.2)

pub returns-in-Err-clause-went : goal.returns-in-Err-clause-went
returns-in-Err-clause-went g c k at =
    let n = c.args.generator.now.nodes in
    let prior = c.loop-round.invariant.went k [] at in
    let before = rounds (generated_config n) n c.loop-round._round k in
    let here : Rounded g.L.CourseObserver.writing (g.L.CourseObserver.knows c.go_round.new.listener) n (Err c.in-Err.halt) c.go_round.new.generator c.go_round.new.text.items (rounds (generated_config n) n (suc c.loop-round._round) k) prior.0 (g.K.Sink.held c.loop-round.sink) (g.K.Sink.held c.go_round.new.sink) =
    subst (λ (m : ℕ). At g.L.CourseObserver.writing (g.L.CourseObserver.knows c.loop-round.listener) m c.loop-round.generator c.loop-round.text.items (before) (prior.0) → Rounded g.L.CourseObserver.writing (g.L.CourseObserver.knows c.go_round.new.listener) m (Err c.in-Err.halt) c.go_round.new.generator c.go_round.new.text.items (round_unless (generated_config m) m (before) (is_full (generated_config m) (before))) (prior.0) (g.K.Sink.held c.loop-round.sink) (g.K.Sink.held c.go_round.new.sink)) c.loop-round.invariant.nodes (c.in-Err.ensures.went before prior.0) prior.2 in
    rounded_halts g.L.CourseObserver.writing (g.L.CourseObserver.knows c.go_round.new.listener) (g.L.CourseObserver.knows c.go_round.new.listener) n c.in-Err.halt c.go_round.new.generator c.go_round.new.generator c.go_round.new.text.items c.loop-round.text.items c.loop-round._round c.args.count k (g.K.Sink.held c.args.sink.now) (g.K.Sink.held c.loop-round.sink) (g.K.Sink.held c.go_round.new.sink) prior.0 c.loop-round-test.true prior.1 prior.2.told here

pub loop-round-preserved : goal.loop-round-preserved
loop-round-preserved g c =
    let n = c.args.generator.now.nodes in
    let next : suc c.loop-round._round ≡ c.loop-round._round + 1 = omega arith in
    record {
      went = λ k first at.
          let prior = c.loop-round.invariant.went k first at in
          let before = rounds (generated_config n) n c.loop-round._round k in
          let here : Rounded g.L.CourseObserver.writing (g.L.CourseObserver.knows c.go_round.new.listener) n (Ok tt) c.go_round.new.generator c.go_round.new.text.items (rounds (generated_config n) n (suc c.loop-round._round) k) (first ++ prior.0) (g.K.Sink.held c.loop-round.sink) (g.K.Sink.held c.go_round.new.sink) =
          subst (λ (m : ℕ). At g.L.CourseObserver.writing (g.L.CourseObserver.knows c.loop-round.listener) m c.loop-round.generator c.loop-round.text.items (before) (first ++ prior.0) → Rounded g.L.CourseObserver.writing (g.L.CourseObserver.knows c.go_round.new.listener) m (Ok tt) c.go_round.new.generator c.go_round.new.text.items (round_unless (generated_config m) m (before) (is_full (generated_config m) (before))) (first ++ prior.0) (g.K.Sink.held c.loop-round.sink) (g.K.Sink.held c.go_round.new.sink)) c.loop-round.invariant.nodes (c.in-Ok.ensures.went before (first ++ prior.0)) prior.2 in
          let after : At g.L.CourseObserver.writing (g.L.CourseObserver.knows c.go_round.new.listener) n c.go_round.new.generator c.go_round.new.text.items (rounds (generated_config n) n (suc c.loop-round._round) k) (first ++ (prior.0 ++ here.0)) =
          subst (λ (s : List ℕ). At g.L.CourseObserver.writing (g.L.CourseObserver.knows c.go_round.new.listener) n c.go_round.new.generator c.go_round.new.text.items (rounds (generated_config n) n (suc c.loop-round._round) k) s) (append_assoc first prior.0 here.0) here.2 in (
            prior.0 ++ here.0,
            grew_more (g.K.Sink.held c.args.sink.now) (g.K.Sink.held c.loop-round.sink) (g.K.Sink.held c.go_round.new.sink) prior.0 here.0 prior.1 here.1,
            subst (λ (j : ℕ). At g.L.CourseObserver.writing (g.L.CourseObserver.knows c.go_round.new.listener) n c.go_round.new.generator c.go_round.new.text.items (rounds (generated_config n) n j k) (first ++ (prior.0 ++ here.0))) next after,
          );
      time = let now : c.go_round.new.generator.time ≤ c.loop-round.generator.time + 100 = c.in-Ok.ensures.later in omega (arith, now, c.loop-round.invariant.time);
      nodes = c.go_round.ensures.nodes ∙ c.loop-round.invariant.nodes;
      later = omega (arith, c.loop-round.invariant.later, c.go_round.ensures.faults);
    }

pub returns-clause-went : goal.returns-clause-went
returns-clause-went g c k at =
    let n = c.args.generator.now.nodes in
    let prior = c.loop-round.invariant.went k [] at in
    let all : c.loop-round._round ≡ c.args.count = omega arith in
    let last = subst (λ (j : ℕ). At g.L.CourseObserver.writing (g.L.CourseObserver.knows c.loop-round.listener) n c.loop-round.generator c.loop-round.text.items (rounds (generated_config n) n j k) prior.0) all prior.2 in
    (last.goes, last.known, (prior.0, prior.1, last.told))
