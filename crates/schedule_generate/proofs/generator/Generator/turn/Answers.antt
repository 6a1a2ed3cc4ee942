use Rattle.std.proofs.Common.{◌≡◌, ◌+◌, ◌<◌, ℕ, true, false, Some, refl, ap, sym, subst, ◌∙◌, arith}
use Rattle.std.specs.Prelude.{◌%◌, ◌/◌}
use Rattle.std.proofs.Math.Nat.{mod-lt}
use Rattle.std.specs.List.{list_any}
use Rattle.fabric_terms.specs.declared.event.Event.{Event}
use Rattle.fabric_terms.specs.declared.event.Event.TheVariants.{Start}
use Rattle.rand_pcg.specs.Lcg.{Lcg}
use Rattle.rand_pcg.specs.Pcg.{pcg32}
use Rattle.frame_format.specs.Kinds.{is_frame}
use Rattle.unit_rules.specs.Ruled.{ruled}
use Rattle.world_rules.specs.Schedules.{MayCome, node_runs}
use Rattle.schedule_generate.specs.Course.{Course, taken, turn_of, with_turn}
use Rattle.schedule_generate.specs.Goes.{Went}
use Rattle.schedule_generate.specs.Settings.{generated_config}
use Rattle.schedule_generate.specs.declared.generator.Generator.{Generator}
use Rattle.schedule_generate.proofs.Due.{turn_due}
use Rattle.schedule_generate.proofs.Loops.{own_number}
use Rattle.schedule_generate.proofs.Nodes.{among_nodes, has_node}
use Rattle.schedule_generate.proofs.Turning.{draws_on, one_turns}
use Rattle.schedule_generate.proofs.generator.Generator.turn.Goals as goal

pub take-requires-clause-due : goal.take-requires-clause-due
take-requires-clause-due g c =
    let n = c.args.self.now.nodes in
    let own = own_number g.L.CourseObserver.writing (g.L.CourseObserver.knows c.args.listener.now) c.args.self.now c.args.text.now.items c.requires.at in
    let k = own.0 in
    let b : Generator = record c.args.self.now { draws = c.next_word-draw.new.self } in
    let draw = c.next_word-draw.result in
    let node = draw / 64 % c.from.result + 1 in
    let world = ruled (generated_config n) k.history in
    let which : node ≡ draw / 64 % n + 1 = ap (λ (m : ℕ). draw / 64 % m + 1) c.from.ensures in
    let below : draw / 64 % n < n = mod-lt (draw / 64) {m = n} (omega (arith, c.requires.some)) in
    let runs : node_runs world node ≡ true =
    sym (among_nodes c.args.self.now.world (generated_config n) k.history node own.2.goes.world) ∙ (ap (list_any (has_node node)) (sym (c.clocks.ensures (generated_config n) k.history own.2.goes.world)) ∙ (sym c.is_among.ensures ∙ c.if-is_among.true)) in
    (n, record k { draws = (pcg32 k.draws).1 }, own.1, draws_on g.L.CourseObserver.writing (g.L.CourseObserver.knows c.args.listener.now) n c.args.self.now b c.args.text.now.items k own.1 own.2 refl (ap (λ (p : ℕ × Lcg). p.1) c.next_word-draw.ensures), (turn_due n world node true (omega arith) (omega (arith, which, below)) c.requires.few runs, tt))

pub take-requires-2-clause-due : goal.take-requires-2-clause-due
take-requires-2-clause-due g c =
    let n = c.args.self.now.nodes in
    let own = own_number g.L.CourseObserver.writing (g.L.CourseObserver.knows c.args.listener.now) c.args.self.now c.args.text.now.items c.requires.at in
    let k = own.0 in
    let b : Generator = record c.args.self.now { draws = c.next_word-draw.new.self } in
    let draw = c.next_word-draw.result in
    let node = draw / 64 % c.from.result + 1 in
    let world = ruled (generated_config n) k.history in
    let which : node ≡ draw / 64 % n + 1 = ap (λ (m : ℕ). draw / 64 % m + 1) c.from.ensures in
    let below : draw / 64 % n < n = mod-lt (draw / 64) {m = n} (omega (arith, c.requires.some)) in
    let runs : node_runs world node ≡ false =
    sym (among_nodes c.args.self.now.world (generated_config n) k.history node own.2.goes.world) ∙ (ap (list_any (has_node node)) (sym (c.clocks.ensures (generated_config n) k.history own.2.goes.world)) ∙ (sym c.is_among.ensures ∙ c.if-is_among.false)) in (
      n,
      record k { draws = (pcg32 k.draws).1 },
      own.1,
      draws_on g.L.CourseObserver.writing (g.L.CourseObserver.knows c.args.listener.now) n c.args.self.now b c.args.text.now.items k own.1 own.2 refl (ap (λ (p : ℕ × Lcg). p.1) c.next_word-draw.ensures),
      (subst (λ (t : ℕ). MayCome is_frame (generated_config n) world (Start node (Some t))) (sym own.2.goes.time) (turn_due n world node false (omega arith) (omega (arith, which, below)) c.requires.few runs), tt),
    )

pub returns-then-is_among-clause-went : goal.returns-then-is_among-clause-went
returns-then-is_among-clause-went g c k sent at =
    let n = c.args.self.now.nodes in
    let draw = c.next_word-draw.result in
    let node = draw / 64 % c.from.result + 1 in
    let which : node ≡ draw / 64 % n + 1 = ap (λ (m : ℕ). draw / 64 % m + 1) c.from.ensures in
    let world = ruled (generated_config n) k.history in
    let now : Course = record k { draws = (pcg32 k.draws).1 } in
    let b : Generator = record c.args.self.now { draws = c.next_word-draw.new.self } in
    let zero : draw % 50 ≡ 0 = omega arith in
    let word : (pcg32 k.draws).0 ≡ draw = ap (λ (d : Lcg). (pcg32 d).0) (sym at.goes.draws) ∙ sym (ap (λ (p : ℕ × Lcg). p.0) c.next_word-draw.ensures) in
    let runs : node_runs world node ≡ true =
    sym (among_nodes c.args.self.now.world (generated_config n) k.history node at.goes.world) ∙ (ap (list_any (has_node node)) (sym (c.clocks.ensures (generated_config n) k.history at.goes.world)) ∙ (sym c.is_among.ensures ∙ c.if-is_among.true)) in
    let on = draws_on g.L.CourseObserver.writing (g.L.CourseObserver.knows c.args.listener.now) n c.args.self.now b c.args.text.now.items k sent at refl (ap (λ (p : ℕ × Lcg). p.1) c.next_word-draw.ensures) in
    let same : with_turn (generated_config n) n k ≡ taken (generated_config n) (turn_of world node true) now = one_turns (generated_config n) n k draw node true word zero which runs in
    subst (λ (x : Course). Went g.L.CourseObserver.writing (g.L.CourseObserver.knows c.take.new.listener) n c.take.result c.take.new.self c.take.new.text.items x sent) (sym same) (c.take.ensures.went now sent on)

pub returns-clause-went : goal.returns-clause-went
returns-clause-went g c k sent at =
    let n = c.args.self.now.nodes in
    let draw = c.next_word-draw.result in
    let node = draw / 64 % c.from.result + 1 in
    let which : node ≡ draw / 64 % n + 1 = ap (λ (m : ℕ). draw / 64 % m + 1) c.from.ensures in
    let world = ruled (generated_config n) k.history in
    let now : Course = record k { draws = (pcg32 k.draws).1 } in
    let b : Generator = record c.args.self.now { draws = c.next_word-draw.new.self } in
    let zero : draw % 50 ≡ 0 = omega arith in
    let word : (pcg32 k.draws).0 ≡ draw = ap (λ (d : Lcg). (pcg32 d).0) (sym at.goes.draws) ∙ sym (ap (λ (p : ℕ × Lcg). p.0) c.next_word-draw.ensures) in
    let runs : node_runs world node ≡ false =
    sym (among_nodes c.args.self.now.world (generated_config n) k.history node at.goes.world) ∙ (ap (list_any (has_node node)) (sym (c.clocks.ensures (generated_config n) k.history at.goes.world)) ∙ (sym c.is_among.ensures ∙ c.if-is_among.false)) in
    let on = draws_on g.L.CourseObserver.writing (g.L.CourseObserver.knows c.args.listener.now) n c.args.self.now b c.args.text.now.items k sent at refl (ap (λ (p : ℕ × Lcg). p.1) c.next_word-draw.ensures) in
    let same : with_turn (generated_config n) n k ≡ taken (generated_config n) (turn_of world node false) now = one_turns (generated_config n) n k draw node false word zero which runs in
    let when : turn_of world node false ≡ Start node (Some c.args.self.now.time) = ap (λ (t : ℕ). Start node (Some t)) (sym at.goes.time) in
    subst (λ (x : Course). Went g.L.CourseObserver.writing (g.L.CourseObserver.knows c.take-2.new.listener) n c.take-2.result c.take-2.new.self c.take-2.new.text.items x sent) (sym (same ∙ ap (λ (e : Event). taken (generated_config n) e now) when)) (c.take-2.ensures.went now sent on)
