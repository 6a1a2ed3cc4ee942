-- The turn of a node.
use Rattle.std.proofs.Common.{◌≡◌, ℕ, ◌+◌, Bool, true, List, [], ◌∷◌, ap, sym, subst, ◌∙◌}
use Rattle.std.specs.Prelude.{◌==◌, ◌%◌, ◌/◌, if◌then◌else◌}
use Rattle.std.proofs.lemmas.Bool.{eq-eqb}
use Rattle.fabric_terms.specs.declared.config.FabricConfig.{FabricConfig}
use Rattle.rand_pcg.specs.Lcg.{Lcg}
use Rattle.rand_pcg.specs.Pcg.{pcg32}
use Rattle.unit_rules.specs.Ruled.{ruled}
use Rattle.world_rules.specs.Schedules.{node_runs}
use Rattle.schedule_generate.specs.Course.{Course, taken, taken_all, turn_of, turns, with_turn}
use Rattle.schedule_generate.specs.Goes.{At, Known}
use Rattle.schedule_generate.specs.Texts.{Writing}
use Rattle.schedule_generate.specs.declared.generator.Generator.{Generator}

-- the generator of draws goes on
pub draws_on : (w : ℕ → Writing) (knows : Known) (n : ℕ) (a b : Generator) (text : List ℕ) (g : Course) (sent : List ℕ) → At w knows n a text g sent → b ≡ record a { draws = b.draws } → b.draws ≡ (pcg32 a.draws).1
    → At w knows n b text (record g { draws = (pcg32 g.draws).1 }) sent
draws_on w knows n a b text g sent at is drawn =
    let goes = at.goes in
    subst (λ (x : Generator). At w knows n x text (record g { draws = (pcg32 g.draws).1 }) sent) (sym is)
    (record {
      goes = record { nodes = goes.nodes; going = goes.going; world = goes.world; line = goes.line; time = goes.time; clocks = goes.clocks; considered = goes.considered; draws = drawn ∙ ap (λ (d : Lcg). (pcg32 d).1) goes.draws };
      known = at.known;
      told = at.told;
    })

-- this node turns
pub one_turns : (c : FabricConfig) (n : ℕ) (g : Course) (draw node : ℕ) (runs : Bool) → (pcg32 g.draws).0 ≡ draw → draw % 50 ≡ 0 → node ≡ draw / 64 % n + 1 → node_runs (ruled c g.history) node ≡ runs
    → with_turn c n g ≡ taken c (turn_of (ruled c g.history) node runs) (record g { draws = (pcg32 g.draws).1 })
one_turns c n g draw node runs is zero which run =
    let e : (draw % 50 == 0) ≡ true = eq-eqb (draw % 50) 0 zero in
    let w = ruled c g.history in
    let now : Course = record g { draws = (pcg32 g.draws).1 } in
    ap (λ (d : ℕ). taken_all c (turns w n d) now) is
    ∙ (ap (λ b. taken_all c (if b then turn_of w (draw / 64 % n + 1) (node_runs w (draw / 64 % n + 1)) ∷ [] else []) now) e
    ∙ (ap (λ (k : ℕ). taken c (turn_of w k (node_runs w k)) now) (sym which) ∙ ap (λ b. taken c (turn_of w node b) now) run))
