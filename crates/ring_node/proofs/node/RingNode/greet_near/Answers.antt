use Rattle.std.proofs.Common.{◌∙◌, ℕ, List, sym, ap, arith}
use Rattle.ring_node.specs.Nodes.{Node, step}
use Rattle.ring_node.proofs.Around.{greeted_patched, more_greeted, none_greeted}
use Rattle.ring_node.proofs.Rows.{patched_both}
use Rattle.ring_route.specs.Routes.{near_nodes}
use Rattle.ring_rules.specs.Deeds.{has_numbers}
use Rattle.ring_rules.specs.Firing.{greet_all}
use Rattle.ring_node.proofs.node.RingNode.greet_near.Goals as goal

pub returns-in-Err-clause-err : goal.returns-in-Err-clause-err
returns-in-Err-clause-err c = λ told.
    let n = c.args.self.now in
    let nodes = c.as_slice-node-items.ensures.value ∙ c.near-near.ensures ∙ ap (near_nodes c.self.inside.routes c.self.inside.near) c.accused.ensures ∙ ap (λ (m : Node). near_nodes m.ring.routes m.settings.near m.ring.accused) c.self.view_is in
    ap (λ (ns : List ℕ). has_numbers (greet_all n.settings c.args.now ns (step n c.args.out.now told).work).ring) (sym nodes)
    ∙ none_greeted c.args.now c.as_slice-node-items.result.now c.loop-node.node-index (step n c.args.out.now told) (step c.loop-node.self c.loop-node.out told) c.loop-node-test.true (c.loop-node.invariant.rest told) (c.in-Err.ensures.err told)

pub returns-in-Err-clause-kept : goal.returns-in-Err-clause-kept
returns-in-Err-clause-kept c = λ told. rw (c.in-Err.ensures.kept, c.in-Err.ensures.silent) (c.loop-node.invariant.patched told)

pub loop-node-preserved : goal.loop-node-preserved
loop-node-preserved c = record {
  rest = λ told. more_greeted c.args.now c.as_slice-node-items.result.now c.loop-node.node-index (step c.args.self.now c.args.out.now told) (step c.loop-node.self c.loop-node.out told) (step c.greet_plainly.new.self c.greet_plainly.new.out told) c.loop-node-test.true (c.loop-node.invariant.rest told) (c.in-Ok.ensures.ok told);
  patched = λ told.
      let s = step c.args.self.now c.args.out.now told in
      let t = step c.loop-node.self c.loop-node.out told in
      let u = step c.greet_plainly.new.self c.greet_plainly.new.out told in
      patched_both s t u (c.loop-node.invariant.patched told) (rw (c.in-Ok.ensures.ok told) (greeted_patched c.args.now _ t));
  few = omega (arith, c.in-Ok.ensures.few);
}
