use Rattle.std.proofs.Common.{◌≡◌, ℕ, List, true, false, None, Some, drop, map, rules, subst, sym}
use Rattle.std.specs.Prelude.{is_none}
use Rattle.fabric_terms.specs.declared.config.NodeEntry.{NodeEntry}
use Rattle.serve_edge.specs.Addresses.{ReadsAddress}
use Rattle.serve_top.specs.Addresses.{FindsBad}
use Rattle.serve_top.proofs.Finding.{ends, halts, is_address, is_no_address, passes}
use Rattle.serve_top.proofs.addresses.bad_node.Goals as goal

pub returns-then-is_none : goal.returns-then-is_none
returns-then-is_none c =
    let here = c.node-item.result in
    let read = c.read_address.result in
    let none : is_none read ≡ true = search rules in
    let reads : ReadsAddress here.at read = subst (λ (t : List ℕ). ReadsAddress t read) c.as_str-at.ensures c.read_address.ensures in
    c.loop-node.invariant (Some c.as_str-at.result.now)
    (subst (λ (t : List ℕ). FindsBad (map (λ (n : NodeEntry). n.at) (drop c.loop-node.node-index c.args.nodes.now)) (Some t)) (sym c.as_str-at.ensures)
    (halts (λ (n : NodeEntry). n.at) c.args.nodes.now c.loop-node.node-index here c.loop-node-test.true c.node-item.is (is_no_address here.at read reads none)))

pub loop-node-preserved : goal.loop-node-preserved
loop-node-preserved c =
    let here = c.node-item.result in
    let read = c.read_address.result in
    let some : is_none read ≡ false = search rules in
    let reads : ReadsAddress here.at read = subst (λ (t : List ℕ). ReadsAddress t read) c.as_str-at.ensures c.read_address.ensures in
    λ found finds. c.loop-node.invariant found (passes (λ (n : NodeEntry). n.at) c.args.nodes.now c.loop-node.node-index here c.loop-node-test.true c.node-item.is (is_address here.at read reads some) found finds)

pub returns : goal.returns
returns c = c.loop-node.invariant None (ends (λ (n : NodeEntry). n.at) c.args.nodes.now c.loop-node.node-index c.loop-node-test.false)
