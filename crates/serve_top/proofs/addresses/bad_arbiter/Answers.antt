use Rattle.std.proofs.Common.{◌≡◌, ℕ, List, true, false, None, Some, drop, map, rules, subst, sym}
use Rattle.std.specs.Prelude.{is_none}
use Rattle.serve_edge.specs.Addresses.{ReadsAddress}
use Rattle.serve_top.specs.Addresses.{FindsBad}
use Rattle.serve_top.proofs.Finding.{ends, halts, is_address, is_no_address, passes}
use Rattle.serve_top.proofs.addresses.bad_arbiter.Goals as goal

pub returns-then-is_none : goal.returns-then-is_none
returns-then-is_none c =
    let here = c.arbiter-item.result in
    let read = c.read_address.result in
    let none : is_none read ≡ true = search rules in
    let reads : ReadsAddress here.1 read = subst (λ (t : List ℕ). ReadsAddress t read) c.as_str-at.ensures c.read_address.ensures in
    c.loop-arbiter.invariant (Some c.as_str-at.result.now)
    (subst (λ (t : List ℕ). FindsBad (map (λ (a : ℕ × List ℕ). a.1) (drop c.loop-arbiter.arbiter-index c.args.arbiters.now)) (Some t)) (sym c.as_str-at.ensures)
    (halts (λ (a : ℕ × List ℕ). a.1) c.args.arbiters.now c.loop-arbiter.arbiter-index here c.loop-arbiter-test.true c.arbiter-item.is (is_no_address here.1 read reads none)))

pub loop-arbiter-preserved : goal.loop-arbiter-preserved
loop-arbiter-preserved c =
    let here = c.arbiter-item.result in
    let read = c.read_address.result in
    let some : is_none read ≡ false = search rules in
    let reads : ReadsAddress here.1 read = subst (λ (t : List ℕ). ReadsAddress t read) c.as_str-at.ensures c.read_address.ensures in
    λ found finds. c.loop-arbiter.invariant found (passes (λ (a : ℕ × List ℕ). a.1) c.args.arbiters.now c.loop-arbiter.arbiter-index here c.loop-arbiter-test.true c.arbiter-item.is (is_address here.1 read reads some) found finds)

pub returns : goal.returns
returns c = c.loop-arbiter.invariant None (ends (λ (a : ℕ × List ℕ). a.1) c.args.arbiters.now c.loop-arbiter.arbiter-index c.loop-arbiter-test.false)
