use Rattle.std.proofs.Common.{refl, sym, ◌∙◌, arith}
use Rattle.ring_points.specs.Sweeps.{is_kept}
use Rattle.ring_points.proofs.Ahead.{ahead_first}
use Rattle.ring_points.proofs.ranges.sweep.sweep.Goals as goal

pub loop-kept-init : goal.loop-kept-init
loop-kept-init c = record {
  ring = omega arith;
  first = ahead_first c.args.sets.first.now c.requires.first;
  second = ahead_first c.args.sets.second.now c.requires.second;
  without = ahead_first c.args.sets.without.now c.requires.without;
  ahead = (λ p m. refl);
  swept = c.new-kept.ensures (is_kept c.args.sets.rule c.args.sets.first.now c.args.sets.second.now c.args.sets.without.now);
}

pub returns-then-stretch : goal.returns-then-stretch
returns-then-stretch c =
    let keep = is_kept c.args.sets.rule c.args.sets.first.now c.args.sets.second.now c.args.sets.without.now in
    let v = c.loop-kept.invariant in
    let s = c.stretch_from-stretch.ensures in
    let swept = c.in_ok-pass.ensures keep v.swept s.begins (λ p m n. sym (v.ahead p m) ∙ s.alike p m n) in
    c.finish.ensures keep (rw c.if-stretch.true at swept)
