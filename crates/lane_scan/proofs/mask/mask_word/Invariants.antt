use Rattle.std.proofs.Common.{◌≡◌, ◌+◌, ◌-◌, ◌≤◌, length, take}
use Rattle.lane_scan.specs.Masks.{mask_of}
use Rattle.lane_scan.proofs.mask.mask_word.Given as goal

abbrev pub invariant-loop-at : goal.invariant-loop-at
invariant-loop-at l = record {
  inside : l.at ≤ length l.points;
  bits : l.word ≡ mask_of l.lo l.hi (take l.at l.points);
}

abbrev pub decreases-loop-at : goal.decreases-loop-at
decreases-loop-at l = length l.points + 1 - l.at

abbrev pub invariant-loop-at-2 : goal.invariant-loop-at-2
invariant-loop-at-2 l = record {
  inside : l.at ≤ length l.points;
  bits : l.word ≡ mask_of l.lo l.hi (take l.at l.points);
}

abbrev pub decreases-loop-at-2 : goal.decreases-loop-at-2
decreases-loop-at-2 l = length l.points - l.at
