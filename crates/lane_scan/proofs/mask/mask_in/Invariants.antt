use Rattle.std.proofs.Common.{◌≡◌, ◌↔◌, ℕ, ◌*◌, ◌/◌, ◌%◌, ◌<◌, drop, slice_index}
use Rattle.std.specs.Int.{bit_at}
use Rattle.lane_scan.specs.Masks.{IsIn}
use Rattle.lane_scan.proofs.mask.mask_in.Given as goal

abbrev pub invariant-loop-word : goal.invariant-loop-word
invariant-loop-word l = record {
  rest : l.rest ≡ drop (64 * l.word-index) l.points;
  bits : (i : ℕ) → i < 64 * l.word-index → (bit_at (slice_index l.out (i / 64)) (i % 64) ≡ 1) ↔ IsIn l.lo l.hi l.points i;
}
