-- A word is that of the next 64 points.
use Rattle.std.proofs.Common.{arith, ◌∙◌, ap, ◌*◌, drop, take}
use Rattle.std.proofs.lemmas.List.{drop-drop}
use Rattle.lane_scan.specs.Masks.{mask_of}
use Rattle.lane_scan.proofs.Bits.{take_fit, drop_fit, masked_more}
use Rattle.lane_scan.proofs.mask.mask_in.Goals as goal

pub loop-word-preserved : goal.loop-word-preserved
loop-word-preserved c =
    let points = c.args.points.now in
    let rest = c.loop-word.rest.now in
    let q = c.loop-word.word-index in
    let later = c.split_at.ensures.back ∙ ap (λ n. drop n rest) c.min.ensures ∙ drop_fit 64 rest ∙ ap (drop 64) c.loop-word.invariant.rest ∙ drop-drop 64 (64 * q) points in
    let these = c.split_at.ensures.front ∙ ap (λ n. take n rest) c.min.ensures ∙ take_fit 64 rest ∙ ap (take 64) c.loop-word.invariant.rest in
    record {
      rest = later ∙ ap (λ n. drop n points) (omega arith);
      bits = masked_more c.args.lo c.args.hi points c.loop-word.out q c.mask_word.result (omega arith) (c.mask_word.ensures ∙ ap (mask_of c.args.lo c.args.hi) these) c.loop-word.invariant.bits;
    }
