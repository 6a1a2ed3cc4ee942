use Rattle.std.proofs.Common.{arith, ◌≤◌, length, sym}
use Rattle.std.proofs.lemmas.List.{length-take-le, take_all}
use Rattle.door_io.proofs.mem_page_door.front_of.Goals as goal

pub slice_bounds-result-end : goal.slice_bounds-result-end
slice_bounds-result-end c =
    let fits : 2048 ≤ length c.args.head.now = omega arith in sym (length-take-le 2048 c.args.head.now fits)

pub returns-then-head-gt-MAX_HEAD-clause-fits : goal.returns-then-head-gt-MAX_HEAD-clause-fits
returns-then-head-gt-MAX_HEAD-clause-fits c =
    let fits : 2048 ≤ length c.args.head.now = omega arith in
    omega (arith, length-take-le 2048 c.args.head.now fits)

pub returns-else-head-gt-MAX_HEAD-clause-front : goal.returns-else-head-gt-MAX_HEAD-clause-front
returns-else-head-gt-MAX_HEAD-clause-front c = sym (take_all 2048 c.args.head.now (omega arith))
