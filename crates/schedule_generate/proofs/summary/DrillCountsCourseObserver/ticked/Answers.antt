use Rattle.std.proofs.Common.{◌≡◌, ◌+◌, None, sym, arith}
use Rattle.std.proofs.lemmas.List.{append-nil}
use Rattle.schedule_generate.proofs.Counting.{counts_on}
use Rattle.schedule_generate.proofs.summary.DrillCountsCourseObserver.ticked.Goals as goal

pub returns : goal.returns
returns c n h known takes =
    let took : c.args.self.now.took_over ≡ c.args.self.now.took_over + 0 = omega arith in
    let left : c.args.self.now.left ≡ c.args.self.now.left + 0 = omega arith in
    (counts_on c.args.self.now c.args.self.now n c.args._world.now h c.args._line _ None known takes took left, sym (append-nil c.args._text.now.items))
