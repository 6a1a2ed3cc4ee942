use Rattle.std.proofs.Common.{sym}
use Rattle.std.proofs.lemmas.List.{append-nil}
use Rattle.schedule_generate.proofs.Counting.{counts_on, on_ok}
use Rattle.schedule_generate.proofs.summary.DrillCountsCourseObserver.took.Goals as goal

pub returns : goal.returns
returns c n h known takes =
    on_ok c.take.result _ _ _ (λ took left. (counts_on c.args.self.now c.take.new.self n c.args._world.now h c.args._line _ c.args.acted.now known takes took left, sym (append-nil c.args._text.now.items))) c.take.ensures.took_over c.take.ensures.left
