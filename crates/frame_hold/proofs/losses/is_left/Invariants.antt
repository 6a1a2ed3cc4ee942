use Rattle.std.proofs.Common.{◌≡◌, drop}
use Rattle.frame_hold.specs.Losses.{is_left}
use Rattle.frame_hold.proofs.losses.is_left.Given as goal

-- what is left after the reports that follow
abbrev pub invariant-loop-report : goal.invariant-loop-report
invariant-loop-report l = is_left (drop l.report-index l.told) l.points ≡ is_left l.told l.fn.points
