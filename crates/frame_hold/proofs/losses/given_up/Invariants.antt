use Rattle.std.proofs.Common.{◌≡◌, ◌++◌, drop}
use Rattle.frame_hold.specs.Losses.{given_up, losses_from}
use Rattle.frame_hold.proofs.losses.given_up.Given as goal

-- what was given up so far, and what the reports that follow give up
abbrev pub invariant-loop-place : goal.invariant-loop-place
invariant-loop-place l = l.into.items ++ losses_from l.before l.told l.place (drop l.place l.told) ≡ given_up l.before l.told
