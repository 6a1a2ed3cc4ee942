use Rattle.serve_lives.proofs.pausing.pass_time.Given as goal
use Rattle.serve_lives.specs.Rows.{OnlyRead}

abbrev pub invariant-loop-look : goal.invariant-loop-look
invariant-loop-look g l = OnlyRead (g.O.Outside.told l.fn.outside) (g.O.Outside.told l.outside)
