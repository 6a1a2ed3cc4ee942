use Rattle.std.proofs.Common.{sym}
use Rattle.ring_world.proofs.Seats.{runs_here}
use Rattle.ring_world.proofs.world.World.runs.Goals as goal

pub returns-in-Some : goal.returns-in-Some
returns-in-Some c w s =
    sym (runs_here c.args.self.now w c.args.actor c.in-Some.place c.index.result.now s c.in-Some.ensures.0 c.in-Some.ensures.1 c.index.ensures)
