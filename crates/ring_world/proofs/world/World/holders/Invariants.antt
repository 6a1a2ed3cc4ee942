use Rattle.std.proofs.Common.{◌≡◌, length, take}
use Rattle.std.specs.List.{zip}
use Rattle.ring_world.proofs.Holders.{holders_here}
use Rattle.ring_world.proofs.world.World.holders.Given as goal

abbrev pub invariant-loop-clock : goal.invariant-loop-clock
invariant-loop-clock l = l.holders.items ≡ holders_here (take (length l.yielded) (zip l.self.clocks.items l.self.running.items))
