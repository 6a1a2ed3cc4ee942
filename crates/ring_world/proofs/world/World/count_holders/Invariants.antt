use Rattle.std.proofs.Common.{◌≡◌, ◌<◌, ◌^◌, length, take}
use Rattle.std.specs.List.{zip}
use Rattle.ring_world.proofs.Holders.{holders_here}
use Rattle.ring_world.proofs.world.World.count_holders.Given as goal

abbrev pub invariant-loop-clock : goal.invariant-loop-clock
invariant-loop-clock l =
    length l.self.clocks.items < 2 ^ 32 → l.count ≡ length (holders_here (take (length l.yielded) (zip l.self.clocks.items l.self.running.items)))
