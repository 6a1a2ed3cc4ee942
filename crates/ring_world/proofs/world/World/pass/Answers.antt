use Rattle.std.proofs.Common.{refl}
use Rattle.ring_world.specs.Seen.{seen_of}
use Rattle.ring_world.proofs.Growth.{later}
use Rattle.ring_world.proofs.world.World.pass.Goals as goal

pub returns : goal.returns
returns c w line s = record {
  config = refl;
  events = refl;
  state = later (seen_of c.args.self.now) w s c.requires;
  places = λ p lt. refl;
  entry = refl;
  seen = tt;
}
