use Rattle.std.proofs.Common.{◌≡◌, take, length}
use Rattle.frame_seal.specs.Hmac.{turned}
use Rattle.frame_seal.proofs.keyed_hash.turned.Given as goal

abbrev pub invariant-loop-i : goal.invariant-loop-i
invariant-loop-i l = (length l.turned ≡ 64) × (take l.i l.turned ≡ turned l.mask (take l.i l.block))
