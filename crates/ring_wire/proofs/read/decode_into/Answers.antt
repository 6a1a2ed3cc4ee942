use Rattle.std.proofs.Common.{arith}
use Rattle.frame_format.proofs.Decoded.{decoded}
use Rattle.ring_wire.proofs.read.decode_into.Goals as goal

pub returns : goal.returns
returns c = decoded c.args.frame.now c.read_message.result c.read_message.new.message (λ k. omega (arith, c.type_inv.frame k)) c.read_message.ensures
