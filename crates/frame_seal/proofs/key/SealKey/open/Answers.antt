use Rattle.std.proofs.Common.{arith}
use Rattle.frame_seal.proofs.Sealed.{opens, stays_shut}
use Rattle.frame_seal.proofs.key.SealKey.open.Goals as goal

pub returns-then-is_same : goal.returns-then-is_same
returns-then-is_same c =
    let pieces = c.in_ok-seal.ensures.cases in
    opens c.args.self.now c.args.to c.args.bytes.now c.in_ok-seal.seal.now c.in_ok-seal.frame.now c.seal_of.result c.sender_of.result c.is_same.result
    pieces.0 pieces.1 (omega (arith, pieces.2)) c.sender_of.ensures c.seal_of.ensures c.is_same.ensures c.if-is_same.true

pub returns-else-is_same : goal.returns-else-is_same
returns-else-is_same c =
    let pieces = c.in_ok-seal.ensures.cases in
    stays_shut c.args.self.now c.args.to c.args.bytes.now c.in_ok-seal.seal.now c.in_ok-seal.frame.now c.seal_of.result c.sender_of.result c.is_same.result
    pieces.0 pieces.1 (omega (arith, pieces.2)) c.sender_of.ensures c.seal_of.ensures c.is_same.ensures c.if-is_same.false
