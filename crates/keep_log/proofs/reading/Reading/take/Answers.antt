use Rattle.std.proofs.Common.{arith}
use Rattle.keep_log.proofs.Spelled.{record_found}
use Rattle.keep_log.proofs.Takings.{none_stands, took}
use Rattle.keep_log.proofs.reading.Reading.take.Goals as goal

pub returns-in_default-clause-took : goal.returns-in_default-clause-took
returns-in_default-clause-took c = none_stands _ c.args.bytes.now c.in_default.ensures

pub take_item-requires-clause-sound : goal.take_item-requires-clause-sound
take_item-requires-clause-sound c = (record_found c.args.bytes.now _ (λ k. omega (arith, c.type_inv.bytes k)) c.in-Ok.ensures).0

pub returns-clause-took : goal.returns-clause-took
returns-clause-took c =
    took _ _ c.args.bytes.now _ c.take_item.result (λ k. omega (arith, c.type_inv.bytes k)) c.in-Ok.ensures c.take_item.ensures.taken
