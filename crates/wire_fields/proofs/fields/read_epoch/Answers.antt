use Rattle.std.proofs.Common.{arith}
use Rattle.wire_fields.specs.Texts.{epoch_bytes}
use Rattle.wire_fields.proofs.FieldLaws.{epoch_is}
use Rattle.wire_fields.proofs.Standing.{stands_found, stands_none, stands_sized, epoch_length}
use Rattle.wire_fields.proofs.fields.read_epoch.Goals as goal

pub returns-in-Ok : goal.returns-in-Ok
returns-in-Ok c =
    let x = c.in-Ok.epoch in
    let s = stands_found epoch_is c.args.bytes.now c.args.at x c.in-Ok.field-0-1.now (λ k. omega (arith, c.type_inv.bytes k)) (omega arith) c.in-Ok.ensures in
    (s.0, stands_sized (epoch_bytes x) c.args.bytes.now c.args.at _ 8 s.1 (epoch_length x))

pub returns-in-Err : goal.returns-in-Err
returns-in-Err c = stands_none epoch_is c.args.bytes.now c.args.at c.in-Err.ensures
