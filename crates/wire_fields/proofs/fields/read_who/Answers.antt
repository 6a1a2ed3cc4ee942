use Rattle.std.proofs.Common.{arith}
use Rattle.wire_fields.specs.Texts.{who_bytes}
use Rattle.wire_fields.proofs.FieldLaws.{who_is}
use Rattle.wire_fields.proofs.Standing.{stands_found, stands_none, stands_sized, who_length}
use Rattle.wire_fields.proofs.fields.read_who.Goals as goal

pub returns-in-Ok : goal.returns-in-Ok
returns-in-Ok c =
    let x = c.in-Ok.who in
    let s = stands_found who_is c.args.bytes.now c.args.at x c.in-Ok.field-0-1.now (λ k. omega (arith, c.type_inv.bytes k)) (omega arith) c.in-Ok.ensures in
    (s.0, stands_sized (who_bytes x) c.args.bytes.now c.args.at _ 6 s.1 (who_length x))

pub returns-in-Err : goal.returns-in-Err
returns-in-Err c = stands_none who_is c.args.bytes.now c.args.at c.in-Err.ensures
