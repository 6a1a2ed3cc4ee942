use Rattle.std.proofs.Common.{arith}
use Rattle.wire_fields.proofs.ConfigLaws.{config_is}
use Rattle.wire_fields.proofs.Standing.{stands_found, stands_none, rest_fits}
use Rattle.wire_fields.proofs.fields.read_config_field.Goals as goal

pub overflow_sub-result : goal.overflow_sub-result
overflow_sub-result c =
    rest_fits config_is c.args.bytes.now c.args.at c.in-Ok.config c.in-Ok.rest.now (λ k. omega (arith, c.type_inv.bytes k)) c.in-Ok.ensures

pub returns-in-Ok : goal.returns-in-Ok
returns-in-Ok c =
    stands_found config_is c.args.bytes.now c.args.at c.in-Ok.config c.in-Ok.rest.now (λ k. omega (arith, c.type_inv.bytes k)) (omega arith) c.in-Ok.ensures

pub returns-in-Err : goal.returns-in-Err
returns-in-Err c = stands_none config_is c.args.bytes.now c.args.at c.in-Err.ensures
