use Rattle.std.proofs.Common.{arith, ◌∙◌}
use Rattle.fabric_edge.proofs.Framed.{first_is}
use Rattle.fabric_edge.proofs.record_file.first_record.Goals as goal

pub returns-clause-found : goal.returns-clause-found
returns-clause-found c =
    let halves = c.in_ok-length.ensures.cases in
    first_is c.args.bytes.now c.in_ok-length.length.now c.in_ok-length.rest.now c.in_ok-first.first.now c.in_ok-first.later.now c.from.result
    (λ i. let byte = c.type_inv.bytes i in omega arith) (omega (arith, halves.2)) halves.0 halves.1 (c.from.ensures ∙ c.from_be_bytes.ensures) c.in_ok-first.ensures.cases
