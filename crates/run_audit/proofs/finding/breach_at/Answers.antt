use Rattle.run_audit.proofs.Findings.{finds_ring, finds_victim, finds_rest}
use Rattle.run_audit.specs.Findings.{Finds}
use Rattle.run_audit.proofs.finding.breach_at.Goals as goal
use Rattle.std.proofs.Common.{subst, sym}

pub returns-in-Some : goal.returns-in-Some
returns-in-Some c = finds_ring c.args.line c.args.rows.now c.args.taken.now c.args.findings c.in-Some.o c.in-Some.ensures

pub returns-in-Some-first_victim : goal.returns-in-Some-first_victim
returns-in-Some-first_victim c =
    finds_victim c.args.line c.args.rows.now c.args.taken.now c.args.findings c.in-Some-first_victim.v c.in_default.ensures c.in-Some-first_victim.ensures

pub returns-in-None : goal.returns-in-None
returns-in-None c =
    subst (λ b. Finds c.args.line c.args.rows.now c.args.taken.now c.args.findings b) (sym c.breach_of.ensures)
    (finds_rest c.args.line c.args.rows.now c.args.taken.now c.args.findings c.in_default.ensures c.in-None.ensures)
