use Rattle.std.proofs.Common.{◌≡◌, ◌∙◌, arith}
use Rattle.std.proofs.lemmas.Bool.Decides.{nat_tests}
use Rattle.unit_replica.proofs.Naming.{added_next}
use Rattle.unit_replica.proofs.log_names.LogNames.add.Goals as goal

pub returns-in-Ok : goal.returns-in-Ok
returns-in-Ok c =
    let next : c.args.lsn ≡ c.saturating_add.result = grind (arith, nat_tests, c.if-saturating_add-lsn.false) in
    λ old entry same behind h. added_next old entry c.args.bytes.now c.args.lsn c.args.self.now.count _ c.args.self.now.names c.apply_bytes.new.self
    same behind (next ∙ c.saturating_add.ensures) c.in-Ok.ensures.ok h
