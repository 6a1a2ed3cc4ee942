use Rattle.std.proofs.Common.{◌≡◌, Err, sym, subst}
use Rattle.std.proofs.lemmas.Result.{err_from_is_err_and}
use Rattle.serve_top.specs.Setups.{JudgesFile}
use Rattle.serve_top.proofs.Refusing.{refuses}
use Rattle.serve_top.proofs.setup.read_setup.Goals as goal

pub returns-in_err-need_addresses-clause-file : goal.returns-in_err-need_addresses-clause-file
returns-in_err-need_addresses-clause-file c =
    let error = c.in_err-need_addresses.field-0.0 in
    let p = err_from_is_err_and c.from_residual-in_err-need_addresses.result c.from_residual-in_err-need_addresses.ensures.1 in
    let same : c.from_residual-in_err-need_addresses.result ≡ Err error = cc (p.1, p.2) in
    subst (JudgesFile c.args.bytes.now) (sym same)
    (refuses c.args.bytes.now c.in_ok-config.config c.in_ok-config.settings error c.in_ok-config.ensures.lines c.in_err-need_addresses.ensures)
