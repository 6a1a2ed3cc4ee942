use Rattle.std.proofs.Common.{refl}
use Rattle.fabric_terms.specs.declared.record.Record.TheVariants.{DoneFor}
use Rattle.keep_log.proofs.Growing.{told_more}
use Rattle.keep_log.proofs.reading.Reading.done.Goals as goal

pub returns-clause-told : goal.returns-clause-told
returns-clause-told c =
    let p = told_more _ _ _ _ _ _ (DoneFor c.args.config) c.requires.table c.requires.registers refl c.in_ok-finish.ensures.ok c.in_ok-push.ensures in
    record { table = p.0; registers = p.1 }
