use Rattle.std.proofs.Common.{refl}
use Rattle.fabric_terms.specs.declared.record.Record.TheVariants.{ClaimedBy}
use Rattle.keep_log.proofs.Growing.{told_more}
use Rattle.keep_log.proofs.reading.Reading.claimed.Goals as goal

pub returns-clause-told : goal.returns-clause-told
returns-clause-told c =
    let p = told_more _ _ _ _ _ _ (ClaimedBy c.args.victim c.args.round c.args.claimer) c.requires.table c.requires.registers c.in_ok-claim.ensures.ok refl c.in_ok-push.ensures in
    record { table = p.0; registers = p.1 }
