use Rattle.turn_rules.proofs.Barred.{bad_records_bar}
use Rattle.turn_rules.proofs.laws.a_bad_record_bars_a_run.Goals as goal

pub returns : goal.returns
returns c = bad_records_bar
