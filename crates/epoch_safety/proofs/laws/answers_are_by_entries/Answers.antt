use Rattle.epoch_safety.proofs.Asked.{answers_by_entries_lem}
use Rattle.epoch_safety.proofs.laws.answers_are_by_entries.Goals as goal

pub returns : goal.returns
returns c = answers_by_entries_lem
