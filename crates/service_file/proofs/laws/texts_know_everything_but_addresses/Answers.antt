use Rattle.service_file.proofs.TextLaws.{equal_texts}
use Rattle.service_file.proofs.laws.texts_know_everything_but_addresses.Goals as goal

pub returns : goal.returns
returns c = equal_texts
