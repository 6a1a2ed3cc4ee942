use Rattle.service_file.proofs.TextLaws.{addresses_have_no_text}
use Rattle.service_file.proofs.laws.texts_have_no_addresses.Goals as goal

pub returns : goal.returns
returns c = addresses_have_no_text
