use Rattle.text_fields.proofs.EpochLaws.{epoch_is}
use Rattle.text_fields.proofs.epoch.epochs_have_one_text.Goals as goal

pub returns : goal.returns
returns c = epoch_is
