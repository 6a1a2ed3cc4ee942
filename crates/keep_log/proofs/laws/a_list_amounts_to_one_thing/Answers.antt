use Rattle.keep_log.proofs.Lists.{all_decided}
use Rattle.keep_log.proofs.laws.a_list_amounts_to_one_thing.Goals as goal

pub returns : goal.returns
returns c = all_decided
