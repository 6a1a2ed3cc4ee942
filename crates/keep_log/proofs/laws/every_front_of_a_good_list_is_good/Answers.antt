use Rattle.keep_log.proofs.Lists.{fronts_are_good}
use Rattle.keep_log.proofs.laws.every_front_of_a_good_list_is_good.Goals as goal

pub returns : goal.returns
returns c = fronts_are_good
