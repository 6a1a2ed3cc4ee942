use Rattle.keep_log.proofs.InPlace.{in_place_is_taken}
use Rattle.keep_log.proofs.laws.a_record_in_its_place_is_taken.Goals as goal

pub returns : goal.returns
returns c = in_place_is_taken
