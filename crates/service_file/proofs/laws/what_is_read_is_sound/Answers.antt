use Rattle.service_file.proofs.Soundness.{read_sound}
use Rattle.service_file.proofs.laws.what_is_read_is_sound.Goals as goal

pub returns : goal.returns
returns c = read_sound
