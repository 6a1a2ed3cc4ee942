use Rattle.service_file.proofs.FileLaws.{file_is}
use Rattle.service_file.proofs.laws.actor_files_have_one_text.Goals as goal

pub returns : goal.returns
returns c = file_is
