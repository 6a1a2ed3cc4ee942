use Rattle.door_lines.proofs.ReplyLaws.{replies_apart}
use Rattle.door_lines.proofs.laws.replies_have_one_line.Goals as goal

pub returns : goal.returns
returns c = replies_apart
