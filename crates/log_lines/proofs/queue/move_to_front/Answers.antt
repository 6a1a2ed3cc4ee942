use Rattle.std.proofs.Common.{take, ap, ◌∙◌}
use Rattle.log_lines.proofs.Rooms.{moved}
use Rattle.log_lines.proofs.queue.move_to_front.Goals as goal

pub returns : goal.returns
returns c = ap (take _) c.copy_within.ensures.after ∙ moved c.args.next c.args.end c.args.room.now c.requires.rise c.requires.within
