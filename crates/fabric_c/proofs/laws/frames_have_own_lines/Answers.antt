use Rattle.fabric_c.specs.Lines.{frame_line}
use Rattle.fabric_c.proofs.Backs.{frames_begin, own_lines}
use Rattle.fabric_c.proofs.laws.frames_have_own_lines.Goals as goal

pub returns : goal.returns
returns c = own_lines frame_line frames_begin
