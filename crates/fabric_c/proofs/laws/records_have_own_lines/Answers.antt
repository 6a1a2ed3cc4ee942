use Rattle.fabric_c.specs.Lines.{record_line}
use Rattle.fabric_c.proofs.Backs.{own_lines, records_begin}
use Rattle.fabric_c.proofs.laws.records_have_own_lines.Goals as goal

pub returns : goal.returns
returns c = own_lines record_line records_begin
