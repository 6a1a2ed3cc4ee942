use Rattle.parent_hold.proofs.Numbers.{from_here}
use Rattle.parent_hold.proofs.laws.each_loss_has_its_number.Goals as goal

pub returns : goal.returns
returns c = λ had told now t. from_here had told now 0 t told
