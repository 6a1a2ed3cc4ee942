use Rattle.write_safety.proofs.Feeding.{fed_books_lem}
use Rattle.write_safety.proofs.laws.fed_books_have_committed.Goals as goal

pub returns : goal.returns
returns c = fed_books_lem
