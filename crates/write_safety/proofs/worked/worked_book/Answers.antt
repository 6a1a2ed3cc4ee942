use Rattle.std.proofs.Common.{refl}
use Rattle.std.specs.Fmt.{digits}
use Rattle.hex.proofs.OnLiterals.{hex_on_literals}
use Rattle.write_safety.proofs.worked.worked_book.Goals as goal

pub returns-clause-lines : goal.returns-clause-lines
unfolding digits hex_on_literals
returns-clause-lines c = refl

pub returns-clause-kept : goal.returns-clause-kept
returns-clause-kept c = refl

pub returns-clause-none : goal.returns-clause-none
returns-clause-none c = refl

pub returns-clause-longest : goal.returns-clause-longest
returns-clause-longest c = refl
