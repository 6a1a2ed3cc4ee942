use Rattle.std.proofs.Common.{arith}
use Rattle.status_page.proofs.Heads.{too_long, too_full}
use Rattle.status_page.proofs.request.request_of.Goals as goal

pub returns-else-spans-le-MAX_HEAD : goal.returns-else-spans-le-MAX_HEAD
returns-else-spans-le-MAX_HEAD c =
    too_long _ _ _ (rw c.in-Ok-Complete.field-0-is at c.in-Ok-Complete.ensures.complete) (omega arith)

pub returns-else-head-lt-MAX_HEAD : goal.returns-else-head-lt-MAX_HEAD
returns-else-head-lt-MAX_HEAD c =
    too_full _ (rw c.in-Ok-Partial.field-0-is at c.in-Ok-Partial.ensures.partial) (omega arith)
