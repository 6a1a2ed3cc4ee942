use Rattle.std.proofs.Common.{drop}
use Rattle.arbiter_core.proofs.Restores.{IsRestoring}
use Rattle.arbiter_core.proofs.arbiter.Arbiter.restore.Given as goal

abbrev pub invariant-loop-item : goal.invariant-loop-item
invariant-loop-item l = IsRestoring l.number l.records (drop l.item-index l.records) l.arbiter
