use Rattle.std.proofs.Common.{◌≡◌, Contains}
use Rattle.ring_points.specs.declared.who.Who.{Who}
use Rattle.run_audit.specs.declared.overlap.LiveHolder.{LiveHolder}
use Rattle.run_audit.proofs.auditor.keep.Given as goal

abbrev pub invariant-loop-row : goal.invariant-loop-row
invariant-loop-row l = (w : Who) → Contains l.live.items w → (h : LiveHolder) × Contains l.rows h × (h.who ≡ w)
