use Rattle.std.proofs.Common.{◌≡◌, Contains, length}
use Rattle.ring_points.specs.declared.who.Who.{Who}
use Rattle.run_audit.specs.Clocks.{from_who}
use Rattle.run_audit.proofs.holders.from.Given as goal

abbrev pub invariant-loop-rest : goal.invariant-loop-rest
invariant-loop-rest l = record {
  among : (w : Who) → Contains l.rest w → Contains l.lived w;
  exact : from_who l.who l.rest ≡ from_who l.who l.lived;
}

abbrev pub decreases-loop-rest : goal.decreases-loop-rest
decreases-loop-rest l = length l.rest
