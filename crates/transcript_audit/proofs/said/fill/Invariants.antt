use Rattle.std.proofs.Common.{◌≡◌, ◌-◌, ◌≤◌, [], None, vec_len}
use Rattle.transcript_audit.specs.Said.{clocks_on}
use Rattle.transcript_audit.proofs.said.fill.Given as goal

-- the clocks so far, and then those of the rest
abbrev pub invariant-loop-rest : goal.invariant-loop-rest
invariant-loop-rest l = record {
  few : vec_len l.clocks ≤ 64;
  read : clocks_on (64 - vec_len l.clocks) l.above l.clocks.items l.rest ≡ clocks_on 64 None [] l.bytes;
}

abbrev pub decreases-loop-rest : goal.decreases-loop-rest
decreases-loop-rest l = 64 - vec_len l.clocks
