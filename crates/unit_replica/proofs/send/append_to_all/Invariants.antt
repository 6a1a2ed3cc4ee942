use Rattle.std.proofs.Common.{◌≡◌, ◌+◌, ◌≤◌, ◌++◌, drop, length, map}
use Rattle.unit_rules.specs.Deeds.{frames_of}
use Rattle.unit_rules.specs.Writes.{append_to}
use Rattle.unit_replica.proofs.send.append_to_all.Given as goal

-- what was sent, and what is still to be sent
abbrev pub invariant-loop-peer : goal.invariant-loop-peer
invariant-loop-peer l = record {
  so_far : l.out ++ frames_of (map (append_to l.epoch l.replica l.lsn l.text) (drop l.peer-index l.peers)) ≡ l.initial.out ++ frames_of (map (append_to l.epoch l.replica l.lsn l.text) l.peers);
  room : length l.out ≤ length l.initial.out + l.peer-index;
}
