use Rattle.std.proofs.Common.{rules}
use Rattle.wire_fields.proofs.Puts.{puts_more}
use Rattle.ring_wire.proofs.write.replicas.put_replica.Goals as goal

pub returns-in-Promised : goal.returns-in-Promised
returns-in-Promised c = rw c.in-Promised.is (search (rules, puts_more))

pub returns-in-Sync : goal.returns-in-Sync
returns-in-Sync c = rw c.in-Sync.is (search (rules, puts_more))

pub returns-in-Fetch : goal.returns-in-Fetch
returns-in-Fetch c = rw c.in-Fetch.is (search (rules, puts_more))

pub returns-in-Piece : goal.returns-in-Piece
returns-in-Piece c = rw c.in-Piece.is (search (rules, puts_more))

pub returns-in-Adopted : goal.returns-in-Adopted
returns-in-Adopted c = rw c.in-Adopted.is (search (rules, puts_more))
