-- The frames of an actor that wait.
use Rattle.std.specs.Prelude.{ℕ, List, map}
use Rattle.edge_io.specs.declared.datagram.Datagram.{Datagram}
use Rattle.group_commit.specs.declared.waiting.Waiting.{Waiting}

abbrev pub waiting_as : ℕ → Waiting → Datagram
waiting_as actor w = record { from = actor; to = w.to; bytes = w.bytes }

abbrev pub queue_of : ℕ → List Waiting → List Datagram
queue_of actor ws = map (waiting_as actor) ws
