-- What comes of a client.
use Rattle.std.specs.Prelude.{◌≤◌}
use Rattle.door_io.specs.Doors.{most_asked}
use Rattle.serve_edge.specs.declared.client.Came.{Came}
use Rattle.serve_edge.specs.declared.client.Came.TheVariants as came

-- a line stands in the buffer as a whole
abbrev pub FitsLine : Came → Type 0
FitsLine (came.Line count) = count ≤ most_asked
FitsLine _ = Unit {0}
