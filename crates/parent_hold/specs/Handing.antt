-- What becomes of a step that is handed over, by what was seen before it.
use Rattle.std.specs.Prelude.{List, []}
use Rattle.edge_io.specs.declared.datagram.Datagram.{Datagram}
use Rattle.frame_hold.specs.Losses.{Had}
use Rattle.frame_hold.specs.declared.holding.Owed.{Owed}
use Rattle.parent_hold.specs.Had.{had_nothing}
use Rattle.parent_hold.specs.Lines.{Telling, begun_again}
use Rattle.parent_hold.specs.declared.seen.Seen.{Seen}
use Rattle.parent_hold.specs.declared.seen.Seen.TheVariants as was

-- what the node had before the step
abbrev pub had_by : Seen → Had
had_by (was.Had before) = before
had_by _ = had_nothing

-- A step before which there was nobody is the start of an instance. Nothing is told of it, owed or held, but the numbers
-- go on.

abbrev pub telling_by : Seen → Telling → Telling
telling_by was.Nobody t = begun_again t
telling_by _ t = t

abbrev pub owed_by : Seen → List Owed → List Owed
owed_by was.Nobody owed = []
owed_by _ owed = owed

abbrev pub held_by : Seen → List Datagram → List Datagram
held_by was.Nobody held = []
held_by _ held = held
