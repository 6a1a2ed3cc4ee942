-- The events of a generated schedule, but for its ticks, as the code has them.
use Rattle.std.specs.Prelude.{List, map}
use Rattle.fabric_terms.specs.declared.command.Command.TheVariants.{Link as AsksLink}
use Rattle.fabric_terms.specs.declared.event.Event.{Event}
use Rattle.fabric_terms.specs.declared.event.Event.TheVariants as event
use Rattle.schedule_generate.specs.declared.moves.Move.{Move}
use Rattle.schedule_generate.specs.declared.moves.Move.TheVariants.{Start, Stop, Fire, Give, Link}

abbrev pub event_for : Move → Event
event_for (Start actor reading) = event.Start actor reading
event_for (Stop actor) = event.Stop actor
event_for (Fire node) = event.Fire node
event_for (Give frame) = event.Give frame
event_for (Link node other) = event.Do node (AsksLink other)

abbrev pub events_for : List Move → List Event
events_for moves = map event_for moves
