-- The moments of steps alone: those at which an actor did something.
use Rattle.std.specs.Prelude.{Bool, filter, is_some}
use Rattle.fabric_terms.specs.Runs.{Moment, Run}

abbrev pub is_step : Moment → Bool
is_step m = is_some m.entry

abbrev pub steps_of : Run → Run
steps_of run = filter is_step run
