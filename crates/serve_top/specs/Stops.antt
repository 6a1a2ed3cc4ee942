-- How the program ends by the end of what it served.
use Rattle.fabric_status.specs.declared.status.Status.{Status}
use Rattle.fabric_status.specs.declared.status.Status.TheVariants as status
use Rattle.serve_lives.specs.declared.ending.ServeEnd.{ServeEnd}
use Rattle.serve_lives.specs.declared.ending.ServeEnd.TheVariants as served
use Rattle.turn_rules.specs.declared.stop_cause.StopCause.{StopCause}
use Rattle.turn_rules.specs.declared.stop_cause.StopCause.TheVariants as stop

-- each cause has the status of that name
abbrev pub status_of : StopCause → Status
status_of stop.OutOfMemory = status.OutOfMemory
status_of stop.WriteFault = status.WriteFault
status_of stop.KeepFault = status.KeepFault
status_of stop.LinkFault = status.LinkFault
status_of (stop.ClockBack former latter) = status.ClockBack former latter
status_of (stop.Left why) = status.Left why
status_of (stop.BadKeep index) = status.BadKeep index
status_of stop.TableFull = status.TableFull

-- a process that was told to end, or has used up its turns, has done all
abbrev pub status_by : ServeEnd → Status
status_by served.Told = status.Ok
status_by served.Spent = status.Ok
status_by (served.Stopped cause) = status_of cause
status_by (served.NotBegun cause) = status_of cause
