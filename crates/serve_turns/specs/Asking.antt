-- Which requests are answered how.
use Rattle.std.specs.Prelude.{Bool, true, false}
use Rattle.door_lines.specs.declared.asked.Request.{Request}
use Rattle.door_lines.specs.declared.asked.Request.TheVariants as request

abbrev pub is_command : Request → Bool
is_command (request.Command c) = true
is_command _ = false

abbrev pub is_watch : Request → Bool
is_watch request.Watch = true
is_watch request.WatchAll = true
is_watch _ = false

abbrev pub watch_request : Bool → Request
watch_request true = request.WatchAll
watch_request false = request.Watch
