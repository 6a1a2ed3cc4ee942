-- Who may ask what.
use Rattle.std.specs.Prelude.{Bool, true, false, not}
use Rattle.fabric_terms.specs.declared.command.Command.{Command}
use Rattle.fabric_terms.specs.declared.command.Command.TheVariants.{LinkFor}
use Rattle.door_lines.specs.declared.asked.Request.{Request}
use Rattle.door_lines.specs.declared.asked.Request.TheVariants as request
use Rattle.door_lines.specs.declared.asked.Speaker.{Speaker}
use Rattle.door_lines.specs.declared.asked.Speaker.TheVariants.{NodeClient, ChildClient, Parent, ArbiterClient}

-- a command for a link with a length of its own
abbrev pub has_length : Command → Bool
has_length (LinkFor node length) = true
has_length _ = false

-- an arbitrator takes no command, and the links of a node with a parent have one length
abbrev pub may_command : Speaker → Command → Bool
may_command NodeClient command = true
may_command ChildClient command = not (has_length command)
may_command Parent command = not (has_length command)
may_command ArbiterClient command = false

abbrev pub is_of_node : Speaker → Bool
is_of_node ArbiterClient = false
is_of_node _ = true

abbrev pub is_parent : Speaker → Bool
is_parent Parent = true
is_parent _ = false

-- the requests that this speaker has
abbrev pub may_ask : Speaker → Request → Bool
may_ask speaker (request.Command command) = may_command speaker command
may_ask speaker request.State = true
may_ask speaker (request.Log partition first count) = is_of_node speaker
may_ask speaker request.Watch = true
may_ask speaker request.WatchAll = true
may_ask speaker request.Leave = true
may_ask speaker request.End = true
may_ask speaker (request.Hold point) = is_parent speaker
may_ask speaker (request.Lead partition) = is_parent speaker
