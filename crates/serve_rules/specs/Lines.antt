-- What a line of a client is, and what is answered at once.
use Rattle.std.specs.Prelude.{ℕ, List, Option, Some, None, if◌then◌else◌}
use Rattle.fabric_terms.specs.declared.command.Command.{Command}
use Rattle.door_lines.specs.Requests.{asked_of, done_of, tag_of}
use Rattle.door_lines.specs.Speakers.{is_parent}
use Rattle.door_lines.specs.declared.asked.Asked.{Asked}
use Rattle.door_lines.specs.declared.asked.Request.{Request}
use Rattle.door_lines.specs.declared.asked.Request.TheVariants as request
use Rattle.door_lines.specs.declared.fault.Fault.{Fault}
use Rattle.door_lines.specs.declared.asked.Speaker.{Speaker}
use Rattle.door_lines.specs.declared.asked.Speaker.TheVariants.{Parent}
use Rattle.door_lines.specs.declared.fault.Fault.TheVariants as fault
use Rattle.open_answers.specs.Answers.{is_full}
use Rattle.client_sessions.specs.Sessions.{Kept}
use Rattle.client_sessions.specs.Watching.{has_place}
use Rattle.serve_rules.specs.Services.{actor_of, speaker_of}
use Rattle.turn_rules.specs.Plans.{Plan}
use Rattle.world_rules.specs.Schedules.{command_names}

pub data Line : Type 0 where
  -- it is refused, and changes nothing
  Refused : (tag : Option ℕ) (fault : Fault) → Line
  -- a command for the actor
  Commands : (tag : ℕ) (command : Command) → Line
  -- it is answered at once
  AtOnce : (tag : ℕ) (request : Request) → Line
  -- the parent has let go of what was given up by this number; it comes to no actor, and is not answered
  LetsGo : (number : ℕ) → Line

-- the command names nodes that are there, and its answer finds room
abbrev pub command_line : Plan → Kept → ℕ → Command → Line
command_line plan v tag c =
    if command_names plan.config (actor_of plan) c
    then (if is_full v.answers then Refused (Some tag) fault.Busy else Commands tag c)
    else Refused (Some tag) fault.NoSuch

-- a client that is to watch finds a place
abbrev pub place_line : Kept → ℕ → ℕ → Request → Line
place_line v client tag r = if has_place v.watchers client then AtOnce tag r else Refused (Some tag) fault.Busy

-- a parent has every report of the log without asking
abbrev pub watch_line : Plan → Kept → ℕ → ℕ → Request → Line
watch_line plan v client tag r = if is_parent (speaker_of plan v client) then Refused (Some tag) fault.Line else place_line v client tag r

abbrev pub request_line : Plan → Kept → ℕ → ℕ → Request → Line
request_line plan v client tag (request.Command c) = command_line plan v tag c
request_line plan v client tag request.Watch = watch_line plan v client tag request.Watch
request_line plan v client tag request.WatchAll = watch_line plan v client tag request.WatchAll
request_line plan v client tag r = AtOnce tag r

abbrev pub asked_line : Plan → Kept → ℕ → Option ℕ → Option Asked → Line
asked_line plan v client tag None = Refused tag fault.Line
asked_line plan v client tag (Some asked) = request_line plan v client asked.tag asked.request

-- the number of which this speaker says that it has let go: a parent alone does
abbrev pub let_go_by : Speaker → List ℕ → Option ℕ
let_go_by Parent bytes = done_of bytes
let_go_by _ bytes = None

abbrev pub spoken_line : Plan → Kept → ℕ → List ℕ → Option ℕ → Line
spoken_line plan v client bytes (Some number) = LetsGo number
spoken_line plan v client bytes None = asked_line plan v client (tag_of bytes) (asked_of (speaker_of plan v client) bytes)

-- The tests come in this order: its length, whether it lets go, its grammar, the nodes that it names, and room for its answer.
unfoldable pub line_of : Plan → Kept → ℕ → Option (List ℕ) → Line
line_of plan v client None = Refused None fault.Large
line_of plan v client (Some bytes) = spoken_line plan v client bytes (let_go_by (speaker_of plan v client) bytes)
