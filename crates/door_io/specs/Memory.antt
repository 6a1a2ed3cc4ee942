-- What contracts see of the devices in memory.
use Rattle.std.specs.Prelude.{ℕ, Bool, true, false, List, [], length, take, nat_le, Option, Some, None, if◌then◌else◌}
use Rattle.std.specs.List.{filter_map}
use Rattle.door_io.specs.declared.mem_door.Scripted.{Scripted}
use Rattle.door_io.specs.declared.mem_door.Scripted.TheVariants as script
use Rattle.door_io.specs.declared.mem_page_door.ScriptedHead.{ScriptedHead}
use Rattle.door_io.specs.declared.mem_page_door.ScriptedHead.TheVariants as heads
use Rattle.door_io.specs.Doors.{Arrived, Asked, Gone, most_asked}
use Rattle.door_io.specs.Pages.{Grown, most_head}

-- a client: how many bytes it takes in all, what was said to it, and whether it was dropped
pub record ToldClient : Type 0 where
  pub room : ℕ
  pub said : List ℕ
  pub dropped : Bool

-- a door: what is to come, None where a call finds nothing, and the clients by their numbers
pub record ToldDoor : Type 0 where
  pub script : List (Option Arrived)
  pub clients : List ToldClient

-- a page: the heads to come, None where a call finds nothing, and the clients by their numbers
pub record ToldPage : Type 0 where
  pub script : List (Option Grown)
  pub clients : List ToldClient

abbrev pub to_come : {A : Type 0} → List (Option A) → List A
to_come script = filter_map (λ a. a) script

-- what was said to a client; nothing to one that is not there
abbrev pub said_to : Option ToldClient → List ℕ
said_to None = []
said_to (Some client) = client.said

-- a client that is not there is dropped
abbrev pub is_dropped : Option ToldClient → Bool
is_dropped None = true
is_dropped (Some client) = client.dropped

-- a log: how many lines it has room for, the lines, and how many were dropped
pub record ToldLog : Type 0 where
  pub room : ℕ
  pub lines : List (List ℕ)
  pub dropped : ℕ

-- no line is longer: a longer one of a script is too long
abbrev pub line_or_long : List ℕ → Option (List ℕ)
line_or_long line = if nat_le (length line) most_asked then Some line else None

-- an entry of a script, as it was handed in
abbrev pub told_scripted : Scripted → Option Arrived
told_scripted (script.Line client line) = Some (Asked client (line_or_long line.items))
told_scripted (script.TooLong client) = Some (Asked client None)
told_scripted (script.Gone client) = Some (Gone client)
told_scripted script.Quiet = None

-- an entry of a script of heads, as it was handed in; of a longer head the front comes
abbrev pub told_head : ScriptedHead → Option Grown
told_head (heads.Grown client head) = Some (record { client = client; head = take most_head head.items })
told_head heads.Quiet = None

abbrev pub fresh_client : ℕ → ToldClient
fresh_client room = record { room = room; said = []; dropped = false }

abbrev pub fresh_log : ℕ → ToldLog
fresh_log room = record { room = room; lines = []; dropped = 0 }
