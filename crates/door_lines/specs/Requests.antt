-- The lines that are asked: how they are read, how they are spelled, and that each undoes the other.
use Rattle.std.specs.Prelude.{◌≡◌, ℕ, List, [], ◌∷◌, ◌++◌, Option, Some, None, Result, Ok, Err, true, codes, decimal, if◌then◌else◌}
use Rattle.std.specs.Str.{bytes_eq}
use Rattle.ring_points.specs.Limits.{most_log_entries}
use Rattle.fabric_terms.specs.Ranges.{IsPartition, IsPoint, IsWord, FitsCommand}
use Rattle.text_fields.specs.Fields.{◌>>=◌, Field, after_word, last, word_of, made, both, followed, behind, nothing, such_that}
use Rattle.text_fields.specs.Numbers.{IsIn, number_in, most_long}
use Rattle.text_fields.specs.Points.{point_at, point_text}
use Rattle.text_fields.specs.Texts.{spaced}
use Rattle.line_format.specs.Commands.{partition_at, point_made, command_of, command_text}
use Rattle.line_format.specs.Readers.{short_at}
use Rattle.door_lines.specs.declared.asked.Asked.{Asked}
use Rattle.door_lines.specs.declared.asked.Request.{Request}
use Rattle.door_lines.specs.declared.asked.Request.TheVariants.{Command, State, Log, Watch, WatchAll, Leave, End, Hold, Lead}
use Rattle.door_lines.specs.declared.asked.Speaker.{Speaker}
use Rattle.door_lines.specs.declared.asked.Speaker.TheVariants.{NodeClient, ChildClient, Parent, ArbiterClient}
use Rattle.door_lines.specs.Speakers.{may_command, may_ask}

-- entries that one answer lists
abbrev pub most_listed_entries : ℕ
most_listed_entries = 64

-- these words and nothing more, or else what another reader reads
abbrev pub alone : {A : Type 0} → List ℕ → A → (List ℕ → Option A) → List ℕ → Option A
alone word x other bytes = if bytes_eq bytes word then Some x else other bytes

abbrev pub log_made : ℕ → ℕ × ℕ → Request
log_made partition entries = Log partition entries.0 entries.1

-- behind `log`: `P FROM COUNT`
unfoldable pub log_of : List ℕ → Option Request
log_of =
    followed (word_of partition_at) (followed (word_of (number_in 1 most_log_entries)) (last (number_in 1 most_listed_entries)) both) log_made

-- a command that this speaker may give
unfoldable pub command_request_of : Speaker → List ℕ → Option Request
command_request_of speaker = made Command (such_that (may_command speaker) command_of)

-- what a node is asked
unfoldable pub node_request_of : Speaker → List ℕ → Option Request
node_request_of speaker = behind (codes "log ") log_of (command_request_of speaker)

abbrev pub hold_made : ℕ → Request
hold_made p = Hold (point_made p)

-- what a node's parent asks
unfoldable pub parent_request_of : List ℕ → Option Request
parent_request_of =
    behind (codes "hold ") (made hold_made (last point_at)) (behind (codes "lead ") (made Lead (last partition_at)) (node_request_of Parent))

-- what not every actor is asked
abbrev pub own_request_of : Speaker → List ℕ → Option Request
own_request_of NodeClient = node_request_of NodeClient
own_request_of ChildClient = node_request_of ChildClient
own_request_of Parent = parent_request_of
own_request_of ArbiterClient = nothing

-- a request of this speaker
unfoldable pub request_of : Speaker → List ℕ → Option Request
request_of speaker =
    alone (codes "state") State (
    alone (codes "watch") Watch (
    alone (codes "watch all") WatchAll (
    alone (codes "leave") Leave (
    alone (codes "end") End (own_request_of speaker)
    )
    )
    )
    )

-- `@TAG`, and the blank behind it
unfoldable pub tag_at : List ℕ → Field ℕ
tag_at bytes = after_word (codes "@") bytes >>= word_of short_at

-- the tag, where one can be read
abbrev pub tag_of : List ℕ → Option ℕ
tag_of bytes = tag_at bytes >>= λ tag. Some tag.0

abbrev pub asked_made : ℕ → Request → Asked
asked_made tag request = record { tag = tag; request = request }

-- a line of this speaker, without its line feed
abbrev pub asked_of : Speaker → List ℕ → Option Asked
asked_of speaker = followed tag_at (request_of speaker) asked_made

-- a parent's other line: `done K`
unfoldable pub done_of : List ℕ → Option ℕ
done_of = behind (codes "done ") (last (number_in 1 most_long)) nothing

-- how a request is spelled
abbrev pub request_text : Request → List ℕ
request_text (Command command) = command_text command
request_text State = codes "state"
request_text (Log partition first count) = spaced (codes "log" ∷ decimal partition ∷ decimal first ∷ decimal count ∷ [])
request_text Watch = codes "watch"
request_text WatchAll = codes "watch all"
request_text Leave = codes "leave"
request_text End = codes "end"
request_text (Hold point) = spaced (codes "hold" ∷ point_text point.0 ∷ [])
request_text (Lead partition) = spaced (codes "lead" ∷ decimal partition ∷ [])

abbrev pub asked_text : Asked → List ℕ
asked_text asked = codes "@" ++ spaced (decimal asked.tag ∷ request_text asked.request ∷ [])

abbrev pub parent_done_text : ℕ → List ℕ
parent_done_text number = spaced (codes "done" ∷ decimal number ∷ [])

-- the numbers and texts of a request are in their ranges
abbrev pub FitsRequest : Request → Type 0
FitsRequest (Command command) = FitsCommand command
FitsRequest (Log partition first count) = IsPartition partition × IsIn 1 most_log_entries first × IsIn 1 most_listed_entries count
FitsRequest (Hold point) = IsPoint point.0
FitsRequest (Lead partition) = IsPartition partition
FitsRequest _ = Unit {0}

-- this speaker may ask so
abbrev pub FitsAsked : Speaker → Asked → Type 0
FitsAsked speaker asked = IsWord asked.tag × FitsRequest asked.request × (may_ask speaker asked.request ≡ true)

-- what a reader puts where it was told to; a refusal leaves that as it was
abbrev pub Puts : {X Y E : Type 0} → Result Y E → X → X → Option X → Type 0
Puts (Ok _) old new read = read ≡ Some new
Puts (Err _) old new read = (read ≡ None) × (new ≡ old)

-- What is read as a speaker's line is spelled so, and the speaker may ask it. What a speaker may ask is read.
abbrev pub AskedReadIsSpelled : Type 0
AskedReadIsSpelled = (speaker : Speaker) (line : List ℕ) (asked : Asked) → asked_of speaker line ≡ Some asked → FitsAsked speaker asked × (line ≡ asked_text asked)

abbrev pub SpelledAskedIsRead : Type 0
SpelledAskedIsRead = (speaker : Speaker) (asked : Asked) → FitsAsked speaker asked → asked_of speaker (asked_text asked) ≡ Some asked
