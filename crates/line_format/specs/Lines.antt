-- The lines of a schedule: what is read as an event, and how an event is spelled.
use Rattle.std.specs.Prelude.{◌≡◌, ℕ, zero, suc, ◌+◌, ◌*◌, List, [], ◌∷◌, ◌++◌, map, Option, Some, None, codes, decimal, ◌==◌, if◌then◌else◌}
use Rattle.std.specs.List.{flat_map}
use Rattle.ring_points.specs.Limits.{most_frame, most_nodes}
use Rattle.fabric_terms.specs.declared.event.Event.{Event}
use Rattle.fabric_terms.specs.declared.event.Event.TheVariants.{Start, Stop, Tick, Fire, Give, Do, Junk}
use Rattle.fabric_terms.specs.Ranges.{Fits, most}
use Rattle.text_fields.specs.Actors.{node_at, arbiter_at, actor_at, actor_text}
use Rattle.text_fields.specs.Codes.{line_feed_code}
use Rattle.text_fields.specs.Fields.{◌>>=◌, Field, after_word, last, word_of, made, followed, pair_at, behind, nothing, sized}
use Rattle.text_fields.specs.Numbers.{number_in}
use Rattle.text_fields.specs.Points.{hex_value, hex_text}
use Rattle.text_fields.specs.Texts.{spaced}
use Rattle.line_format.specs.Commands.{command_of, command_text}

-- the lines of some bytes: each ends with a line feed, and the last may end with the bytes
abbrev pub onto_first : ℕ → List (List ℕ) → List (List ℕ)
onto_first b [] = (b ∷ []) ∷ []
onto_first b (l ∷ ls) = (b ∷ l) ∷ ls

abbrev pub lines_of : List ℕ → List (List ℕ)
lines_of [] = []
lines_of (b ∷ bs) = if b == line_feed_code then [] ∷ lines_of bs else onto_first b (lines_of bs)

-- ticks, a reading, or a frame's number
abbrev pub count_at : List ℕ → Field ℕ
count_at = number_in 0 most

abbrev pub node_start : ℕ → ℕ → Event
node_start node reading = Start node (Some reading)

abbrev pub arbiter_start : ℕ → Event
arbiter_start actor = Start actor None

-- behind `start`: `aK` for an arbitrator, or `N READING` for a node
unfoldable pub start_of : List ℕ → Option Event
start_of = behind (codes "a") (made arbiter_start (last arbiter_at)) (followed (word_of node_at) (last count_at) node_start)

-- a node and the reading of its clock, behind a blank: ` N:READING`
unfoldable pub reading_at : List ℕ → Field (ℕ × ℕ)
reading_at bytes = after_word (codes " ") bytes >>= pair_at node_at (codes ":") count_at

-- up to k readings, to the end of the line
unfoldable pub readings_of : ℕ → List ℕ → Option (List (ℕ × ℕ))
readings_of k [] = Some []
readings_of zero (b ∷ bs) = None
readings_of (suc k) (b ∷ bs) = reading_at (b ∷ bs) >>= λ first. readings_of k first.1 >>= λ more. Some (first.0 ∷ more)

-- behind `tick`: `ADVANCE N:READING ..`
unfoldable pub tick_of : List ℕ → Option Event
tick_of bytes = count_at bytes >>= λ advance. made (Tick advance.0) (readings_of most_nodes) advance.1

-- bytes, two digits each
abbrev pub bytes_of : List ℕ → Option (List ℕ)
bytes_of [] = Some []
bytes_of (d ∷ []) = None
bytes_of (d ∷ e ∷ rest) =
    hex_value d >>= λ high. hex_value e >>= λ low. bytes_of rest >>= λ more. Some ((16 * high + low) ∷ more)

-- one byte or more in hexadecimal digits, to the end of the line
unfoldable pub junk_bytes_of : List ℕ → Option (List ℕ)
junk_bytes_of = sized 2 (2 * most_frame) bytes_of

-- behind `do`: `N COMMAND`
unfoldable pub do_of : List ℕ → Option Event
do_of = followed (word_of node_at) command_of Do

-- behind `junk`: `ACTOR HEX`
unfoldable pub junk_of : List ℕ → Option Event
junk_of = followed (word_of actor_at) junk_bytes_of Junk

-- a line of the schedule
unfoldable pub event_of : List ℕ → Option Event
event_of =
    behind (codes "start ") start_of (
    behind (codes "stop ") (made Stop (last actor_at)) (
    behind (codes "tick ") tick_of (
    behind (codes "fire ") (made Fire (last node_at)) (
    behind (codes "give ") (made Give (last count_at)) (
    behind (codes "do ") do_of (
    behind (codes "junk ") junk_of nothing
    )
    )
    )
    )
    )
    )

-- How an event is spelled. Words are separated by one blank.

abbrev pub reading_text : ℕ × ℕ → List ℕ
reading_text r = decimal r.0 ++ (codes ":" ++ decimal r.1)

abbrev pub bytes_text : List ℕ → List ℕ
bytes_text bytes = flat_map (hex_text 2) bytes

abbrev pub event_text : Event → List ℕ
event_text (Start actor None) = spaced (codes "start" ∷ actor_text actor ∷ [])
event_text (Start actor (Some reading)) = spaced (codes "start" ∷ decimal actor ∷ decimal reading ∷ [])
event_text (Stop actor) = spaced (codes "stop" ∷ actor_text actor ∷ [])
event_text (Tick advance readings) = spaced (codes "tick" ∷ decimal advance ∷ map reading_text readings)
event_text (Fire node) = spaced (codes "fire" ∷ decimal node ∷ [])
event_text (Give frame) = spaced (codes "give" ∷ decimal frame ∷ [])
event_text (Do node command) = spaced (codes "do" ∷ decimal node ∷ command_text command ∷ [])
event_text (Junk actor bytes) = spaced (codes "junk" ∷ actor_text actor ∷ bytes_text bytes ∷ [])

-- what is read is spelled so
abbrev pub ReadIsSpelled : Type 0
ReadIsSpelled = (line : List ℕ) (e : Event) → event_of line ≡ Some e → Fits e × (line ≡ event_text e)

-- what is spelled so is read
abbrev pub SpelledIsRead : Type 0
SpelledIsRead = (e : Event) → Fits e → event_of (event_text e) ≡ Some e
