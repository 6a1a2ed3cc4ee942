-- What a line of a schedule says, when its first words are read.
use Rattle.std.specs.Prelude.{◌≡◌, ℕ, List, get_or, Option, Some, None, Result, Ok, Err}
use Rattle.fabric_terms.specs.declared.event.Event.{Event}
use Rattle.fabric_terms.specs.declared.event.Event.TheVariants as event
use Rattle.text_fields.specs.Fields.{made}
use Rattle.line_format.specs.Commands.{command_of}
use Rattle.line_format.specs.Lines.{junk_bytes_of}
use Rattle.line_format.specs.declared.bad_line.BadLine.{BadLine}
use Rattle.sched_text.specs.declared.event_line.EventLine.{EventLine}
use Rattle.sched_text.specs.declared.event_line.EventLine.TheVariants.{Start, Stop, Tick, Fire, Give, Do, Junk}

-- the event that a line tells, with these readings in the caller's list; none, where a command or junk is none
abbrev pub told_by : List (ℕ × ℕ) → EventLine → Option Event
told_by readings (Start actor reading) = Some (event.Start actor reading)
told_by readings (Stop actor) = Some (event.Stop actor)
told_by readings (Tick advance) = Some (event.Tick advance readings)
told_by readings (Fire node) = Some (event.Fire node)
told_by readings (Give frame) = Some (event.Give frame)
told_by readings (Do node words) = made (event.Do node) command_of words.now
told_by readings (Junk actor digits) = made (event.Junk actor) junk_bytes_of digits.now

-- the third byte of a line, or 0
abbrev pub third_byte : List ℕ → ℕ
third_byte line = get_or line 2 0

-- what a reader gives of a line, and the list that it leaves, tell this event and no other
abbrev pub Tells : List (ℕ × ℕ) → Result EventLine BadLine → Option Event → Type 0
Tells readings (Ok line) event = event ≡ told_by readings line
Tells readings (Err _) event = event ≡ None
