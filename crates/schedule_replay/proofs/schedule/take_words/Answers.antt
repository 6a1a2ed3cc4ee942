use Rattle.std.proofs.Common.{◌≡◌, ℕ, List, Some, sym, subst, ◌∙◌}
use Rattle.fabric_terms.specs.declared.event.Event.TheVariants.{Start, Stop, Tick, Fire, Give, Do, Junk}
use Rattle.fabric_terms.specs.Ranges.{Fits}
use Rattle.text_fields.specs.Fields.{made}
use Rattle.line_format.specs.Commands.{command_of}
use Rattle.line_format.specs.Lines.{event_of, junk_bytes_of}
use Rattle.line_format.proofs.LineLaws.{read_is_spelled}
use Rattle.schedule_replay.proofs.schedule.take_words.Goals as goal

pub take_fire-requires-clause-fits : goal.take_fire-requires-clause-fits
take_fire-requires-clause-fits g c =
    let line = c.args.line.now in
    let node = c.in-Ok-Fire.node in
    let read : event_of line ≡ Some (Fire node) = rw c.in-Ok-Fire.field-0-is at c.in-Ok-Fire.ensures in
    (read_is_spelled line (Fire node) read).0

pub take_give-requires-clause-fits : goal.take_give-requires-clause-fits
take_give-requires-clause-fits g c =
    let line = c.args.line.now in
    let frame = c.in-Ok-Give.frame in
    let read : event_of line ≡ Some (Give frame) = rw c.in-Ok-Give.field-0-is at c.in-Ok-Give.ensures in
    (read_is_spelled line (Give frame) read).0

pub take_tick-requires-clause-fits : goal.take_tick-requires-clause-fits
take_tick-requires-clause-fits g c =
    let line = c.args.line.now in
    let advance = c.in-Ok-Tick.advance in
    let rs = c.read_event_line.new.readings.items in
    let read : event_of line ≡ Some (Tick advance rs) = rw c.in-Ok-Tick.field-0-is at c.in-Ok-Tick.ensures in
    subst (λ (xs : List (ℕ × ℕ)). Fits (Tick advance xs)) (sym c.as_slice.ensures.value) (read_is_spelled line (Tick advance rs) read).0

pub take_start-requires-clause-fits : goal.take_start-requires-clause-fits
take_start-requires-clause-fits g c =
    let line = c.args.line.now in
    let actor = c.in-Ok-Start.actor in
    let reading = c.in-Ok-Start.reading in
    let read : event_of line ≡ Some (Start actor reading) = rw c.in-Ok-Start.field-0-is at c.in-Ok-Start.ensures in
    (read_is_spelled line (Start actor reading) read).0

pub take_stop-requires-clause-fits : goal.take_stop-requires-clause-fits
take_stop-requires-clause-fits g c =
    let line = c.args.line.now in
    let actor = c.in-Ok-Stop.actor in
    let read : event_of line ≡ Some (Stop actor) = rw c.in-Ok-Stop.field-0-is at c.in-Ok-Stop.ensures in
    (read_is_spelled line (Stop actor) read).0

pub take_command-requires-clause-fits : goal.take_command-requires-clause-fits
take_command-requires-clause-fits g c =
    let line = c.args.line.now in
    let read : event_of line ≡ made (Do c.in-Ok-Do.node) command_of c.in-Ok-Do.words.now = rw c.in-Ok-Do.field-0-is at c.in-Ok-Do.ensures in
    record { fits = λ e is. (read_is_spelled line e (read ∙ is)).0 }

pub take_junk-requires-clause-fits : goal.take_junk-requires-clause-fits
take_junk-requires-clause-fits g c =
    let line = c.args.line.now in
    let read : event_of line ≡ made (Junk c.in-Ok-Junk.actor) junk_bytes_of c.in-Ok-Junk.digits.now = rw c.in-Ok-Junk.field-0-is at c.in-Ok-Junk.ensures in
    record { fits = λ e is. (read_is_spelled line e (read ∙ is)).0 }
