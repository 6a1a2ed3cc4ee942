use Rattle.std.proofs.Common.{ap, sym, Some, None, Option, ℕ, ◌≡◌, ◌∙◌}
use Rattle.door_lines.proofs.AskedLaws.{asked_found}
use Rattle.door_lines.specs.Requests.{asked_of}
use Rattle.door_lines.specs.declared.asked.Speaker.{Speaker}
use Rattle.door_lines.specs.declared.fault.Fault.TheVariants as fault
use Rattle.serve_rules.proofs.Reading.{line_bad, line_good}
use Rattle.serve_rules.specs.Lines.{Refused, let_go_by}
use Rattle.serve_turns.proofs.lines.take_other.Goals as goal

pub returns-in-Err-clause-done : goal.returns-in-Err-clause-done
returns-in-Err-clause-done g c =
    let plan = c.args.service.now.plan in
    let bytes = c.args.spoken.line.now in
    let bad : asked_of c.speaker.result bytes ≡ None = c.in-Err.ensures.err in
    c.refuse_line.ensures.done plan (g.O.Outside.told c.args.outside.now) _ (Some bytes)
    (line_bad plan c.args.live.now.sessions c.args.spoken.client bytes c.requires.other (ap (λ (s : Speaker). asked_of s bytes) (sym c.speaker.ensures) ∙ bad)
    ∙ ap (λ (t : Option ℕ). Refused t fault.Line) (sym c.in-Err.ensures.tag))

pub returns-in-Ok-clause-done : goal.returns-in-Ok-clause-done
returns-in-Ok-clause-done g c =
    let plan = c.args.service.now.plan in
    let bytes = c.args.spoken.line.now in
    c.take_asked.ensures.done (Some bytes)
    (line_good plan c.args.live.now.sessions c.args.spoken.client bytes c.read_asked.new.asked c.requires.other
    (ap (λ (s : Speaker). asked_of s bytes) (sym c.speaker.ensures) ∙ c.in-Ok.ensures.ok))

pub take_asked-requires-clause-fits : goal.take_asked-requires-clause-fits
take_asked-requires-clause-fits g c =
    (asked_found _ c.args.spoken.line.now c.read_asked.new.asked (ap (λ (s : Speaker). asked_of s c.args.spoken.line.now) (sym c.speaker.ensures) ∙ c.in-Ok.ensures.ok)).0
