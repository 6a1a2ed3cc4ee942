use Rattle.std.proofs.Common.{◌≡◌, Some, ap, sym, ◌∙◌}
use Rattle.door_lines.specs.declared.asked.Speaker.{Speaker}
use Rattle.serve_rules.proofs.Reading.{line_lets_go}
use Rattle.serve_rules.specs.Lines.{let_go_by}
use Rattle.serve_turns.proofs.Quiet.{takes_let_go}
use Rattle.serve_turns.proofs.lines.take_line.Goals as goal

pub returns-in-Some-clause-done : goal.returns-in-Some-clause-done
returns-in-Some-clause-done g c =
    let plan = c.args.service.now.plan in
    let bytes = c.args.spoken.line.now in
    let has : c.let_go_by.result ≡ Some c.in-Some.number = cc in
    takes_let_go plan (g.O.Outside.told c.args.outside.now) (g.O.Outside.told c.let_go.new.self) (g.C.Clients.told c.args.audience.now.clients) (g.P.Policy.advised c.args.audience.now.policy) c.args.live.now _
    c.args.spoken.client c.in-Some.number c.requires.can.going c.let_go.ensures (Some bytes)
    (line_lets_go plan c.args.live.now.sessions c.args.spoken.client bytes c.in-Some.number (ap (λ (s : Speaker). let_go_by s bytes) (sym c.speaker.ensures) ∙ sym c.let_go_by.ensures ∙ has))
