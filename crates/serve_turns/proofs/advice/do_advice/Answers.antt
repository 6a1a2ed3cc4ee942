use Rattle.std.proofs.Common.{◌∷◌, refl, sym, ◌∙◌}
use Rattle.serve_rules.proofs.Reading.{may_bid}
use Rattle.serve_rules.specs.Events.{Advised, Event}
use Rattle.serve_turns.proofs.Commands.{advice_steps, bids_at, busy, meets_advice, reaches_to}
use Rattle.serve_turns.proofs.Quiet.{says_unnamed}
use Rattle.serve_turns.proofs.advice.do_advice.Goals as goal
use Rattle.serve_turns.specs.Live.{around}

pub returns-then-names-clause-done : goal.returns-then-names-clause-done
returns-then-names-clause-done g c =
    let plan = c.args.service.now.plan in
    let command = c.args.command in
    let named = sym c.names.ensures ∙ c.if-names.true in
    λ o es before at said.
    let b = around (g.O.Outside.told c.args.outside.now) (g.C.Clients.told c.args.audience.now.clients) (g.P.Policy.advised c.args.audience.now.policy) in
    let d = around (g.O.Outside.told c.act_told.new.outside) (g.C.Clients.told c.act_told.new.audience.clients) (g.P.Policy.advised c.act_told.new.audience.policy) in
    let e : Event = record { turn = c.args.turn; coming = Advised command } in
    reaches_to plan o d c.act_told.new.live (e ∷ es) (busy c.args.turn) c.act_told.result
    (c.act_told.ensures.done o es e (bids_at c.args.turn command) (busy c.args.turn) refl
    (meets_advice plan o b before c.args.live.now es c.args.turn command c.requires.node (may_bid plan command named) named c.requires.can.going at said) (advice_steps plan o es c.args.turn command))

pub returns-else-names-clause-done : goal.returns-else-names-clause-done
returns-else-names-clause-done g c =
    let b = around (g.O.Outside.told c.args.outside.now) (g.C.Clients.told c.args.audience.now.clients) (g.P.Policy.advised c.args.audience.now.policy) in
    says_unnamed c.args.service.now.plan b c.args.live.now (busy c.args.turn) c.args.command c.requires.can.going (sym c.names.ensures ∙ c.if-names.false)
