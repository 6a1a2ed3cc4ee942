use Rattle.std.proofs.Common.{ap, refl, subst, ◌∙◌}
use Rattle.client_sessions.specs.Sessions.{Kept}
use Rattle.serve_rules.specs.Lines.{Refused}
use Rattle.serve_turns.proofs.Quiet.{takes_refused}
use Rattle.serve_turns.proofs.lines.refuse_line.Goals as goal
use Rattle.serve_turns.specs.Live.{Live, around}
use Rattle.serve_turns.specs.Moves.{TakesAs, went_well}

pub returns-clause-done : goal.returns-clause-done
returns-clause-done g c = λ plan told p.
    let a = g.C.Clients.told c.args.audience.now.clients in
    let b = g.C.Clients.told c.refuse.new.clients in
    let advised = g.P.Policy.advised c.args.audience.now.policy in
    let l : Live = record {
      run = c.live.inside.run;
      sessions = c.live.inside.sessions;
      pace = c.live.inside.pace;
      changes = c.live.inside.changes;
      leaving = c.live.inside.leaving;
      ending = c.live.inside.ending;
    } in
    let k : Live = record l { sessions = c.refuse.new.self } in
    subst (λ (q : Live). TakesAs plan c.args.client (Refused c.args.tag c.args.fault) (around told a advised) q p (around told b advised) k p went_well) c.live.view_is
    (takes_refused plan told a b advised advised l k p c.args.client c.args.tag c.args.fault (ap (λ (q : Live). q.ending) c.live.view_is ∙ c.requires.going)
    (ap (λ (s : Kept). record l { sessions = s }) c.refuse.ensures.after) refl c.refuse.ensures.said)
