use Rattle.std.proofs.Common.{ap, refl, subst, sym, ◌∙◌}
use Rattle.client_sessions.specs.Sessions.{Kept}
use Rattle.serve_rules.specs.Lines.{place_line}
use Rattle.serve_turns.proofs.Quiet.{takes_no_watch, takes_watch}
use Rattle.serve_turns.proofs.answers.find_place.Goals as goal
use Rattle.serve_turns.specs.Asking.{watch_request}
use Rattle.serve_turns.specs.Live.{Live, around}
use Rattle.serve_turns.specs.Moves.{TakesAs, went_well}

pub returns-then-watch-clause-done : goal.returns-then-watch-clause-done
returns-then-watch-clause-done g c = λ plan told p.
    let a = g.C.Clients.told c.args.audience.now.clients in
    let b = g.C.Clients.told c.finish.new.clients in
    let advised = g.P.Policy.advised c.args.audience.now.policy in
    let client = c.args.asker.client in
    let tag = c.args.asker.tag in
    let all = c.args.all in
    let l : Live = record {
      run = c.live.inside.run;
      sessions = c.live.inside.sessions;
      pace = c.live.inside.pace;
      changes = c.live.inside.changes;
      leaving = c.live.inside.leaving;
      ending = c.live.inside.ending;
    } in
    let k : Live = record l { sessions = c.finish.new.self } in
    subst (λ (q : Live). TakesAs plan client (place_line q.sessions client tag (watch_request all)) (around told a advised) q p (around told b advised) k p went_well) c.live.view_is
    (takes_watch plan told a b advised advised l k p client tag all (ap (λ (q : Live). q.ending) c.live.view_is ∙ c.requires.going) (sym c.watch.ensures.has_place ∙ c.if-watch.true) refl
    (ap (λ (s : Kept). record l { sessions = s }) (c.finish.ensures.after ∙ c.watch.ensures.watched)) c.finish.ensures.said)

pub returns-else-watch-clause-done : goal.returns-else-watch-clause-done
returns-else-watch-clause-done g c = λ plan told p.
    let a = g.C.Clients.told c.args.audience.now.clients in
    let b = g.C.Clients.told c.refuse.new.clients in
    let advised = g.P.Policy.advised c.args.audience.now.policy in
    let client = c.args.asker.client in
    let tag = c.args.asker.tag in
    let all = c.args.all in
    let l : Live = record {
      run = c.live.inside.run;
      sessions = c.live.inside.sessions;
      pace = c.live.inside.pace;
      changes = c.live.inside.changes;
      leaving = c.live.inside.leaving;
      ending = c.live.inside.ending;
    } in
    let k : Live = record l { sessions = c.refuse.new.self } in
    subst (λ (q : Live). TakesAs plan client (place_line q.sessions client tag (watch_request all)) (around told a advised) q p (around told b advised) k p went_well) c.live.view_is
    (takes_no_watch plan told a b advised advised l k p client tag all (ap (λ (q : Live). q.ending) c.live.view_is ∙ c.requires.going) (sym c.watch.ensures.has_place ∙ c.if-watch.false) refl
    (ap (λ (s : Kept). record l { sessions = s }) (c.refuse.ensures.after ∙ c.watch.ensures.watched)) c.refuse.ensures.said)
