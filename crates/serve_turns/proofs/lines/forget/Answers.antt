use Rattle.std.proofs.Common.{ap, subst, ◌∙◌, ◌∷◌, []}
use Rattle.client_sessions.specs.Sessions.{Kept}
use Rattle.door_io.specs.Doors.{Gone}
use Rattle.serve_turns.proofs.Quiet.{takes_gone}
use Rattle.serve_turns.proofs.lines.forget.Goals as goal
use Rattle.serve_turns.specs.Live.{Live}
use Rattle.serve_turns.specs.Moves.{Takes, went_well}

pub returns-clause-done : goal.returns-clause-done
returns-clause-done c = λ plan b p.
    let l : Live = record {
      run = c.live.inside.run;
      sessions = c.live.inside.sessions;
      pace = c.live.inside.pace;
      changes = c.live.inside.changes;
      leaving = c.live.inside.leaving;
      ending = c.live.inside.ending;
    } in
    let k : Live = record l { sessions = c.drop_client.new.self } in
    subst (λ (q : Live). Takes plan (Gone c.args.client ∷ []) b q p b k p went_well) c.live.view_is
    (takes_gone plan b l k p c.args.client (ap (λ (q : Live). q.ending) c.live.view_is ∙ c.requires.going) (ap (λ (s : Kept). record l { sessions = s }) c.drop_client.ensures))
