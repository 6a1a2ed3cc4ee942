use Rattle.std.proofs.Common.{arith, ◌≡◌, ◌<◌, ◌≤◌, ◌∷◌, refl}
use Rattle.serve_rules.specs.Lives.{served}
use Rattle.serve_rules.specs.Served.{next_firing}
use Rattle.serve_turns.proofs.Fired.{fire_meets, rests_on}
use Rattle.serve_turns.proofs.Quiet.{shows_at}
use Rattle.serve_turns.proofs.Turning.{came_at, comes_to, fires_by, turn_event}
use Rattle.serve_turns.proofs.firing.end_turn.Goals as goal
use Rattle.turn_rules.specs.Happenings.{Fires, Rests}
use Rattle.turn_rules.specs.Order.{onward}
use Rattle.turn_rules.specs.Steps.{present}

pub returns-then-next_firing-present-clause-done : goal.returns-then-next_firing-present-clause-done
returns-then-next_firing-present-clause-done g c = λ o es t.
    let plan = c.args.service.now.plan in
    let at : c.next_firing.result ≡ next_firing plan (served plan o.kept o.sessions es) = c.next_firing.ensures (served plan o.kept o.sessions es) (shows_at plan o _ c.args.live.now es _ t) in
    let due : next_firing plan (served plan o.kept o.sessions es) ≤ present c.args.live.now.run.last = omega (arith, at, c.present.ensures, c.if-next_firing-present.true) in
    comes_to plan o _ _ (turn_event c.args.turn Fires ∷ es) (onward plan c.args.turn 0) c.act_told.result
    (c.act_told.ensures.done o es (turn_event c.args.turn Fires) (came_at c.args.turn Fires) (onward plan c.args.turn 0) refl
    (fire_meets plan o _ _ _ c.args.live.now es c.args.turn t c.requires.can.going due) (fires_by plan o es c.args.turn))

pub returns-else-next_firing-present-clause-done : goal.returns-else-next_firing-present-clause-done
returns-else-next_firing-present-clause-done g c = λ o es t.
    let plan = c.args.service.now.plan in
    let at : c.next_firing.result ≡ next_firing plan (served plan o.kept o.sessions es) = c.next_firing.ensures (served plan o.kept o.sessions es) (shows_at plan o _ c.args.live.now es _ t) in
    let early : present c.args.live.now.run.last < next_firing plan (served plan o.kept o.sessions es) = omega (arith, at, c.present.ensures, c.if-next_firing-present.false) in
    (turn_event c.args.turn Rests ∷ es, rests_on plan o _ _ _ c.args.live.now es c.args.turn t c.requires.can.going early c.requires.can.runs)
