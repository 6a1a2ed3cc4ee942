-- The end of a node's turn.
use Rattle.std.proofs.Common.{◌≡◌, ◌<◌, ◌≤◌, ℕ, false, List, ◌∷◌, length, Option, sym, subst}
use Rattle.door_io.specs.Clients.{ClientsTold}
use Rattle.edge_io.specs.Told.{Told}
use Rattle.fabric_terms.specs.declared.command.Command.{Command}
use Rattle.fabric_turns.proofs.Coming.{fire_comes_by}
use Rattle.fabric_turns.specs.Moves.{at_place}
use Rattle.serve_rules.specs.Events.{Event}
use Rattle.serve_rules.specs.Lives.{happenings, served}
use Rattle.serve_rules.specs.Served.{next_firing}
use Rattle.serve_rules.specs.Services.{life_of}
use Rattle.serve_turns.proofs.Quiet.{shows_at}
use Rattle.serve_turns.proofs.Resting.{rest_comes}
use Rattle.serve_turns.proofs.Turning.{came_at, meets, passes, quiet_rest, turn_event}
use Rattle.serve_turns.specs.Live.{At, Beginning, Live, around}
use Rattle.serve_turns.specs.Moves.{Meets}
use Rattle.turn_rules.proofs.Served.{goes_served}
use Rattle.turn_rules.specs.Happenings.{Fires, Rests}
use Rattle.turn_rules.specs.Order.{Firing, onward}
use Rattle.turn_rules.specs.Plans.{Plan}
use Rattle.turn_rules.specs.Steps.{present}

module _ (plan : Plan) (o : Beginning) (told : Told) (clients : ClientsTold) (advised : Option (List Command)) (l : Live) (es : List Event) (turn : ℕ) (t : At plan o (around told clients advised) l es (at_place turn 0 Firing)) (going : l.ending ≡ false) where
  pub fire_meets : next_firing plan (served plan o.kept o.sessions es) ≤ present l.run.last → Meets plan o (around told clients advised) l es (turn_event turn Fires) (came_at turn Fires) (onward plan turn 0)
  fire_meets due =
      let shows = shows_at plan o (around told clients advised) l es (at_place turn 0 Firing) t in
      meets plan o told told clients advised l es turn Fires (at_place turn 0 Firing) t going
      (subst (λ (last : Option ℕ). next_firing plan (served plan o.kept o.sessions es) ≤ present last) (sym shows.last) due)
      (onward plan turn 0) (fire_comes_by goes_served (life_of plan o.kept) o.told told l.run (happenings plan o.kept o.sessions es) turn 0 t.run)

  pub rests_on : present l.run.last < next_firing plan (served plan o.kept o.sessions es) → length l.run.members ≡ 1 → At plan o (around told clients advised) l (turn_event turn Rests ∷ es) (onward plan turn 0)
  rests_on early one =
      let shows = shows_at plan o (around told clients advised) l es (at_place turn 0 Firing) t in
      passes plan o told told clients advised l es turn Rests (at_place turn 0 Firing) t going
      (subst (λ (last : Option ℕ). present last < next_firing plan (served plan o.kept o.sessions es)) (sym shows.last) early)
      (onward plan turn 0) (quiet_rest plan o.kept (served plan o.kept o.sessions es) turn)
      (rest_comes (life_of plan o.kept) o.told told l.run (happenings plan o.kept o.sessions es) turn one t.run)
