-- The links are asked once in a turn.
use Rattle.std.proofs.Common.{◌≡◌, ◌<◌, ◌+◌, ℕ, Bool, true, false, List, ◌∷◌, length, take, Option, Some, None, Ok, Err, ap, ◌∙◌}
use Rattle.door_io.specs.Clients.{ClientsTold}
use Rattle.edge_io.specs.Told.{Receives, Told}
use Rattle.edge_io.specs.declared.refusal.Failed.{Failed as HasFailed}
use Rattle.fabric_terms.specs.declared.command.Command.{Command}
use Rattle.fabric_turns.proofs.Acting.{after_next}
use Rattle.fabric_turns.proofs.Hearing.{datagram_comes_by, hears_at, no_frame, received_as, some_received}
use Rattle.frame_format.specs.Kinds.{message_of}
use Rattle.serve_rules.specs.Events.{Event}
use Rattle.serve_rules.specs.Lives.{happenings}
use Rattle.serve_rules.specs.Services.{actor_of, life_of}
use Rattle.serve_turns.proofs.Handing.{absent_comes, failure_comes}
use Rattle.serve_turns.proofs.Placing.{one_actor}
use Rattle.serve_turns.proofs.Turning.{came_at, meets, met_passes, passes, quiet_answer, turn_event}
use Rattle.serve_turns.specs.Live.{Around, At, Beginning, Live, around}
use Rattle.serve_turns.specs.Moves.{Meets}
use Rattle.serve_turns.specs.Turns.{ComesToEither}
use Rattle.turn_rules.proofs.Served.{goes_served}
use Rattle.turn_rules.specs.Happenings.{Absent, Datagram, Failed, Hears}
use Rattle.turn_rules.specs.Order.{TurnPosition, heard_all, hearing}
use Rattle.turn_rules.specs.Plans.{Plan}
use Rattle.turn_rules.specs.Process.{Process, after, hears_frame}

module _ (plan : Plan) (o : Beginning) (told told' : Told) (clients : ClientsTold) (advised : Option (List Command)) (l : Live) (es : List Event) (turn n : ℕ) (into : List ℕ) (small : n < 64)
    (t : At plan o (around told clients advised) l es (hearing plan turn 0 n)) (going : l.ending ≡ false) (alone : length plan.actors ≡ 1) where
  pub failed_next : (failed : HasFailed) → Receives (actor_of plan) into told (Err failed) told' → (now : List Event) × At plan o (around told' clients advised) l now (heard_all plan turn 0)
  failed_next failed k =
      let e = one_actor plan alone in
      let received = received_as (actor_of plan) e.0.actor into told (Err failed) told' e.1.1 k in
      let same = after_next (life_of plan o.kept) (happenings plan o.kept o.sessions es) (hears_at turn 0 Failed) t.run.stands.on in (
        turn_event turn (Hears Failed) ∷ es,
        passes plan o told told' clients advised l es turn (Hears Failed) (hearing plan turn 0 n) t going tt (heard_all plan turn 0)
            (quiet_answer plan o.kept o.sessions es turn Failed (ap (λ (q : Process). q.steps) same))
            (failure_comes (life_of plan o.kept) o.told told told' l.run (happenings plan o.kept o.sessions es) turn n e.0 into small e.1.0 t.run failed received),
      )

  pub absent_next : (answer : Option ℕ) → answer ≡ None → Receives (actor_of plan) into told (Ok answer) told' → (now : List Event) × At plan o (around told' clients advised) l now (heard_all plan turn 0)
  absent_next answer none k =
      let e = one_actor plan alone in
      let received = received_as (actor_of plan) e.0.actor into told (Ok answer) told' e.1.1 k in
      let same = after_next (life_of plan o.kept) (happenings plan o.kept o.sessions es) (hears_at turn 0 Absent) t.run.stands.on in (
        turn_event turn (Hears Absent) ∷ es,
        passes plan o told told' clients advised l es turn (Hears Absent) (hearing plan turn 0 n) t going tt (heard_all plan turn 0)
            (quiet_answer plan o.kept o.sessions es turn Absent (ap (λ (q : Process). q.steps) same))
            (absent_comes (life_of plan o.kept) o.told told told' l.run (happenings plan o.kept o.sessions es) turn n e.0 into small e.1.0 t.run answer none received),
      )

  pub datagram_next : (answer : Option ℕ) (count : ℕ) → answer ≡ Some count → Receives (actor_of plan) into told (Ok answer) told'
      → Meets plan o (around told' clients advised) l es (turn_event turn (Hears (Datagram (take count into)))) (came_at turn (Hears (Datagram (take count into)))) (hearing plan turn 0 (n + 1))
  datagram_next answer count some k =
      let e = one_actor plan alone in
      let received = received_as (actor_of plan) e.0.actor into told (Ok (Some count)) told' e.1.1 (some_received (actor_of plan) into told answer count told' some k) in
      meets plan o told told' clients advised l es turn (Hears (Datagram (take count into))) (hearing plan turn 0 n) t going tt (hearing plan turn 0 (n + 1))
      (datagram_comes_by goes_served (life_of plan o.kept) o.told told told' l.run (happenings plan o.kept o.sessions es) turn 0 n count e.0 into small e.1.0 t.run received)

-- a datagram that is no frame
pub no_frame_passes : (plan : Plan) (o : Beginning) (told : Told) (clients : ClientsTold) (advised : Option (List Command)) (l : Live) (es : List Event) (turn : ℕ) (bytes : List ℕ) (q : TurnPosition) → message_of bytes ≡ None
    → Meets plan o (around told clients advised) l es (turn_event turn (Hears (Datagram bytes))) (came_at turn (Hears (Datagram bytes))) q → At plan o (around told clients advised) l (turn_event turn (Hears (Datagram bytes)) ∷ es) q
no_frame_passes plan o told clients advised l es turn bytes q none m =
    let same = after_next (life_of plan o.kept) (happenings plan o.kept o.sessions es) (hears_at turn 0 (Datagram bytes)) m.run.stands.on ∙ ap (hears_frame (life_of plan o.kept) turn (after (life_of plan o.kept) (happenings plan o.kept o.sessions es)) 0) none in
    met_passes plan o told clients advised l es turn (Hears (Datagram bytes)) q m
    (quiet_answer plan o.kept o.sessions es turn (Datagram bytes) (ap (λ (p : Process). p.steps) same))
    (no_frame (life_of plan o.kept) o.told told l.run (happenings plan o.kept o.sessions es) turn 0 bytes q none m.run)

-- what the links answered

pub either_none : (plan : Plan) (o : Beginning) (b : Around) (l : Live) (more none : TurnPosition) (answer : Bool) → answer ≡ false → ComesToEither plan o b l more none (Ok answer) → (es : List Event) × At plan o b l es none
either_none plan o b l more none true e k = cc
either_none plan o b l more none false e k = k

pub either_more : (plan : Plan) (o : Beginning) (b : Around) (l : Live) (more none : TurnPosition) (answer : Bool) → answer ≡ true → ComesToEither plan o b l more none (Ok answer) → (es : List Event) × At plan o b l es more
either_more plan o b l more none true e k = k
either_more plan o b l more none false e k = cc
