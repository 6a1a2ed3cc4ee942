-- A turn of a node begins with a reading.
use Rattle.std.proofs.Common.{◌≡◌, ℕ, true, false, List, [], ◌∷◌, ◌++◌, length, map, Option, Some, Err, refl, ap, sym, subst, ◌∙◌}
use Rattle.std.specs.Prelude.{is_none, slice_get}
use Rattle.std.proofs.lemmas.List.{append-nil}
use Rattle.client_sessions.specs.Answers.{after_time, late_replies}
use Rattle.client_sessions.specs.Sessions.{Kept}
use Rattle.client_sessions.specs.Utterances.{Utterance, Uttered}
use Rattle.door_io.specs.Clients.{ClientsTold}
use Rattle.edge_io.specs.Told.{Told}
use Rattle.fabric_terms.specs.declared.command.Command.{Command}
use Rattle.fabric_turns.proofs.Acting.{after_next}
use Rattle.fabric_turns.proofs.Coming.{ready_read, turn_began_by}
use Rattle.fabric_turns.specs.Moves.{at_place}
use Rattle.fabric_turns.specs.Runs.{AtBy, IsReady, Run}
use Rattle.fabric_turns.specs.Steps.{ReadOn, ReadsNow}
use Rattle.fire_pace.specs.Pace.{pace_after}
use Rattle.serve_rules.proofs.Lives.{served_process}
use Rattle.serve_rules.proofs.Serving.{serves_as, serves_uttered}
use Rattle.serve_rules.proofs.Stepping.{event_leaves, event_says}
use Rattle.serve_rules.specs.Events.{Event}
use Rattle.serve_rules.specs.Lives.{happenings, said_of, served}
use Rattle.serve_rules.specs.Said.{arrived_of}
use Rattle.serve_rules.specs.Served.{Served, after_event, changes_seen, member_of, new_step, of_event, of_reading, process_after, with_reading}
use Rattle.serve_rules.specs.Services.{life_of}
use Rattle.serve_turns.proofs.Handing.{back_at, read_fell}
use Rattle.serve_turns.proofs.Turning.{IsQuiet, came_at, over_quiet, turn_event}
use Rattle.serve_turns.specs.Live.{At, Beginning, Live, around}
use Rattle.serve_turns.specs.Moves.{Ends}
use Rattle.serve_turns.specs.Steps.{CanGoOn}
use Rattle.serve_turns.specs.Turns.{changes_of}
use Rattle.state_lines.specs.declared.change_times.SeenChange.{SeenChange}
use Rattle.turn_members.specs.Members.{seen}
use Rattle.turn_members.specs.declared.member.Member.{Member as Running}
use Rattle.turn_rules.proofs.Served.{goes_served}
use Rattle.turn_rules.specs.Happenings.{Happening, History, Turns}
use Rattle.turn_rules.specs.Order.{Busy, GoesServed, Turning}
use Rattle.turn_rules.specs.Plans.{Plan, Setting, commands_in, orders_at}
use Rattle.turn_rules.specs.Process.{Back, End, Process, after, happens}
use Rattle.turn_rules.specs.Steps.{Member, present}
use Rattle.turn_rules.specs.declared.order.Order.{Order}
use Rattle.turn_rules.specs.declared.stop_cause.StopCause.{StopCause}
use Rattle.turn_rules.specs.declared.stop_cause.StopCause.TheVariants as stop

seen_first : (ms : List Running) (now : ℕ) (old : List SeenChange) → changes_seen now old (slice_get (map seen ms) 0) ≡ changes_of now old (slice_get ms 0)
seen_first [] now old = refl
seen_first (m ∷ ms) now old = refl

-- the process has not ended
module _ (plan : Plan) (o : Beginning) (told told' : Told) (clients clients' : ClientsTold) (advised : Option (List Command)) (l new : Live) (run' : Run) (es : List Event) (turn reading : ℕ)
    (t : At plan o (around told clients advised) l es (at_place turn 0 Turning)) (going : l.ending ≡ false) (free : plan.orders ≡ []) (k : ReadOn reading l.run told run' told') where
  abbrev s : Setting
  s = life_of plan o.kept

  abbrev h : History
  h = happenings plan o.kept o.sessions es

  abbrev v : Served
  v = served plan o.kept o.sessions es

  abbrev e : Event
  e = turn_event turn (Turns reading)

  abbrev p : Process
  p = process_after plan o.kept v e

  began : AtBy GoesServed (life_of plan o.kept) o.told told' run' (came_at turn (Turns reading) ∷ happenings plan o.kept o.sessions es) (at_place turn 0 (Busy [] 0))
  began =
      let r = turn_began_by goes_served (life_of plan o.kept) o.told told told' l.run run' (happenings plan o.kept o.sessions es) turn 0 reading t.run k in
      subst (λ (os : List Order). AtBy GoesServed (life_of plan o.kept) o.told told' run' (came_at turn (Turns reading) ∷ happenings plan o.kept o.sessions es) (at_place turn 0 (Busy (commands_in turn 0 os) 0))) free r

  -- the process behind the reading

  is : p ≡ after s (came_at turn (Turns reading) ∷ h)
  is = ap (λ (q : Process). happens (life_of plan o.kept) q (came_at turn (Turns reading))) (served_process plan o.kept o.sessions es)

  on : is_none p.end ≡ true
  on = ap (λ (q : Process). is_none q.end) is ∙ ap (λ (x : Option End). is_none x) began.stands.on

  last : p.last ≡ run'.last
  last = ap (λ (q : Process). q.last) is ∙ began.stands.last

  members : p.members ≡ map seen run'.members
  members = ap (λ (q : Process). q.members) is ∙ began.stands.members

  leaves : after_event plan o.kept v e ≡ record v { process = p; sessions = after_time v.sessions (present p.last); changes = changes_seen (present p.last) v.changes (member_of p) }
  leaves = event_leaves plan o.kept v e p (new_step v p) refl refl ∙ ap (with_reading v p) on

  says : of_event plan o.kept v e ≡ late_replies v.sessions (present p.last)
  says = event_says plan o.kept v e p (new_step v p) refl refl ∙ ap (of_reading v.sessions p) on

  -- the turn has begun
  pub begins : (now : ℕ) → now ≡ present run'.last → Uttered (late_replies l.sessions now) clients clients' → new.sessions ≡ after_time l.sessions now → new.changes ≡ changes_of now l.changes (slice_get run'.members 0)
      → new.run ≡ run' → new.pace ≡ l.pace → new.leaving ≡ l.leaving → new.ending ≡ l.ending → At plan o (around told' clients' advised) new (e ∷ es) (at_place turn 0 (Busy [] 0))
  begins now present_is said sessions changes run pace leaving ending =
      let at : present p.last ≡ now = ap present last ∙ sym present_is in
      let uttered : Uttered (of_event plan o.kept v e) clients clients' =
      subst (λ (us : List Utterance). Uttered us clients clients') (sym (says ∙ ap (λ (q : Kept). late_replies q (present p.last)) t.keeps.sessions ∙ ap (late_replies l.sessions) at)) said in
      record {
        run = subst (λ (r : Run). AtBy GoesServed (life_of plan o.kept) o.told told' r (came_at turn (Turns reading) ∷ happenings plan o.kept o.sessions es) (at_place turn 0 (Busy [] 0))) (sym run) began;
        keeps = record {
          sessions = ap (λ (u : Served). u.sessions) leaves ∙ ap (λ (q : Kept). after_time q (present p.last)) t.keeps.sessions ∙ ap (after_time l.sessions) at ∙ sym sessions;
          pace = pace ∙ t.keeps.pace ∙ ap (λ (u : Served). pace_after u.paced) (sym leaves);
          changes = ap (λ (u : Served). u.changes) leaves
              ∙ ap (λ (ms : List Member). changes_seen (present p.last) v.changes (slice_get ms 0)) members
              ∙ seen_first run'.members (present p.last) v.changes
              ∙ ap (λ (n : ℕ). changes_of n v.changes (slice_get run'.members 0)) at
              ∙ ap (λ (cs : List SeenChange). changes_of now cs (slice_get run'.members 0)) t.keeps.changes
              ∙ sym changes;
          leaving = ap (λ (u : Served). u.leaving) leaves ∙ t.keeps.leaving ∙ sym leaving;
          ending = ap (λ (u : Served). u.ending) leaves ∙ t.keeps.ending ∙ sym ending;
        };
        due = (t.due, (tt, t.keeps.ending ∙ going));
        serves = serves_as (arrived_of es) (arrived_of es ++ []) (said_of plan o.kept o.sessions es ++ of_event plan o.kept v e) (said_of plan o.kept o.sessions es ++ of_event plan o.kept v e) o.clients clients' (sym (append-nil (arrived_of es))) refl
            (serves_uttered (arrived_of es) (said_of plan o.kept o.sessions es) (of_event plan o.kept v e) o.clients clients clients' t.serves uttered);
        advised = t.advised;
      }

-- the clock fell

fell_quiet : (plan : Plan) (o : Beginning) (es : List Event) (turn reading : ℕ) (end : End) → (after (life_of plan o.kept) (came_at turn (Turns reading) ∷ happenings plan o.kept o.sessions es)).end ≡ Some end → IsQuiet plan o.kept (served plan o.kept o.sessions es) (turn_event turn (Turns reading))
fell_quiet plan o es turn reading end ended =
    let v : Served = served plan o.kept o.sessions es in
    let e : Event = turn_event turn (Turns reading) in
    let p : Process = process_after plan o.kept v e in
    let is : p ≡ after (life_of plan o.kept) (came_at turn (Turns reading) ∷ happenings plan o.kept o.sessions es) = ap (λ (q : Process). happens (life_of plan o.kept) q (came_at turn (Turns reading))) (served_process plan o.kept o.sessions es) in
    let off : is_none p.end ≡ false = ap (λ (q : Process). is_none q.end) is ∙ ap (λ (x : Option End). is_none x) ended in
    record {
      leaves = event_leaves plan o.kept v e p (new_step v p) refl refl ∙ ap (with_reading v p) off;
      says = event_says plan o.kept v e p (new_step v p) refl refl ∙ ap (of_reading v.sessions p) off;
    }

pub reading_stops : (plan : Plan) (o : Beginning) (told told' : Told) (clients : ClientsTold) (advised : Option (List Command)) (l new : Live) (es : List Event) (turn : ℕ) (r : StopCause) → At plan o (around told clients advised) l es (at_place turn 0 Turning) → l.ending ≡ false → new.sessions ≡ l.sessions → new.leaving ≡ l.leaving
    → ReadsNow l.run told new.run told' (Err r) → Ends plan o (around told' clients advised) new r
reading_stops plan o told told' clients advised l new es turn (stop.ClockBack former latter) t going sessions leaving k =
    let s : Setting = life_of plan o.kept in
    let h : History = happenings plan o.kept o.sessions es in
    let v : Served = served plan o.kept o.sessions es in
    let x : Happening = came_at turn (Turns k.told) in
    let fell : after s (x ∷ h) ≡ record (after s h) { end = Some (Back former latter) } = after_next s h x t.run.stands.on ∙ read_fell s told told' l.run h former latter t.run.stands k in
    let ended : (after s (x ∷ h)).end ≡ Some (Back former latter) = ap (λ (q : Process). q.end) fell in
    let over = back_at s o.told told told' l.run h x (at_place turn 0 Turning) (at_place turn 0 (Busy (orders_at plan turn 0) 0)) former latter t.run k
    (at_place turn 0 Turning, (t.run.order, record { turn = refl; place = refl; goes = refl })) fell refl refl (λ actor. refl) in
    (over_quiet plan o told told' clients advised l es turn (Turns k.told) (at_place turn 0 Turning) t going tt new (Back former latter) (fell_quiet plan o es turn k.told (Back former latter) ended) sessions leaving over.0, over.1)
reading_stops plan o told told' clients advised l new es turn stop.OutOfMemory t going sessions leaving k = absurd k
reading_stops plan o told told' clients advised l new es turn stop.WriteFault t going sessions leaving k = absurd k
reading_stops plan o told told' clients advised l new es turn stop.KeepFault t going sessions leaving k = absurd k
reading_stops plan o told told' clients advised l new es turn stop.LinkFault t going sessions leaving k = absurd k
reading_stops plan o told told' clients advised l new es turn (stop.Left why) t going sessions leaving k = absurd k
reading_stops plan o told told' clients advised l new es turn (stop.BadKeep i) t going sessions leaving k = absurd k
reading_stops plan o told told' clients advised l new es turn stop.TableFull t going sessions leaving k = absurd k

-- the process can go on
pub turn_can : (plan : Plan) (l new : Live) (run' : Run) (b c : Told) (reading : ℕ) → CanGoOn plan l b → ReadOn reading l.run b run' c → new.run ≡ run' → new.ending ≡ l.ending → CanGoOn plan new c
turn_can plan l new run' b c reading can k run ending = record {
  service = can.service;
  ready = subst (λ (r : Run). IsReady plan r c) (sym run) (ready_read plan l.run run' b c reading can.ready k);
  runs = ap (λ (r : Run). length r.members) run ∙ ap (λ (r : Run). length r.members) k.now ∙ can.runs;
  going = ending ∙ can.going;
  silent = ap (λ (t : Told). t.held) k.clock.rest ∙ can.silent;
}
