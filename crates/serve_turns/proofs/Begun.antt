-- The start of the actor, carried out and told.
use Rattle.std.proofs.Common.{◌≡◌, ℕ, true, false, List, [], ◌∷◌, ◌++◌, Option, Some, None, Result, Err, length, refl, ap, sym, subst, ◌∙◌}
use Rattle.std.proofs.lemmas.List.{append-nil}
use Rattle.client_sessions.specs.Sessions.{Kept, after_step, of_step}
use Rattle.client_sessions.specs.Utterances.{Utterance, Uttered}
use Rattle.door_io.specs.Clients.{ClientsTold}
use Rattle.edge_io.specs.Told.{Told}
use Rattle.fabric_terms.specs.declared.command.Command.{Command}
use Rattle.fabric_terms.specs.declared.record.Record.{Record}
use Rattle.fabric_terms.specs.declared.report.Head.{Head}
use Rattle.fabric_terms.specs.declared.report.Report.{Report}
use Rattle.fabric_terms.specs.declared.report.Why.{Why}
use Rattle.fabric_turns.proofs.Acting.{Acted, did_step, done_at}
use Rattle.fabric_turns.proofs.Doing.{handed_along, stays_on}
use Rattle.fabric_turns.proofs.Coming.{arbiter_comes_by, node_comes_by}
use Rattle.fabric_turns.specs.Runs.{AtBy, MeetsStartBy, Run}
use Rattle.fabric_turns.specs.Steps.{ReadOn, ReadsNow, left_at}
use Rattle.fire_pace.specs.Pace.{pace_after}
use Rattle.serve_rules.proofs.Lives.{served_process}
use Rattle.serve_rules.proofs.Serving.{serves_as, serves_uttered}
use Rattle.serve_rules.proofs.Stepping.{event_leaves, event_says, newer_one}
use Rattle.serve_rules.specs.Events.{Event}
use Rattle.serve_rules.specs.Lives.{happenings, said_of, served}
use Rattle.serve_rules.specs.Said.{arrived_of}
use Rattle.serve_rules.specs.Served.{Served, after_event, newer_than, of_event, process_after, step_told}
use Rattle.serve_rules.specs.Services.{life_of}
use Rattle.serve_turns.proofs.Placing.{next_turn}
use Rattle.serve_turns.proofs.Turning.{came_at, cut_quiet, over_quiet, quiet_begin, turn_event}
use Rattle.serve_turns.specs.Live.{At, Beginning, Live, around}
use Rattle.serve_turns.specs.Moves.{Ends, Over, Reaches}
use Rattle.serve_turns.specs.Steps.{Carried, StopsIn, ending_of}
use Rattle.serve_turns.specs.Telling.{told_of}
use Rattle.turn_members.specs.declared.deed.Deed.{Deed}
use Rattle.turn_rules.proofs.Served.{goes_served}
use Rattle.turn_rules.specs.Happenings.{Begins, History}
use Rattle.turn_rules.specs.Order.{GoesServed, TurnPosition, arrive}
use Rattle.turn_rules.specs.Plans.{Plan, is_node_at}
use Rattle.turn_rules.specs.Process.{Full, Left, Process, after, happens, left_end}
use Rattle.turn_rules.specs.declared.stop_cause.StopCause.{StopCause}
use Rattle.turn_rules.specs.declared.stop_cause.StopCause.TheVariants as stop

module _ (plan : Plan) (o : Beginning) (told told' : Told) (clients clients' : ClientsTold) (advised advised' : Option (List Command)) (l new : Live) (run' : Run) (es : List Event) (reading : Option ℕ) (p q : TurnPosition) (deed : Deed)
    (t : At plan o (around told clients advised) l es p) (going : l.ending ≡ false)
    (k' : Carried (life_of plan o.kept) o.told told' run' (happenings plan o.kept o.sessions es) (came_at 0 (Begins reading)) q deed)
    (said : Uttered (of_step l.sessions (told_of deed None None)) clients clients') (sessions : new.sessions ≡ after_step l.sessions (told_of deed None None))
    (rest : new ≡ record l { run = run'; sessions = new.sessions }) (advice : advised' ≡ advised) where
  begin_done : Carried (life_of plan o.kept) o.told told' new.run (happenings plan o.kept o.sessions es) (came_at 0 (Begins reading)) q deed
  begin_done = subst (λ (r : Run). Carried (life_of plan o.kept) o.told told' r (happenings plan o.kept o.sessions es) (came_at 0 (Begins reading)) q deed) (sym (ap (λ (x : Live). x.run) rest)) k'

  abbrev v : Served
  v = served plan o.kept o.sessions es

  abbrev e : Event
  e = turn_event 0 (Begins reading)

  abbrev now : Process
  now = process_after plan o.kept v e

  is : now ≡ after (life_of plan o.kept) (came_at 0 (Begins reading) ∷ happenings plan o.kept o.sessions es)
  is = ap (λ (r : Process). happens (life_of plan o.kept) r (came_at 0 (Begins reading))) (served_process plan o.kept o.sessions es)

  made : newer_than v.process.steps now.steps ≡ Some begin_done.step
  made =
      let steps : now.steps ≡ begin_done.step ∷ v.process.steps = ap (λ (r : Process). r.steps) is ∙ begin_done.steps_on.steps ∙ ap (λ (r : Process). begin_done.step ∷ r.steps) (sym (served_process plan o.kept o.sessions es)) in
      ap (newer_than v.process.steps) steps ∙ newer_one v.process.steps begin_done.step

  told_is : told_of deed None None ≡ step_told None None begin_done.step
  told_is =
      ap (λ (h : Head). record { head = h; prepared = None; reports = deed.outcome.reports; sought = None }) begin_done.head
      ∙ ap (λ (rs : List Report). record { head = (step_told None None begin_done.step).head; prepared = None; reports = rs; sought = None }) begin_done.reports

  leaves : after_event plan o.kept v e ≡ record v { process = now; sessions = after_step v.sessions (step_told None None begin_done.step) }
  leaves = event_leaves plan o.kept v e now (Some begin_done.step) refl made

  says : of_event plan o.kept v e ≡ of_step v.sessions (step_told None None begin_done.step)
  says = event_says plan o.kept v e now (Some begin_done.step) refl made

  kept_sessions : (after_event plan o.kept v e).sessions ≡ new.sessions
  kept_sessions = ap (λ (u : Served). u.sessions) leaves ∙ ap (λ (s : Kept). after_step s (step_told None None begin_done.step)) t.keeps.sessions ∙ ap (after_step l.sessions) (sym told_is) ∙ sym sessions

  uttered : Uttered (of_event plan o.kept v e) clients clients'
  uttered = subst (λ (us : List Utterance). Uttered us clients clients') (sym (says ∙ ap (λ (s : Kept). of_step s (step_told None None begin_done.step)) t.keeps.sessions ∙ ap (of_step l.sessions) (sym told_is))) said

  acted : Acted (life_of plan o.kept) (happenings plan o.kept o.sessions es) (came_at 0 (Begins reading)) 0 begin_done.step new.run
  acted = record { members = begin_done.steps_on.members; last = begin_done.steps_on.last; steps = begin_done.steps_on.steps; end = begin_done.steps_on.end }

  -- it goes on
  begun : left_at new.run.members 0 ≡ None → At plan o (around told' clients' advised') new (e ∷ es) q
  begun stays = record {
    run = done_at (life_of plan o.kept) o.told begin_done.before told' new.run (happenings plan o.kept o.sessions es) (came_at 0 (Begins reading)) q 0 begin_done.step begin_done.came acted begin_done.carried begin_done.clock stays;
    keeps = record {
      sessions = kept_sessions;
      pace = ap (λ (x : Live). x.pace) rest ∙ t.keeps.pace ∙ ap (λ (u : Served). pace_after u.paced) (sym leaves);
      changes = ap (λ (u : Served). u.changes) leaves ∙ t.keeps.changes ∙ sym (ap (λ (x : Live). x.changes) rest);
      leaving = ap (λ (u : Served). u.leaving) leaves ∙ t.keeps.leaving ∙ sym (ap (λ (x : Live). x.leaving) rest);
      ending = ap (λ (u : Served). u.ending) leaves ∙ t.keeps.ending ∙ sym (ap (λ (x : Live). x.ending) rest);
    };
    due = (t.due, (tt, t.keeps.ending ∙ going));
    serves = serves_as (arrived_of es) (arrived_of es ++ []) (said_of plan o.kept o.sessions es ++ of_event plan o.kept v e) (said_of plan o.kept o.sessions es ++ of_event plan o.kept v e) o.clients clients' (sym (append-nil (arrived_of es))) refl
        (serves_uttered (arrived_of es) (said_of plan o.kept o.sessions es) (of_event plan o.kept v e) o.clients clients clients' t.serves uttered);
    advised = advice ∙ t.advised;
  }

  -- it has left at once
  left : (why : Why) → left_at new.run.members 0 ≡ Some why → Over plan o (around told' clients' advised') new (Left why)
  left why gone = record {
    events = e ∷ es;
    actor = record {
      place = q;
      order = begin_done.came.order;
      ended = begin_done.steps_on.end ∙ ap left_end gone;
      did = did_step (life_of plan o.kept) o.told begin_done.before told' new.run (happenings plan o.kept o.sessions es) (came_at 0 (Begins reading)) q 0 begin_done.step begin_done.came acted begin_done.carried;
      handed = handed_along plan (came_at 0 (Begins reading) ∷ happenings plan o.kept o.sessions es) o.told begin_done.before told' begin_done.carried.arrivals begin_done.carried.readings begin_done.came.handed;
      stays = stays_on o.told begin_done.before told' begin_done.came.stays begin_done.carried.stays;
    };
    due = (t.due, (tt, t.keeps.ending ∙ going));
    serves = serves_as (arrived_of es) (arrived_of es ++ []) (said_of plan o.kept o.sessions es ++ of_event plan o.kept v e) (said_of plan o.kept o.sessions es ++ of_event plan o.kept v e) o.clients clients' (sym (append-nil (arrived_of es))) refl
        (serves_uttered (arrived_of es) (said_of plan o.kept o.sessions es) (of_event plan o.kept v e) o.clients clients clients' t.serves uttered);
    advised = advice ∙ t.advised;
    sessions = kept_sessions;
    leaving = ap (λ (u : Served). u.leaving) leaves ∙ t.keeps.leaving ∙ sym (ap (λ (x : Live). x.leaving) rest);
  }

  -- one or the other
  pub start_told : (gone : Option Why) → left_at new.run.members 0 ≡ gone → (r : Result (Unit {0}) StopCause) → r ≡ ending_of gone → Reaches plan o (around told' clients' advised') new (e ∷ es) q r
  start_told None stays r is = rw is (begun stays)
  start_told (Some why) gone r is = rw is (left why gone)

-- It is not carried out as a whole.
pub start_stops : (plan : Plan) (o : Beginning) (told told' : Told) (clients : ClientsTold) (advised : Option (List Command)) (l new : Live) (es : List Event) (reading : Option ℕ) (p : TurnPosition) (r : StopCause)
    → At plan o (around told clients advised) l es p → l.ending ≡ false → new.sessions ≡ l.sessions → new.leaving ≡ l.leaving → StopsIn (life_of plan o.kept) o.told told' (happenings plan o.kept o.sessions es) (came_at 0 (Begins reading)) r → Ends plan o (around told' clients advised) new r
start_stops plan o told told' clients advised l new es reading p stop.OutOfMemory t going same leaving k =
    (k.0, cut_quiet plan o told told' clients advised l es 0 (Begins reading) p t going tt k.0 k.1)
start_stops plan o told told' clients advised l new es reading p stop.KeepFault t going same leaving k =
    (k.0, (cut_quiet plan o told told' clients advised l es 0 (Begins reading) p t going tt k.0 k.1.0, k.1.1, k.1.2, k.1.3))
start_stops plan o told told' clients advised l new es reading p stop.TableFull t going same leaving k =
    over_quiet plan o told told' clients advised l es 0 (Begins reading) p t going tt new Full (quiet_begin plan o.kept o.sessions es 0 reading k.1) same leaving k.0
start_stops plan o told told' clients advised l new es reading p stop.WriteFault t going same leaving k = absurd k
start_stops plan o told told' clients advised l new es reading p stop.LinkFault t going same leaving k = absurd k
start_stops plan o told told' clients advised l new es reading p (stop.ClockBack y z) t going same leaving k = absurd k
start_stops plan o told told' clients advised l new es reading p (stop.Left why) t going same leaving k = absurd k
start_stops plan o told told' clients advised l new es reading p (stop.BadKeep i) t going same leaving k = absurd k

-- The actor starts.

pub arbiter_starts : (plan : Plan) (records : List Record) (a b : Told) (run : Run) (h : History) → is_node_at plan 0 ≡ false → length plan.actors ≡ 1 → run ≡ record { members = []; last = None } → AtBy GoesServed (life_of plan records) a b run h (arrive plan 0 0)
    → MeetsStartBy GoesServed (life_of plan records) a b run h (came_at 0 (Begins None)) (arrive plan 1 0) 0
arbiter_starts plan records a b run h arbiter alone nobody t =
    subst (λ (p : TurnPosition). MeetsStartBy GoesServed (life_of plan records) a b run h (came_at 0 (Begins None)) p 0) (next_turn plan 0 alone)
    (arbiter_comes_by goes_served (life_of plan records) a b run h 0 arbiter (ap (λ (r : Run). length r.members) nobody) t)

pub node_starts : (plan : Plan) (records : List Record) (a b c : Told) (run new : Run) (h : History) (told : ℕ) → is_node_at plan 0 ≡ true → length plan.actors ≡ 1 → run ≡ record { members = []; last = None } → AtBy GoesServed (life_of plan records) a b run h (arrive plan 0 0)
    → ReadOn told run b new c → MeetsStartBy GoesServed (life_of plan records) a c new h (came_at 0 (Begins (Some told))) (arrive plan 1 0) 0
node_starts plan records a b c run new h told node alone nobody t k =
    subst (λ (p : TurnPosition). MeetsStartBy GoesServed (life_of plan records) a c new h (came_at 0 (Begins (Some told))) p 0) (next_turn plan 0 alone)
    (node_comes_by goes_served (life_of plan records) a b c run new h 0 told node (ap (λ (r : Run). length r.members) nobody) t k)

-- the first reading is no fall
pub never_falls : {P : Type 0} (run new : Run) (b c : Told) (r : StopCause) → run ≡ record { members = []; last = None } → ReadsNow run b new c (Err r) → P
never_falls run new b c (stop.ClockBack former latter) nobody k = let wrong : None ≡ Some former = sym (ap (λ (x : Run). x.last) nobody) ∙ k.was in cc
never_falls run new b c stop.OutOfMemory nobody k = absurd k
never_falls run new b c stop.WriteFault nobody k = absurd k
never_falls run new b c stop.KeepFault nobody k = absurd k
never_falls run new b c stop.LinkFault nobody k = absurd k
never_falls run new b c (stop.Left why) nobody k = absurd k
never_falls run new b c (stop.BadKeep i) nobody k = absurd k
never_falls run new b c stop.TableFull nobody k = absurd k
