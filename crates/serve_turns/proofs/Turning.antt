-- What comes in a turn of the actor: a step of it meets the life, and what is no step passes it by.
use Rattle.std.proofs.Common.{◌≡◌, ℕ, false, List, [], ◌∷◌, ◌++◌, Option, Some, None, Result, Ok, Err, refl, ap, sym, ◌∙◌}
use Rattle.std.proofs.lemmas.List.{append-nil}
use Rattle.client_sessions.specs.Sessions.{Kept}
use Rattle.client_sessions.specs.Utterances.{Utterance}
use Rattle.door_io.specs.Clients.{ClientsTold}
use Rattle.edge_io.specs.Told.{Told}
use Rattle.fabric_terms.specs.declared.command.Command.{Command}
use Rattle.fabric_terms.specs.declared.message.Message.{Message}
use Rattle.fabric_terms.specs.declared.record.Record.{Record}
use Rattle.fabric_turns.specs.Runs.{AtBy, MeetsBy}
use Rattle.fire_pace.specs.Pace.{pace_after}
use Rattle.frame_format.specs.Kinds.{message_of}
use Rattle.ring_rules.specs.declared.input.Input.TheVariants as input
use Rattle.serve_rules.proofs.Lives.{served_process}
use Rattle.serve_rules.proofs.Serving.{serves_as}
use Rattle.serve_rules.proofs.Stepping.{event_leaves, event_says, newer_none}
use Rattle.serve_rules.specs.Events.{Event, OfTurn, frame_in}
use Rattle.serve_rules.specs.Lives.{happenings, said_of, served}
use Rattle.serve_rules.specs.Said.{arrived_of}
use Rattle.serve_rules.specs.Served.{IsDue, Served, after_event, new_step, newer_than, of_event, of_new, process_after, with_new}
use Rattle.serve_rules.specs.Services.{life_of}
use Rattle.serve_turns.specs.Live.{Around, At, Beginning, Keeps, Live, around}
use Rattle.serve_turns.specs.Moves.{ComesTo, Cut, CutIn, IsStepBy, Meets, Over, OverBy, Reaches}
use Rattle.turn_rules.specs.Happenings.{Begins, Comes, Datagram, Fires, Happening, Hears, LinkAnswer, Rests}
use Rattle.turn_rules.specs.Order.{GoesServed, TurnPosition}
use Rattle.turn_rules.specs.Plans.{Plan}
use Rattle.turn_rules.specs.Process.{End, Process, after, happens, hears_frame}
use Rattle.turn_rules.specs.Steps.{Step}
use Rattle.turn_rules.specs.Works.{Work}
use Rattle.turn_rules.specs.declared.stop_cause.StopCause.{StopCause}

abbrev pub turn_event : ℕ → Comes → Event
turn_event turn x = record { turn = turn; coming = OfTurn x }

abbrev pub came_at : ℕ → Comes → Happening
came_at turn x = record { turn = turn; place = 0; comes = x }

-- the event leaves all but the process as it was, and nothing is said of it
pub record IsQuiet (plan : Plan) (kept : List Record) (v : Served) (e : Event) : Type 0 where
  pub leaves : after_event plan kept v e ≡ record v { process = process_after plan kept v e }
  pub says : of_event plan kept v e ≡ []

keeps_as : (v w : Served) (p : Process) (l : Live) → w ≡ record v { process = p } → Keeps v l → Keeps w l
keeps_as v w p l e k = record {
  sessions = ap (λ (u : Served). u.sessions) e ∙ k.sessions;
  pace = k.pace ∙ ap (λ (u : Served). pace_after u.paced) (sym e);
  changes = ap (λ (u : Served). u.changes) e ∙ k.changes;
  leaving = ap (λ (u : Served). u.leaving) e ∙ k.leaving;
  ending = ap (λ (u : Served). u.ending) e ∙ k.ending;
}

-- An event of a turn, after what has come; the clients and the policy have no part in it.
module _ (plan : Plan) (o : Beginning) (told told' : Told) (clients : ClientsTold) (advised : Option (List Command)) (l : Live) (es : List Event) (turn : ℕ) (x : Comes) (p : TurnPosition)
    (t : At plan o (around told clients advised) l es p) (going : l.ending ≡ false) (due : IsDue plan (served plan o.kept o.sessions es) (OfTurn x)) where
  pub meets : (q : TurnPosition) → MeetsBy GoesServed (life_of plan o.kept) o.told told' l.run (happenings plan o.kept o.sessions es) (came_at turn x) q → Meets plan o (around told' clients advised) l es (turn_event turn x) (came_at turn x) q
  meets q run = record {
    run = run;
    comes = refl;
    keeps = t.keeps;
    due = (t.due, (due, t.keeps.ending ∙ going));
    serves = serves_as (arrived_of es) (arrived_of es ++ []) (said_of plan o.kept o.sessions es) (said_of plan o.kept o.sessions es) o.clients clients (sym (append-nil (arrived_of es))) refl t.serves;
    advised = t.advised;
  }

  pub passes : (q : TurnPosition) → IsQuiet plan o.kept (served plan o.kept o.sessions es) (turn_event turn x) → AtBy GoesServed (life_of plan o.kept) o.told told' l.run (came_at turn x ∷ happenings plan o.kept o.sessions es) q
      → At plan o (around told' clients advised) l (turn_event turn x ∷ es) q
  passes q quiet run =
      let v : Served = served plan o.kept o.sessions es in
      let e : Event = turn_event turn x in
      let said : List Utterance = said_of plan o.kept o.sessions es in
      record {
        run = run;
        keeps = keeps_as v (after_event plan o.kept v e) (process_after plan o.kept v e) l quiet.leaves t.keeps;
        due = (t.due, (due, t.keeps.ending ∙ going));
        serves = serves_as (arrived_of es) (arrived_of es ++ []) said (said ++ of_event plan o.kept v e) o.clients clients (sym (append-nil (arrived_of es))) (sym (append-nil said) ∙ ap (λ (us : List Utterance). said ++ us) (sym quiet.says)) t.serves;
        advised = t.advised;
      }

  -- with it the life is over
  pub over_quiet : (new : Live) (end : End) → IsQuiet plan o.kept (served plan o.kept o.sessions es) (turn_event turn x) → new.sessions ≡ l.sessions → new.leaving ≡ l.leaving
      → OverBy (life_of plan o.kept) o.told told' (came_at turn x ∷ happenings plan o.kept o.sessions es) end → Over plan o (around told' clients advised) new end
  over_quiet new end quiet sessions leaving actor =
      let v : Served = served plan o.kept o.sessions es in
      let e : Event = turn_event turn x in
      let said : List Utterance = said_of plan o.kept o.sessions es in
      record {
        events = e ∷ es;
        actor = actor;
        due = (t.due, (due, t.keeps.ending ∙ going));
        serves = serves_as (arrived_of es) (arrived_of es ++ []) said (said ++ of_event plan o.kept v e) o.clients clients (sym (append-nil (arrived_of es))) (sym (append-nil said) ∙ ap (λ (us : List Utterance). said ++ us) (sym quiet.says)) t.serves;
        advised = t.advised;
        sessions = ap (λ (u : Served). u.sessions) quiet.leaves ∙ t.keeps.sessions ∙ sym sessions;
        leaving = ap (λ (u : Served). u.leaving) quiet.leaves ∙ t.keeps.leaving ∙ sym leaving;
      }

  -- the process ended in its step
  pub cut_quiet : (part : Work) → CutIn (life_of plan o.kept) o.told told' (happenings plan o.kept o.sessions es) (came_at turn x) part → Cut plan o (around told' clients advised) part
  cut_quiet part cut = record {
    before = es;
    last = turn_event turn x;
    came = came_at turn x;
    comes = refl;
    actor = cut;
    due = (t.due, (due, t.keeps.ending ∙ going));
    serves = serves_as (arrived_of es) (arrived_of es ++ []) (said_of plan o.kept o.sessions es) (said_of plan o.kept o.sessions es) o.clients clients (sym (append-nil (arrived_of es))) refl t.serves;
    advised = t.advised;
  }

-- the same where the event has met the life
pub met_passes : (plan : Plan) (o : Beginning) (told : Told) (clients : ClientsTold) (advised : Option (List Command)) (l : Live) (es : List Event) (turn : ℕ) (x : Comes) (q : TurnPosition)
    → Meets plan o (around told clients advised) l es (turn_event turn x) (came_at turn x) q → IsQuiet plan o.kept (served plan o.kept o.sessions es) (turn_event turn x)
    → AtBy GoesServed (life_of plan o.kept) o.told told l.run (came_at turn x ∷ happenings plan o.kept o.sessions es) q → At plan o (around told clients advised) l (turn_event turn x ∷ es) q
met_passes plan o told clients advised l es turn x q m quiet run =
    let v : Served = served plan o.kept o.sessions es in
    let e : Event = turn_event turn x in
    let said : List Utterance = said_of plan o.kept o.sessions es in
    record {
      run = run;
      keeps = keeps_as v (after_event plan o.kept v e) (process_after plan o.kept v e) l quiet.leaves m.keeps;
      due = m.due;
      serves = serves_as (arrived_of (e ∷ es)) (arrived_of (e ∷ es)) said (said ++ of_event plan o.kept v e) o.clients clients refl (sym (append-nil said) ∙ ap (λ (us : List Utterance). said ++ us) (sym quiet.says)) m.serves;
      advised = m.advised;
    }

-- What is no step.

no_step : (plan : Plan) (kept : List Record) (o : Kept) (es : List Event) (turn : ℕ) (x : Comes) → (after (life_of plan kept) (came_at turn x ∷ happenings plan kept o es)).steps ≡ (after (life_of plan kept) (happenings plan kept o es)).steps
    → newer_than (served plan kept o es).process.steps (process_after plan kept (served plan kept o es) (turn_event turn x)).steps ≡ None
no_step plan kept o es turn x same =
    let v : Served = served plan kept o es in
    let is : v.process ≡ after (life_of plan kept) (happenings plan kept o es) = served_process plan kept o es in
    let steps : (process_after plan kept v (turn_event turn x)).steps ≡ v.process.steps = ap (λ (p : Process). (happens (life_of plan kept) p (came_at turn x)).steps) is ∙ same ∙ sym (ap (λ (p : Process). p.steps) is) in
    ap (newer_than v.process.steps) steps ∙ newer_none v.process.steps

pub quiet_answer : (plan : Plan) (kept : List Record) (o : Kept) (es : List Event) (turn : ℕ) (answer : LinkAnswer) → (after (life_of plan kept) (came_at turn (Hears answer) ∷ happenings plan kept o es)).steps ≡ (after (life_of plan kept) (happenings plan kept o es)).steps
    → IsQuiet plan kept (served plan kept o es) (turn_event turn (Hears answer))
quiet_answer plan kept o es turn answer same =
    let v : Served = served plan kept o es in
    let e : Event = turn_event turn (Hears answer) in
    let none = no_step plan kept o es turn (Hears answer) same in
    record {
      leaves = event_leaves plan kept v e (process_after plan kept v e) None refl none;
      says = event_says plan kept v e (process_after plan kept v e) None refl none;
    }

-- a start of which no step comes
pub quiet_begin : (plan : Plan) (kept : List Record) (o : Kept) (es : List Event) (turn : ℕ) (reading : Option ℕ) → (after (life_of plan kept) (came_at turn (Begins reading) ∷ happenings plan kept o es)).steps ≡ (after (life_of plan kept) (happenings plan kept o es)).steps
    → IsQuiet plan kept (served plan kept o es) (turn_event turn (Begins reading))
quiet_begin plan kept o es turn reading same =
    let v : Served = served plan kept o es in
    let e : Event = turn_event turn (Begins reading) in
    let none = no_step plan kept o es turn (Begins reading) same in
    record {
      leaves = event_leaves plan kept v e (process_after plan kept v e) None refl none;
      says = event_says plan kept v e (process_after plan kept v e) None refl none;
    }

-- a turn that ends without a firing
pub quiet_rest : (plan : Plan) (kept : List Record) (v : Served) (turn : ℕ) → IsQuiet plan kept v (turn_event turn Rests)
quiet_rest plan kept v turn =
    let e : Event = turn_event turn Rests in
    let p : Process = process_after plan kept v e in
    let new : Option Step = new_step v p in
    record {
      leaves = event_leaves plan kept v e p new refl refl;
      says = event_says plan kept v e p new refl refl;
    }

-- Steps.

pub fires_by : (plan : Plan) (o : Beginning) (es : List Event) (turn : ℕ) → IsStepBy plan o es (turn_event turn Fires) (came_at turn Fires) input.Fire
fires_by plan o es turn = record { step = refl; says = λ v p new. refl; leaves = λ v p new. refl }

-- the bytes are this frame
pub hears_by : (plan : Plan) (o : Beginning) (es : List Event) (turn : ℕ) (bytes : List ℕ) (m : Message) → message_of bytes ≡ Some m
    → IsStepBy plan o es (turn_event turn (Hears (Datagram bytes))) (came_at turn (Hears (Datagram bytes))) (input.Frame m)
hears_by plan o es turn bytes m is = record {
  step = ap (λ (f : Option Message). hears_frame (life_of plan o.kept) turn (after (life_of plan o.kept) (happenings plan o.kept o.sessions es)) 0 f) is;
  says = λ v p new. ap (λ (f : Option Message). of_new v.sessions (frame_in f) None new) is;
  leaves = λ v p new. ap (λ (f : Option Message). with_new v p (frame_in f) None new) is;
}

-- with its events, and without
pub comes_to : (plan : Plan) (o : Beginning) (b : Around) (l : Live) (es : List Event) (p : TurnPosition) (r : Result (Unit {0}) StopCause) → Reaches plan o b l es p r → ComesTo plan o b l p r
comes_to plan o b l es p (Ok done) k = (es, k)
comes_to plan o b l es p (Err stopped) k = k
