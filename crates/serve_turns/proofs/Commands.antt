-- A command comes to the actor: of a client, or of the policy.
use Rattle.std.proofs.Common.{◌≡◌, ◌≤◌, ◌<◌, arith, ℕ, Bool, true, false, List, [], ◌∷◌, ◌++◌, length, Option, Some, None, Result, Ok, Err, refl, ap, sym, subst, ◌∙◌}
use Rattle.std.specs.Prelude.{filter, is_none, not}
use Rattle.std.proofs.lemmas.List.{append-nil}
use Rattle.std.proofs.lemmas.List.Filters.{length-filter_both}
use Rattle.client_sessions.proofs.Chains.{uttered_on}
use Rattle.client_sessions.specs.Answers.{own_answer, with_answer}
use Rattle.client_sessions.specs.Sessions.{Kept, Step as Telling, after_step, of_step}
use Rattle.client_sessions.specs.Utterances.{Uttered, Utterance}
use Rattle.door_io.specs.Clients.{Asks, ClientsTold}
use Rattle.door_io.specs.Doors as door
use Rattle.edge_io.specs.Told.{Told}
use Rattle.fabric_terms.specs.declared.command.Command.{Command}
use Rattle.fabric_terms.specs.declared.report.Why.{Why}
use Rattle.fabric_turns.specs.Moves.{at_place}
use Rattle.fabric_turns.specs.Runs.{AtBy, MeetsBy, Run}
use Rattle.fabric_turns.specs.Steps.{left_at}
use Rattle.fire_pace.specs.News.{Step as PacedStep}
use Rattle.fire_pace.specs.Pace.{pace_after}
use Rattle.open_answers.specs.Answers.{by_step}
use Rattle.open_answers.specs.declared.open_answers.OpenAnswer.{OpenAnswer}
use Rattle.ring_rules.specs.declared.input.Input.TheVariants as input
use Rattle.serve_rules.proofs.Reading.{command_comes, named_comes}
use Rattle.serve_rules.proofs.Serving.{serves_as, serves_asks}
use Rattle.serve_rules.specs.Events.{Advised, Asked, Event, sought_by}
use Rattle.serve_rules.specs.Lines.{Commands, Line, line_of}
use Rattle.serve_rules.specs.Lives.{happenings, said_of, served}
use Rattle.serve_rules.specs.Said.{arrived_of}
use Rattle.serve_rules.specs.Served.{Served, after_event, asker, happening_of, of_coming, of_event, of_line, step_told, with_coming, with_line, with_new, with_own}
use Rattle.serve_rules.specs.Services.{actor_of, life_of}
use Rattle.serve_turns.proofs.Acting.{leaves, settles}
use Rattle.serve_turns.proofs.Steps.{IsQuiet, Noted, at_event, keeps_new, leaves_step, noted_by, over_event, says_step, told_step}
use Rattle.serve_turns.specs.Live.{Around, At, Beginning, Keeps, Live, with_advice}
use Rattle.serve_turns.specs.Moves.{ComesTo, IsStepBy, Meets, Reaches}
use Rattle.serve_turns.specs.Steps.{Carried, ending_of}
use Rattle.serve_turns.specs.Telling.{paced_of, told_of}
use Rattle.turn_members.specs.declared.deed.Deed.{Deed}
use Rattle.turn_rules.specs.Happenings.{Bids, Comes, Happening, History}
use Rattle.turn_rules.specs.Order.{Busy, GoesServed, MayBid, TurnPosition}
use Rattle.turn_rules.specs.Plans.{Plan, Setting, is_node_at}
use Rattle.turn_rules.specs.Process.{Left, Process, after}
use Rattle.turn_rules.specs.Steps.{Step, present}
use Rattle.turn_rules.specs.declared.stop_cause.StopCause.{StopCause}
use Rattle.world_rules.specs.Schedules.{command_names}

abbrev pub busy : ℕ → TurnPosition
busy turn = at_place turn 0 (Busy [] 0)

abbrev pub bids_at : ℕ → Command → Happening
bids_at turn c = record { turn = turn; place = 0; comes = Bids c }

-- a command behind those of the turn, of which there are none
pub bid_comes : (s : Setting) (a b : Told) (run : Run) (h : History) (turn : ℕ) (c : Command) → is_node_at s.plan 0 ≡ true → MayBid s.plan 0 c → AtBy GoesServed s a b run h (busy turn)
    → MeetsBy GoesServed s a b run h (bids_at turn c) (busy turn)
bid_comes s a b run h turn c node may t = record {
  came = record {
    order = (busy turn, (t.order, record { turn = refl; place = refl; goes = (node, may, refl) }));
    on = t.stands.on;
    did = t.did;
    handed = record { read = t.handed.read; heard = t.handed.heard };
    stays = t.stays;
  };
  stands = t.stands;
}

-- the policy says it
pub meets_advice : (plan : Plan) (o : Beginning) (b : Around) (before : Option (List Command)) (l : Live) (es : List Event) (turn : ℕ) (c : Command) → is_node_at plan 0 ≡ true → MayBid plan 0 c → command_names plan.config (actor_of plan) c ≡ true → l.ending ≡ false
    → At plan o (record b { advised = before }) l es (busy turn) → b.advised ≡ with_advice c before → Meets plan o b l es (record { turn = turn; coming = Advised c }) (bids_at turn c) (busy turn)
meets_advice plan o b before l es turn c node may named going at said = record {
  run = bid_comes (life_of plan o.kept) o.told b.told l.run (happenings plan o.kept o.sessions es) turn c node may at.run;
  comes = ap (λ (x : Option Comes). happening_of turn x ++ happenings plan o.kept o.sessions es) (named_comes plan (served plan o.kept o.sessions es).sessions c named);
  keeps = at.keeps;
  due = (at.due, (tt, at.keeps.ending ∙ going));
  serves = serves_as (arrived_of es) (arrived_of es ++ []) (said_of plan o.kept o.sessions es) (said_of plan o.kept o.sessions es) o.clients b.clients (sym (append-nil (arrived_of es))) refl at.serves;
  advised = said ∙ ap (with_advice c) at.advised;
}

pub advice_steps : (plan : Plan) (o : Beginning) (es : List Event) (turn : ℕ) (c : Command) → IsStepBy plan o es (record { turn = turn; coming = Advised c }) (bids_at turn c) (input.Do c)
advice_steps plan o es turn c = record { step = refl; says = λ v p new. refl; leaves = λ v p new. refl }

pub reaches_to : (plan : Plan) (o : Beginning) (b : Around) (l : Live) (es : List Event) (p : TurnPosition) (r : Result (Unit {0}) StopCause) → Reaches plan o b l es p r → ComesTo plan o b l p r
reaches_to plan o b l es p (Ok done) k = (es, k)
reaches_to plan o b l es p (Err stopped) k = k

-- A client says it.

abbrev pub asked_at : ℕ → ℕ → Option (List ℕ) → Event
asked_at turn client line = record { turn = turn; coming = Asked client line }

pub meets_command : (plan : Plan) (o : Beginning) (b : Around) (before : ClientsTold) (l : Live) (es : List Event) (turn client : ℕ) (line : Option (List ℕ)) (tag : ℕ) (c : Command) → is_node_at plan 0 ≡ true → MayBid plan 0 c → l.ending ≡ false
    → At plan o (record b { clients = before }) l es (busy turn) → Asks (door.Asked client line ∷ []) before b.clients → line_of plan (served plan o.kept o.sessions es).sessions client line ≡ Commands tag c
    → Meets plan o b l es (asked_at turn client line) (bids_at turn c) (busy turn)
meets_command plan o b before l es turn client line tag c node may going at came is = record {
  run = bid_comes (life_of plan o.kept) o.told b.told l.run (happenings plan o.kept o.sessions es) turn c node may at.run;
  comes = ap (λ (x : Option Comes). happening_of turn x ++ happenings plan o.kept o.sessions es) (command_comes plan (served plan o.kept o.sessions es).sessions client line tag c is);
  keeps = at.keeps;
  due = (at.due, (tt, at.keeps.ending ∙ going));
  serves = serves_asks (arrived_of es) (door.Asked client line ∷ []) (said_of plan o.kept o.sessions es) o.clients before b.clients at.serves came;
  advised = at.advised;
}

module _ (plan : Plan) (v : Served) (turn client : ℕ) (line : Option (List ℕ)) (tag : ℕ) (c : Command) (is : line_of plan v.sessions client line ≡ Commands tag c) where
  command_leaves : (p : Process) (new : Option Step) → with_coming plan v (Asked client line) p new ≡ with_line plan v client (Commands tag c) p new
  command_leaves p new = ap (λ (i : Line). with_line plan v client i p new) is

  command_says : (p : Process) (new : Option Step) → of_coming plan v (Asked client line) p new ≡ of_line plan v client (Commands tag c) new
  command_says p new = ap (λ (i : Line). of_line plan v client i new) is

  pub command_quiet : IsQuiet plan v (asked_at turn client line)
  command_quiet = record {
    says = λ p. command_says p None;
    sessions = λ p. ap (λ (w : Served). w.sessions) (command_leaves p None);
    leaving = λ p. ap (λ (w : Served). w.leaving) (command_leaves p None);
  }

-- What is kept and said of a command's step, and of its answer.
module _ (plan : Plan) (o : Beginning) (b m c : Around) (l k l' : Live) (es : List Event) (turn client : ℕ) (line : Option (List ℕ)) (tag : ℕ) (command : Command) (deed : Deed)
    (is : line_of plan (served plan o.kept o.sessions es).sessions client line ≡ Commands tag command) (met : Meets plan o b l es (asked_at turn client line) (bids_at turn command) (busy turn))
    (carried : Carried (life_of plan o.kept) o.told c.told l'.run (happenings plan o.kept o.sessions es) (bids_at turn command) (busy turn) deed) (noted : Noted deed (input.Do command) (sought_by command) l k)
    (told : Uttered (of_step l.sessions (told_of deed (Some (input.Do command)) (sought_by command))) b.clients m.clients)
    (answered : Uttered (own_answer (asker client tag) command (told_of deed (Some (input.Do command)) (sought_by command)) ∷ []) m.clients c.clients)
    (sessions : l'.sessions ≡ with_answer k.sessions (asker client tag) command (told_of deed (Some (input.Do command)) (sought_by command)) (present k.run.last)) (rest : l' ≡ record k { sessions = l'.sessions })
    (advised : c.advised ≡ b.advised) where
  run_same : k.run ≡ l'.run
  run_same = sym (ap (λ (q : Live). q.run) rest)

  last_same : (after (life_of plan o.kept) (bids_at turn command ∷ happenings plan o.kept o.sessions es)).last ≡ k.run.last
  last_same = carried.steps_on.last ∙ sym (ap (λ (r : Run). r.last) run_same)

  keeps_told : Keeps (with_new (served plan o.kept o.sessions es) (after (life_of plan o.kept) (bids_at turn command ∷ happenings plan o.kept o.sessions es)) (Some (input.Do command)) (sought_by command) (Some carried.step)) k
  keeps_told =
      keeps_new (served plan o.kept o.sessions es) (after (life_of plan o.kept) (bids_at turn command ∷ happenings plan o.kept o.sessions es)) (input.Do command) (sought_by command) carried.step deed l k met.keeps noted carried.head carried.reports last_same

  step_same : told_of deed (Some (input.Do command)) (sought_by command) ≡ step_told (Some (input.Do command)) (sought_by command) carried.step
  step_same = told_step deed carried.step (Some (input.Do command)) (sought_by command) carried.head carried.reports

  keeps_own : Keeps
      (with_own (with_new (served plan o.kept o.sessions es) (after (life_of plan o.kept) (bids_at turn command ∷ happenings plan o.kept o.sessions es)) (Some (input.Do command)) (sought_by command) (Some carried.step)) (asker client tag) command (Some (input.Do command)) (Some carried.step)
      (present (after (life_of plan o.kept) (bids_at turn command ∷ happenings plan o.kept o.sessions es)).last))
      l'
  keeps_own = record {
    sessions =
        ap (λ (s : Kept). with_answer s (asker client tag) command (step_told (Some (input.Do command)) (sought_by command) carried.step) (present (after (life_of plan o.kept) (bids_at turn command ∷ happenings plan o.kept o.sessions es)).last)) keeps_told.sessions
        ∙ ap (λ (t : Telling). with_answer k.sessions (asker client tag) command t (present (after (life_of plan o.kept) (bids_at turn command ∷ happenings plan o.kept o.sessions es)).last)) (sym step_same)
        ∙ ap (λ (n : Option ℕ). with_answer k.sessions (asker client tag) command (told_of deed (Some (input.Do command)) (sought_by command)) (present n)) last_same
        ∙ sym sessions;
    pace = ap (λ (q : Live). q.pace) rest ∙ keeps_told.pace;
    changes = keeps_told.changes ∙ sym (ap (λ (q : Live). q.changes) rest);
    leaving = keeps_told.leaving ∙ sym (ap (λ (q : Live). q.leaving) rest);
    ending = keeps_told.ending ∙ sym (ap (λ (q : Live). q.ending) rest);
  }

  keeps_command : Keeps (after_event plan o.kept (served plan o.kept o.sessions es) (asked_at turn client line)) l'
  keeps_command =
      subst (λ (w : Served). Keeps w l')
      (sym (
      leaves_step plan o es (asked_at turn client line) (bids_at turn command) met.comes carried.step carried.steps_on.steps
      ∙ command_leaves plan (served plan o.kept o.sessions es) turn client line tag command is (after (life_of plan o.kept) (bids_at turn command ∷ happenings plan o.kept o.sessions es)) (Some carried.step)
      ))
      keeps_own

  said_command : Uttered (of_event plan o.kept (served plan o.kept o.sessions es) (asked_at turn client line)) b.clients c.clients
  said_command =
      subst (λ (us : List Utterance). Uttered us b.clients c.clients)
      (sym (
      says_step plan o es (asked_at turn client line) (bids_at turn command) met.comes carried.step carried.steps_on.steps
      ∙ command_says plan (served plan o.kept o.sessions es) turn client line tag command is (after (life_of plan o.kept) (bids_at turn command ∷ happenings plan o.kept o.sessions es)) (Some carried.step)
      ∙ ap (λ (s : Kept). of_step s (step_told (Some (input.Do command)) (sought_by command) carried.step) ++ own_answer (asker client tag) command (step_told (Some (input.Do command)) (sought_by command) carried.step) ∷ []) met.keeps.sessions
      ∙ ap (λ (t : Telling). of_step l.sessions t ++ own_answer (asker client tag) command t ∷ []) (sym step_same)
      ))
      (uttered_on told answered)

  pub command_reaches : (left : Option Why) → left_at l'.run.members 0 ≡ left → ComesTo plan o c l' (busy turn) (ending_of left)
  command_reaches None stays = (
    asked_at turn client line ∷ es,
    at_event plan o b c l l' es (asked_at turn client line) (bids_at turn command) (busy turn) met
        (settles (life_of plan o.kept) o.told c.told l'.run (happenings plan o.kept o.sessions es) (bids_at turn command) (busy turn) deed carried stays) keeps_command said_command advised,
  )
  command_reaches (Some why) left =
      over_event plan o b c l l' es (asked_at turn client line) (bids_at turn command) (busy turn) (Left why) met
      (leaves (life_of plan o.kept) o.told c.told l'.run (happenings plan o.kept o.sessions es) (bids_at turn command) (busy turn) deed why carried left) keeps_command.sessions keeps_command.leaving said_command advised

pub command_done : (plan : Plan) (o : Beginning) (b m c : Around) (l : Live) (run : Run) (k l' : Live) (es : List Event) (turn client : ℕ) (line : Option (List ℕ)) (tag : ℕ) (command : Command) (deed : Deed) (r : Result (Unit {0}) StopCause)
    → line_of plan (served plan o.kept o.sessions es).sessions client line ≡ Commands tag command → Meets plan o b l es (asked_at turn client line) (bids_at turn command) (busy turn)
    → Carried (life_of plan o.kept) o.told c.told run (happenings plan o.kept o.sessions es) (bids_at turn command) (busy turn) deed
    → Uttered (of_step l.sessions (told_of deed (Some (input.Do command)) (sought_by command))) b.clients m.clients → k.sessions ≡ after_step l.sessions (told_of deed (Some (input.Do command)) (sought_by command))
    → ((steps : List PacedStep) → l.pace ≡ pace_after steps → k.pace ≡ pace_after (paced_of deed (input.Do command) (present run.last) ∷ steps)) → k ≡ record l { run = run; sessions = k.sessions; pace = k.pace }
    → Uttered (own_answer (asker client tag) command (told_of deed (Some (input.Do command)) (sought_by command)) ∷ []) m.clients c.clients
    → l'.sessions ≡ with_answer k.sessions (asker client tag) command (told_of deed (Some (input.Do command)) (sought_by command)) (present k.run.last) → l' ≡ record k { sessions = l'.sessions }
    → c.advised ≡ b.advised → r ≡ ending_of (left_at l'.run.members 0) → ComesTo plan o c l' (busy turn) r
command_done plan o b m c l run k l' es turn client line tag command deed r is met carried told ksessions kpace krest answered sessions rest advised ends =
    subst (λ (q : Result (Unit {0}) StopCause). ComesTo plan o c l' (busy turn) q) (sym ends)
    (command_reaches plan o b m c l k l' es turn client line tag command deed is met
    (subst (λ (w : Run). Carried (life_of plan o.kept) o.told c.told w (happenings plan o.kept o.sessions es) (bids_at turn command) (busy turn) deed) (sym (ap (λ (q : Live). q.run) rest ∙ ap (λ (q : Live). q.run) krest)) carried)
    (noted_by deed (input.Do command) (sought_by command) l run k ksessions kpace krest) told answered sessions rest advised (left_at l'.run.members 0) refl)

filtered : {X : Type 0} (f : X → Bool) (xs : List X) → length (filter f xs) ≤ length xs
filtered f xs = omega (arith, length-filter_both f (λ x. not (f x)) (λ x. refl) xs)

-- fewer answers are open behind a step
pub step_leaves_room : (s : Kept) (t : Telling) (n : ℕ) → length s.answers.waiting < n → length (after_step s t).answers.waiting < n
step_leaves_room s t n h = let kept = filtered (λ (q : OpenAnswer). is_none (by_step t.prepared t.reports q)) s.answers.waiting in omega (arith, kept)
