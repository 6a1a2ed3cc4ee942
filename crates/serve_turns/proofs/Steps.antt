-- An event with a step of the actor: the step is told, or the life ends in it.
use Rattle.std.proofs.Common.{◌≡◌, ℕ, List, [], ◌∷◌, Option, Some, None, Result, refl, ap, sym, subst, ◌∙◌}
use Rattle.client_sessions.specs.Sessions.{Kept, after_step, of_step}
use Rattle.client_sessions.specs.Utterances.{Uttered, Utterance}
use Rattle.door_io.specs.Clients.{ClientsTold}
use Rattle.fabric_terms.specs.declared.report.Head.{Head}
use Rattle.fabric_terms.specs.declared.report.Report.{Report}
use Rattle.fabric_terms.specs.declared.report.Why.{Why}
use Rattle.fabric_turns.specs.Runs.{AtBy, Run}
use Rattle.fabric_turns.specs.Steps.{left_at}
use Rattle.fire_pace.specs.News.{Step as PacedStep}
use Rattle.fire_pace.specs.Pace.{pace_after}
use Rattle.ring_points.specs.declared.point.Point.{Point}
use Rattle.ring_rules.specs.declared.input.Input.{Input}
use Rattle.serve_rules.proofs.Lives.{process_met, served_process}
use Rattle.serve_rules.proofs.Serving.{serves_uttered}
use Rattle.serve_rules.proofs.Stepping.{event_leaves, event_says, newer_none, newer_one}
use Rattle.serve_rules.specs.Events.{Event}
use Rattle.serve_rules.specs.Lives.{happenings, said_of, served}
use Rattle.serve_rules.specs.Said.{Serves, arrived_of}
use Rattle.serve_rules.specs.Served.{Served, after_event, newer_than, of_coming, of_event, step_told, with_coming, with_new}
use Rattle.serve_rules.specs.Services.{life_of}
use Rattle.serve_turns.proofs.Acting.{leaves, settles}
use Rattle.serve_turns.specs.Live.{Around, At, Beginning, Keeps, Live}
use Rattle.serve_turns.specs.Moves.{Cut, CutIn, Ends, IsStepBy, Meets, Over, OverBy, Reaches}
use Rattle.serve_turns.specs.Steps.{Carried, StopsIn, ending_of}
use Rattle.serve_turns.specs.Telling.{paced_of, told_of}
use Rattle.turn_members.specs.declared.deed.Deed.{Deed}
use Rattle.turn_rules.specs.Happenings.{Happening, History}
use Rattle.turn_rules.specs.Order.{GoesServed, TurnPosition}
use Rattle.turn_rules.specs.Plans.{Plan}
use Rattle.turn_rules.specs.Process.{End, Full, Left, Process, after}
use Rattle.turn_rules.specs.Steps.{Step, present}
use Rattle.turn_rules.specs.Works.{Work, head_of}
use Rattle.turn_rules.specs.declared.stop_cause.StopCause.{StopCause}
use Rattle.turn_rules.specs.declared.stop_cause.StopCause.TheVariants as stop

-- a deed is told as its step
pub told_step : (deed : Deed) (step : Step) (i : Option Input) (sought : Option Point) → deed.head ≡ head_of step → deed.outcome.reports ≡ step.told → told_of deed i sought ≡ step_told i sought step
told_step deed step i sought head reports =
    ap (λ (h : Head). record (told_of deed i sought) { head = h }) head ∙ ap (λ (rs : List Report). record (step_told i sought step) { reports = rs }) reports

paced_step : (deed : Deed) (step : Step) (i : Input) (now : ℕ) → deed.outcome.reports ≡ step.told → paced_of deed i now ≡ record { input = i; told = step.told; reading = now }
paced_step deed step i now reports = ap (λ (rs : List Report). record (paced_of deed i now) { told = rs }) reports

-- What the code keeps of a step that is told.
pub record Noted (deed : Deed) (i : Input) (sought : Option Point) (l l' : Live) : Type 0 where
  pub sessions : l'.sessions ≡ after_step l.sessions (told_of deed (Some i) sought)
  pub pace : (steps : List PacedStep) → l.pace ≡ pace_after steps → l'.pace ≡ pace_after (paced_of deed i (present l'.run.last) ∷ steps)
  pub changes : l'.changes ≡ l.changes
  pub leaving : l'.leaving ≡ l.leaving
  pub ending : l'.ending ≡ l.ending

pub keeps_new : (v : Served) (p : Process) (i : Input) (sought : Option Point) (step : Step) (deed : Deed) (l l' : Live) → Keeps v l → Noted deed i sought l l' → deed.head ≡ head_of step → deed.outcome.reports ≡ step.told → p.last ≡ l'.run.last
    → Keeps (with_new v p (Some i) sought (Some step)) l'
keeps_new v p i sought step deed l l' k n head reports last = record {
  sessions = ap (λ (s : Kept). after_step s (step_told (Some i) sought step)) k.sessions ∙ ap (after_step l.sessions) (sym (told_step deed step (Some i) sought head reports)) ∙ sym n.sessions;
  pace =
      n.pace v.paced k.pace
      ∙ ap (λ (s : PacedStep). pace_after (s ∷ v.paced)) (paced_step deed step i (present l'.run.last) reports)
      ∙ ap (λ (o : Option ℕ). pace_after (record { input = i; told = step.told; reading = present o } ∷ v.paced)) (sym last);
  changes = k.changes ∙ sym n.changes;
  leaving = k.leaving ∙ sym n.leaving;
  ending = k.ending ∙ sym n.ending;
}

-- After an event has come.

module _ (plan : Plan) (o : Beginning) (es : List Event) (e : Event) (x : Happening) (comes : happenings plan o.kept o.sessions (e ∷ es) ≡ x ∷ happenings plan o.kept o.sessions es) where
  old_steps : (served plan o.kept o.sessions es).process.steps ≡ (after (life_of plan o.kept) (happenings plan o.kept o.sessions es)).steps
  old_steps = ap (λ (p : Process). p.steps) (served_process plan o.kept o.sessions es)

  new_one : (step : Step) → (after (life_of plan o.kept) (x ∷ happenings plan o.kept o.sessions es)).steps ≡ step ∷ (after (life_of plan o.kept) (happenings plan o.kept o.sessions es)).steps
      → newer_than (served plan o.kept o.sessions es).process.steps (after (life_of plan o.kept) (x ∷ happenings plan o.kept o.sessions es)).steps ≡ Some step
  new_one step made =
      ap (newer_than (served plan o.kept o.sessions es).process.steps) made
      ∙ ap (λ (ss : List Step). newer_than ss (step ∷ (after (life_of plan o.kept) (happenings plan o.kept o.sessions es)).steps)) old_steps
      ∙ newer_one (after (life_of plan o.kept) (happenings plan o.kept o.sessions es)).steps step

  new_none : (after (life_of plan o.kept) (x ∷ happenings plan o.kept o.sessions es)).steps ≡ (after (life_of plan o.kept) (happenings plan o.kept o.sessions es)).steps
      → newer_than (served plan o.kept o.sessions es).process.steps (after (life_of plan o.kept) (x ∷ happenings plan o.kept o.sessions es)).steps ≡ None
  new_none same =
      ap (newer_than (served plan o.kept o.sessions es).process.steps) same
      ∙ ap (λ (ss : List Step). newer_than ss (after (life_of plan o.kept) (happenings plan o.kept o.sessions es)).steps) old_steps
      ∙ newer_none (after (life_of plan o.kept) (happenings plan o.kept o.sessions es)).steps

  -- with a step
  pub leaves_step : (step : Step) → (after (life_of plan o.kept) (x ∷ happenings plan o.kept o.sessions es)).steps ≡ step ∷ (after (life_of plan o.kept) (happenings plan o.kept o.sessions es)).steps
      → after_event plan o.kept (served plan o.kept o.sessions es) e ≡ with_coming plan (served plan o.kept o.sessions es) e.coming (after (life_of plan o.kept) (x ∷ happenings plan o.kept o.sessions es)) (Some step)
  leaves_step step made =
      event_leaves plan o.kept (served plan o.kept o.sessions es) e (after (life_of plan o.kept) (x ∷ happenings plan o.kept o.sessions es)) (Some step)
      (process_met plan o.kept o.sessions es e (x ∷ happenings plan o.kept o.sessions es) comes) (new_one step made)

  pub says_step : (step : Step) → (after (life_of plan o.kept) (x ∷ happenings plan o.kept o.sessions es)).steps ≡ step ∷ (after (life_of plan o.kept) (happenings plan o.kept o.sessions es)).steps
      → of_event plan o.kept (served plan o.kept o.sessions es) e ≡ of_coming plan (served plan o.kept o.sessions es) e.coming (after (life_of plan o.kept) (x ∷ happenings plan o.kept o.sessions es)) (Some step)
  says_step step made =
      event_says plan o.kept (served plan o.kept o.sessions es) e (after (life_of plan o.kept) (x ∷ happenings plan o.kept o.sessions es)) (Some step)
      (process_met plan o.kept o.sessions es e (x ∷ happenings plan o.kept o.sessions es) comes) (new_one step made)

  -- without one
  pub leaves_none : (after (life_of plan o.kept) (x ∷ happenings plan o.kept o.sessions es)).steps ≡ (after (life_of plan o.kept) (happenings plan o.kept o.sessions es)).steps
      → after_event plan o.kept (served plan o.kept o.sessions es) e ≡ with_coming plan (served plan o.kept o.sessions es) e.coming (after (life_of plan o.kept) (x ∷ happenings plan o.kept o.sessions es)) None
  leaves_none same =
      event_leaves plan o.kept (served plan o.kept o.sessions es) e (after (life_of plan o.kept) (x ∷ happenings plan o.kept o.sessions es)) None
      (process_met plan o.kept o.sessions es e (x ∷ happenings plan o.kept o.sessions es) comes) (new_none same)

  pub says_none : (after (life_of plan o.kept) (x ∷ happenings plan o.kept o.sessions es)).steps ≡ (after (life_of plan o.kept) (happenings plan o.kept o.sessions es)).steps
      → of_event plan o.kept (served plan o.kept o.sessions es) e ≡ of_coming plan (served plan o.kept o.sessions es) e.coming (after (life_of plan o.kept) (x ∷ happenings plan o.kept o.sessions es)) None
  says_none same =
      event_says plan o.kept (served plan o.kept o.sessions es) e (after (life_of plan o.kept) (x ∷ happenings plan o.kept o.sessions es)) None
      (process_met plan o.kept o.sessions es e (x ∷ happenings plan o.kept o.sessions es) comes) (new_none same)

-- What is said of an event is said.
pub serves_event : (plan : Plan) (o : Beginning) (b c : Around) (l : Live) (es : List Event) (e : Event) (x : Happening) (p : TurnPosition) → Meets plan o b l es e x p → Uttered (of_event plan o.kept (served plan o.kept o.sessions es) e) b.clients c.clients
    → Serves (arrived_of (e ∷ es)) (said_of plan o.kept o.sessions (e ∷ es)) o.clients c.clients
serves_event plan o b c l es e x p m said =
    serves_uttered (arrived_of (e ∷ es)) (said_of plan o.kept o.sessions es) (of_event plan o.kept (served plan o.kept o.sessions es) e) o.clients b.clients c.clients m.serves said

-- the life goes on
pub at_event : (plan : Plan) (o : Beginning) (b c : Around) (l l' : Live) (es : List Event) (e : Event) (x : Happening) (p : TurnPosition) → Meets plan o b l es e x p
    → AtBy GoesServed (life_of plan o.kept) o.told c.told l'.run (x ∷ happenings plan o.kept o.sessions es) p → Keeps (after_event plan o.kept (served plan o.kept o.sessions es) e) l'
    → Uttered (of_event plan o.kept (served plan o.kept o.sessions es) e) b.clients c.clients → c.advised ≡ b.advised → At plan o c l' (e ∷ es) p
at_event plan o b c l l' es e x p m at keeps said advised = record {
  run = subst (λ (h : History). AtBy GoesServed (life_of plan o.kept) o.told c.told l'.run h p) (sym m.comes) at;
  keeps = keeps;
  due = m.due;
  serves = serves_event plan o b c l es e x p m said;
  advised = advised ∙ m.advised;
}

-- it has ended
pub over_event : (plan : Plan) (o : Beginning) (b c : Around) (l l' : Live) (es : List Event) (e : Event) (x : Happening) (p : TurnPosition) (end : End) → Meets plan o b l es e x p
    → OverBy (life_of plan o.kept) o.told c.told (x ∷ happenings plan o.kept o.sessions es) end → (after_event plan o.kept (served plan o.kept o.sessions es) e).sessions ≡ l'.sessions
    → (after_event plan o.kept (served plan o.kept o.sessions es) e).leaving ≡ l'.leaving → Uttered (of_event plan o.kept (served plan o.kept o.sessions es) e) b.clients c.clients → c.advised ≡ b.advised → Over plan o c l' end
over_event plan o b c l l' es e x p end m over sessions leaving said advised = record {
  events = e ∷ es;
  actor = subst (λ (h : History). OverBy (life_of plan o.kept) o.told c.told h end) (sym m.comes) over;
  due = m.due;
  serves = serves_event plan o b c l es e x p m said;
  advised = advised ∙ m.advised;
  sessions = sessions;
  leaving = leaving;
}

cut_event : (plan : Plan) (o : Beginning) (b c : Around) (l : Live) (es : List Event) (e : Event) (x : Happening) (p : TurnPosition) (part : Work) → Meets plan o b l es e x p
    → CutIn (life_of plan o.kept) o.told c.told (happenings plan o.kept o.sessions es) x part → c.clients ≡ b.clients → c.advised ≡ b.advised → Cut plan o c part
cut_event plan o b c l es e x p part m cut clients advised = record {
  before = es;
  last = e;
  came = x;
  comes = m.comes;
  actor = cut;
  due = m.due;
  serves = subst (λ (d : ClientsTold). Serves (arrived_of (e ∷ es)) (said_of plan o.kept o.sessions es) o.clients d) (sym clients) m.serves;
  advised = advised ∙ m.advised;
}

-- Without a step nothing is said of the event, and the sessions stay, and whether the process was told to leave.
pub record IsQuiet (plan : Plan) (v : Served) (e : Event) : Type 0 where
  pub says : (p : Process) → of_coming plan v e.coming p None ≡ []
  pub sessions : (p : Process) → (with_coming plan v e.coming p None).sessions ≡ v.sessions
  pub leaving : (p : Process) → (with_coming plan v e.coming p None).leaving ≡ v.leaving

nothing_uttered : (a b : ClientsTold) (us : List Utterance) → us ≡ [] → b ≡ a → Uttered us a b
nothing_uttered a b us none same = subst (λ (vs : List Utterance). Uttered vs a b) (sym none) (record { in_turn = sym same })

-- its step is not done as a whole
pub ends_event : (plan : Plan) (o : Beginning) (b c : Around) (l l' : Live) (es : List Event) (e : Event) (x : Happening) (p : TurnPosition) (r : StopCause) → Meets plan o b l es e x p → IsQuiet plan (served plan o.kept o.sessions es) e
    → StopsIn (life_of plan o.kept) o.told c.told (happenings plan o.kept o.sessions es) x r → c.clients ≡ b.clients → c.advised ≡ b.advised → l'.sessions ≡ l.sessions → l'.leaving ≡ l.leaving → Ends plan o c l' r
ends_event plan o b c l l' es e x p stop.OutOfMemory m q k clients advised same leaving = (k.0, cut_event plan o b c l es e x p k.0 m k.1 clients advised)
ends_event plan o b c l l' es e x p stop.KeepFault m q k clients advised same leaving =
    (k.0, (cut_event plan o b c l es e x p k.0 m k.1.0 clients advised, k.1.1, k.1.2, k.1.3))
ends_event plan o b c l l' es e x p stop.TableFull m q k clients advised same leaving =
    over_event plan o b c l l' es e x p Full m k.0
    (ap (λ (v : Served). v.sessions) (leaves_none plan o es e x m.comes k.1) ∙ q.sessions _ ∙ m.keeps.sessions ∙ sym same)
    (ap (λ (v : Served). v.leaving) (leaves_none plan o es e x m.comes k.1) ∙ q.leaving _ ∙ m.keeps.leaving ∙ sym leaving)
    (nothing_uttered b.clients c.clients (of_event plan o.kept (served plan o.kept o.sessions es) e) (says_none plan o es e x m.comes k.1 ∙ q.says _) clients) advised
ends_event plan o b c l l' es e x p stop.WriteFault m q k clients advised same leaving = absurd k
ends_event plan o b c l l' es e x p stop.LinkFault m q k clients advised same leaving = absurd k
ends_event plan o b c l l' es e x p (stop.ClockBack y z) m q k clients advised same leaving = absurd k
ends_event plan o b c l l' es e x p (stop.Left why) m q k clients advised same leaving = absurd k
ends_event plan o b c l l' es e x p (stop.BadKeep i) m q k clients advised same leaving = absurd k

-- A step by an input, of which only the step is told.

pub step_quiet : (plan : Plan) (o : Beginning) (es : List Event) (e : Event) (x : Happening) (i : Input) → IsStepBy plan o es e x i → IsQuiet plan (served plan o.kept o.sessions es) e
step_quiet plan o es e x i is = record {
  says = λ p. is.says (served plan o.kept o.sessions es) p None;
  sessions = λ p. ap (λ (v : Served). v.sessions) (is.leaves (served plan o.kept o.sessions es) p None);
  leaving = λ p. ap (λ (v : Served). v.leaving) (is.leaves (served plan o.kept o.sessions es) p None);
}

module _ (plan : Plan) (o : Beginning) (b c : Around) (l l' : Live) (es : List Event) (e : Event) (x : Happening) (p : TurnPosition) (i : Input) (deed : Deed) (m : Meets plan o b l es e x p) (is : IsStepBy plan o es e x i)
    (k : Carried (life_of plan o.kept) o.told c.told l'.run (happenings plan o.kept o.sessions es) x p deed) (n : Noted deed i None l l') (said : Uttered (of_step l.sessions (told_of deed (Some i) None)) b.clients c.clients)
    (advised : c.advised ≡ b.advised) where
  keeps_step : Keeps (after_event plan o.kept (served plan o.kept o.sessions es) e) l'
  keeps_step =
      subst (λ (v : Served). Keeps v l')
      (sym (leaves_step plan o es e x m.comes k.step k.steps_on.steps ∙ is.leaves (served plan o.kept o.sessions es) (after (life_of plan o.kept) (x ∷ happenings plan o.kept o.sessions es)) (Some k.step)))
      (keeps_new (served plan o.kept o.sessions es) (after (life_of plan o.kept) (x ∷ happenings plan o.kept o.sessions es)) i None k.step deed l l' m.keeps n k.head k.reports k.steps_on.last)

  said_step : Uttered (of_event plan o.kept (served plan o.kept o.sessions es) e) b.clients c.clients
  said_step =
      subst (λ (us : List Utterance). Uttered us b.clients c.clients)
      (sym (
      says_step plan o es e x m.comes k.step k.steps_on.steps
      ∙ is.says (served plan o.kept o.sessions es) (after (life_of plan o.kept) (x ∷ happenings plan o.kept o.sessions es)) (Some k.step)
      ∙ ap (λ (s : Kept). of_step s (step_told (Some i) None k.step)) m.keeps.sessions
      ∙ ap (of_step l.sessions) (sym (told_step deed k.step (Some i) None k.head k.reports))
      ))
      said

  -- and the life goes on, or the actor has left
  pub step_reaches : (left : Option Why) → left_at l'.run.members 0 ≡ left → Reaches plan o c l' (e ∷ es) p (ending_of left)
  step_reaches None stays =
      at_event plan o b c l l' es e x p m (settles (life_of plan o.kept) o.told c.told l'.run (happenings plan o.kept o.sessions es) x p deed k stays) keeps_step said_step advised
  step_reaches (Some why) left =
      over_event plan o b c l l' es e x p (Left why) m (leaves (life_of plan o.kept) o.told c.told l'.run (happenings plan o.kept o.sessions es) x p deed why k left) keeps_step.sessions keeps_step.leaving said_step advised

-- What the calls of the code say, put together.

pub noted_by : (deed : Deed) (i : Input) (sought : Option Point) (l : Live) (run : Run) (l' : Live) → l'.sessions ≡ after_step l.sessions (told_of deed (Some i) sought)
    → ((steps : List PacedStep) → l.pace ≡ pace_after steps → l'.pace ≡ pace_after (paced_of deed i (present run.last) ∷ steps))
    → l' ≡ record l { run = run; sessions = l'.sessions; pace = l'.pace } → Noted deed i sought l l'
noted_by deed i sought l run l' sessions pace rest = record {
  sessions = sessions;
  pace = λ steps before. pace steps before ∙ ap (λ (k : Live). pace_after (paced_of deed i (present k.run.last) ∷ steps)) (sym rest);
  changes = ap (λ (k : Live). k.changes) rest;
  leaving = ap (λ (k : Live). k.leaving) rest;
  ending = ap (λ (k : Live). k.ending) rest;
}

pub told_reaches : (plan : Plan) (o : Beginning) (b c : Around) (l : Live) (run : Run) (l' : Live) (es : List Event) (e : Event) (x : Happening) (p : TurnPosition) (i : Input) (deed : Deed) (r : Result (Unit {0}) StopCause) → Meets plan o b l es e x p → IsStepBy plan o es e x i
    → Carried (life_of plan o.kept) o.told c.told run (happenings plan o.kept o.sessions es) x p deed → Uttered (of_step l.sessions (told_of deed (Some i) None)) b.clients c.clients → l'.sessions ≡ after_step l.sessions (told_of deed (Some i) None)
    → ((steps : List PacedStep) → l.pace ≡ pace_after steps → l'.pace ≡ pace_after (paced_of deed i (present run.last) ∷ steps)) → l' ≡ record l { run = run; sessions = l'.sessions; pace = l'.pace } → c.advised ≡ b.advised
    → r ≡ ending_of (left_at l'.run.members 0) → Reaches plan o c l' (e ∷ es) p r
told_reaches plan o b c l run l' es e x p i deed r m is k said sessions pace rest advised ends =
    subst (λ (q : Result (Unit {0}) StopCause). Reaches plan o c l' (e ∷ es) p q) (sym ends)
    (step_reaches plan o b c l l' es e x p i deed m is
    (subst (λ (w : Run). Carried (life_of plan o.kept) o.told c.told w (happenings plan o.kept o.sessions es) x p deed) (sym (ap (λ (q : Live). q.run) rest)) k)
    (noted_by deed i None l run l' sessions pace rest) said advised (left_at l'.run.members 0) refl)
