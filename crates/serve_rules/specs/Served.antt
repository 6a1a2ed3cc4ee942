-- What a served process is after what has come, and what it says of what comes.
use Rattle.std.specs.Prelude.{◌<◌, ◌≤◌, ℕ, ◌==◌, Bool, true, false, List, [], ◌∷◌, ◌++◌, Option, Some, None, is_none, length, slice_get, if◌then◌else◌}
use Rattle.client_sessions.specs.Answers.{after_time, answered_by, late_replies, own_answer, refusal, with_answer, without_client}
use Rattle.client_sessions.specs.Sessions.{Kept, Step as Telling, after_step, of_step, prepared_by}
use Rattle.client_sessions.specs.Utterances.{Utterance}
use Rattle.client_sessions.specs.Watching.{watched}
use Rattle.door_lines.specs.declared.asked.Request.{Request}
use Rattle.door_lines.specs.declared.asked.Request.TheVariants as request
use Rattle.fabric_terms.specs.declared.command.Command.{Command}
use Rattle.fabric_terms.specs.declared.config.FabricConfig.{FabricConfig}
use Rattle.fabric_terms.specs.declared.record.Record.{Record}
use Rattle.fire_pace.specs.News.{Step as PacedStep}
use Rattle.fire_pace.specs.Pace.{due_after, left_of}
use Rattle.open_answers.specs.declared.open_answers.Asker.{Asker}
use Rattle.ring_points.specs.declared.point.Point.{Point}
use Rattle.ring_rules.specs.Rings.{settings_of}
use Rattle.ring_rules.specs.Slots.{fence_of}
use Rattle.ring_rules.specs.declared.input.Input.{Input}
use Rattle.serve_rules.specs.Events.{Advised, Asked, Coming, Event, Gone, OfTurn, input_of, sought_by}
use Rattle.serve_rules.specs.Lines.{AtOnce, Commands, LetsGo, Line, Refused, line_of}
use Rattle.serve_rules.specs.Services.{actor_of, life_of}
use Rattle.state_lines.specs.Answers.{lines_text}
use Rattle.state_lines.specs.Changes.{seen_after}
use Rattle.state_lines.specs.Holds.{held_of, lead_of}
use Rattle.state_lines.specs.Logs.{log_of}
use Rattle.state_lines.specs.States.{arbiter_state_of, state_of}
use Rattle.state_lines.specs.declared.change_times.SeenChange.{SeenChange}
use Rattle.state_lines.specs.declared.session_facts.SessionFacts.{SessionFacts}
use Rattle.turn_rules.specs.Happenings.{Bids, Comes, Fires, History, Rests, Turns}
use Rattle.turn_rules.specs.Plans.{Plan}
use Rattle.turn_rules.specs.Process.{Process, happens, nothing_yet}
use Rattle.turn_rules.specs.Steps.{Arbiter, Member, Node, Step, present}
use Rattle.turn_rules.specs.Works.{head_of}
use Rattle.world_rules.specs.Schedules.{command_names}

-- A served process: its actor by the rules of a running program; what it keeps for its clients; the steps by which firings
-- are paced, the newest first; since when reconfigurations have been seen; and whether it was told to leave, or to end.
pub record Served : Type 0 where
  pub process : Process
  pub sessions : Kept
  pub paced : List PacedStep
  pub changes : List SeenChange
  pub leaving : Bool
  pub ending : Bool

-- nothing has come; these sessions stand from the life before
abbrev pub fresh : Kept → Served
fresh v = record { process = nothing_yet; sessions = v; paced = []; changes = []; leaving = false; ending = false }

-- What of it comes to the actor.

abbrev pub command_in : Line → Option Command
command_in (Commands tag c) = Some c
command_in _ = None

abbrev pub bids : Option Command → Option Comes
bids None = None
bids (Some c) = Some (Bids c)

abbrev pub comes_of : Plan → Kept → Coming → Option Comes
comes_of plan v (OfTurn x) = Some x
comes_of plan v (Asked client line) = bids (command_in (line_of plan v client line))
comes_of plan v (Gone client) = None
comes_of plan v (Advised c) = bids (if command_names plan.config (actor_of plan) c then Some c else None)

abbrev pub happening_of : ℕ → Option Comes → History
happening_of turn None = []
happening_of turn (Some x) = record { turn = turn; place = 0; comes = x } ∷ []

abbrev pub process_with : Plan → List Record → Process → History → Process
process_with plan kept p [] = p
process_with plan kept p (h ∷ hs) = happens (life_of plan kept) p h

-- The step that has come of it, if one has.

abbrev pub newer_than : List Step → List Step → Option Step
newer_than old [] = None
newer_than old (s ∷ ss) = if length ss == length old then Some s else None

abbrev pub step_told : Option Input → Option Point → Step → Telling
step_told i sought step = record { head = head_of step; prepared = prepared_by i; reports = step.told; sought = sought }

-- a step by an input is paced, in the turn of this reading; a start is not
abbrev pub paced_with : List PacedStep → Option Input → ℕ → Step → List PacedStep
paced_with steps None now step = steps
paced_with steps (Some i) now step = record { input = i; told = step.told; reading = now } ∷ steps

-- what is said of a step, and what it leaves

abbrev pub of_new : Kept → Option Input → Option Point → Option Step → List Utterance
of_new v i sought None = []
of_new v i sought (Some step) = of_step v (step_told i sought step)

abbrev pub with_new : Served → Process → Option Input → Option Point → Option Step → Served
with_new v p i sought None = record v { process = p }
with_new v p i sought (Some step) = record v {
  process = p;
  sessions = after_step v.sessions (step_told i sought step);
  paced = paced_with v.paced i (present p.last) step;
}

-- What is said at once.

abbrev pub member_of : Process → Option Member
member_of p = slice_get p.members 0

abbrev pub facts_of : Kept → SessionFacts
facts_of v = record { «open» = length v.answers.waiting; watchers = length v.watchers }

abbrev pub state_text : FabricConfig → Served → ℕ → Option Member → List ℕ
state_text c v tag None = []
state_text c v tag (Some (Node s)) =
    lines_text (Some tag) (state_of (settings_of c s.ring.me.actor) s (present v.process.last) v.changes (facts_of v.sessions))
state_text c v tag (Some (Arbiter number s)) = lines_text (Some tag) (arbiter_state_of number s (facts_of v.sessions))

abbrev pub log_text : ℕ → ℕ → ℕ → ℕ → Option Member → List ℕ
log_text tag partition first count (Some (Node s)) = lines_text (Some tag) (log_of s partition first count)
log_text tag partition first count _ = []

-- what a parent may serve

abbrev pub hold_text : FabricConfig → (now : ℕ) → ℕ → Point → Option Member → List ℕ
hold_text c now tag point (Some (Node s)) = lines_text (Some tag) (held_of c s now point ∷ [])
hold_text c now tag point _ = []

abbrev pub lead_text : ℕ → ℕ → Option Member → List ℕ
lead_text tag partition (Some (Node s)) = lines_text (Some tag) (lead_of s partition ∷ [])
lead_text tag partition _ = []

abbrev pub text_at_once : FabricConfig → Served → ℕ → Request → List ℕ
text_at_once c v tag request.State = state_text c v tag (member_of v.process)
text_at_once c v tag (request.Log partition first count) = log_text tag partition first count (member_of v.process)
text_at_once c v tag (request.Hold point) = hold_text c (present v.process.last) tag point (member_of v.process)
text_at_once c v tag (request.Lead partition) = lead_text tag partition (member_of v.process)
text_at_once c v tag _ = []

abbrev pub with_request : Plan → Served → ℕ → Request → Served
with_request plan v client request.Watch = record v { sessions = record v.sessions { watchers = watched v.sessions.watchers (record { client = client; all = false }) } }
with_request plan v client request.WatchAll = record v { sessions = record v.sessions { watchers = watched v.sessions.watchers (record { client = client; all = true }) } }
with_request plan v client request.Leave = record v { leaving = true }
with_request plan v client request.End = record v { ending = true }
with_request plan v client _ = v

-- A turn of a node begins: answers whose time is over end, and reconfigurations that are under way are seen.

abbrev pub changes_seen : ℕ → List SeenChange → Option Member → List SeenChange
changes_seen now seen (Some (Node s)) = seen_after now s.above.managed.reconfigs seen
changes_seen now seen _ = seen

abbrev pub of_reading : Kept → Process → Bool → List Utterance
of_reading v p true = late_replies v (present p.last)
of_reading v p false = []

abbrev pub with_reading : Served → Process → Bool → Served
with_reading v p true = record v {
  process = p;
  sessions = after_time v.sessions (present p.last);
  changes = changes_seen (present p.last) v.changes (member_of p);
}
with_reading v p false = record v { process = p }

-- What is said of an event, where the process is this one behind it.

abbrev pub own_reply : Asker → Command → Option Input → Option Step → List Utterance
own_reply asker c i None = []
own_reply asker c i (Some step) = own_answer asker c (step_told i (sought_by c) step) ∷ []

abbrev pub with_own : Served → Asker → Command → Option Input → Option Step → ℕ → Served
with_own v asker c i None now = v
with_own v asker c i (Some step) now = record v { sessions = with_answer v.sessions asker c (step_told i (sought_by c) step) now }

abbrev pub asker : ℕ → ℕ → Asker
asker client tag = record { client = client; tag = tag }

abbrev pub of_line : Plan → Served → ℕ → Line → Option Step → List Utterance
of_line plan v client (Refused tag fault) new = refusal client tag fault ∷ []
of_line plan v client (AtOnce tag r) new = answered_by (asker client tag) (text_at_once plan.config v tag r) ∷ []
of_line plan v client (LetsGo number) new = []
of_line plan v client (Commands tag c) new =
    of_new v.sessions (input_of (Bids c)) (sought_by c) new ++ own_reply (asker client tag) c (input_of (Bids c)) new

abbrev pub with_line : Plan → Served → ℕ → Line → Process → Option Step → Served
with_line plan v client (Refused tag fault) p new = v
with_line plan v client (AtOnce tag r) p new = with_request plan v client r
with_line plan v client (LetsGo number) p new = v
with_line plan v client (Commands tag c) p new =
    with_own (with_new v p (input_of (Bids c)) (sought_by c) new) (asker client tag) c (input_of (Bids c)) new (present p.last)

abbrev pub of_coming : Plan → Served → Coming → Process → Option Step → List Utterance
of_coming plan v (OfTurn (Turns reading)) p new = of_reading v.sessions p (is_none p.end)
of_coming plan v (OfTurn Rests) p new = []
of_coming plan v (OfTurn x) p new = of_new v.sessions (input_of x) None new
of_coming plan v (Asked client line) p new = of_line plan v client (line_of plan v.sessions client line) new
of_coming plan v (Gone client) p new = []
of_coming plan v (Advised c) p new = of_new v.sessions (input_of (Bids c)) None new

abbrev pub with_coming : Plan → Served → Coming → Process → Option Step → Served
with_coming plan v (OfTurn (Turns reading)) p new = with_reading v p (is_none p.end)
with_coming plan v (OfTurn Rests) p new = record v { process = p }
with_coming plan v (OfTurn x) p new = with_new v p (input_of x) None new
with_coming plan v (Asked client line) p new = with_line plan v client (line_of plan v.sessions client line) p new
with_coming plan v (Gone client) p new = record v { sessions = without_client v.sessions client }
with_coming plan v (Advised c) p new = with_new v p (input_of (Bids c)) None new

-- the process behind an event
abbrev pub process_after : Plan → List Record → Served → Event → Process
process_after plan kept v e = process_with plan kept v.process (happening_of e.turn (comes_of plan v.sessions e.coming))

abbrev pub new_step : Served → Process → Option Step
new_step v p = newer_than v.process.steps p.steps

unfoldable pub after_event : Plan → List Record → Served → Event → Served
after_event plan kept v e =
    with_coming plan v e.coming (process_after plan kept v e) (new_step v (process_after plan kept v e))

unfoldable pub of_event : Plan → List Record → Served → Event → List Utterance
of_event plan kept v e =
    of_coming plan v e.coming (process_after plan kept v e) (new_step v (process_after plan kept v e))

-- Firings.

abbrev pub fence_in : FabricConfig → Option Member → Option ℕ
fence_in c (Some (Node s)) = fence_of (settings_of c s.ring.me.actor).answer s.ring.slots
fence_in c _ = None

-- the reading from which on the next firing of the node is due
abbrev pub next_firing : Plan → Served → ℕ
next_firing plan v =
    due_after v.paced plan.config.lease (left_of plan.config.lease plan.config.answer (fence_in plan.config (member_of v.process)) (present v.process.last))

-- A firing comes where it is due, and the turn ends without one where it is not. Commands come by lines and by advice alone.
abbrev pub IsDue : Plan → Served → Coming → Type 0
IsDue plan v (OfTurn Fires) = next_firing plan v ≤ present v.process.last
IsDue plan v (OfTurn Rests) = present v.process.last < next_firing plan v
IsDue plan v (OfTurn (Bids c)) = ⊥
IsDue plan v _ = Unit {0}
