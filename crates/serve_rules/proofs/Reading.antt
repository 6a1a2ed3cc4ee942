-- What a line of a client is, by how it is read.
use Rattle.std.proofs.Common.{◌≡◌, ℕ, Bool, true, false, List, [], ◌∷◌, length, Option, Some, None, refl, ap, ◌∙◌, subst}
use Rattle.std.specs.Prelude.{if◌then◌else◌, not, slice_get}
use Rattle.client_sessions.specs.Answers.{answered_by, without_client}
use Rattle.client_sessions.specs.Sessions.{Kept}
use Rattle.door_lines.specs.Requests.{asked_of, tag_of}
use Rattle.door_lines.specs.Speakers.{may_command}
use Rattle.door_lines.specs.declared.asked.Asked.{Asked}
use Rattle.door_lines.specs.declared.asked.Request.{Request}
use Rattle.door_lines.specs.declared.asked.Speaker.{Speaker}
use Rattle.door_lines.specs.declared.asked.Speaker.TheVariants.{ArbiterClient}
use Rattle.door_lines.specs.declared.fault.Fault.TheVariants as fault
use Rattle.edge_io.specs.declared.endpoint.Endpoint.{Endpoint}
use Rattle.fabric_terms.specs.declared.command.Command.{Command}
use Rattle.fabric_terms.specs.declared.record.Record.{Record}
use Rattle.open_answers.specs.Answers.{is_full}
use Rattle.serve_rules.proofs.Stepping.{event_leaves, event_says, newer_none}
use Rattle.serve_rules.specs.Events as event
use Rattle.serve_rules.specs.Laws.{LettingGoIsSilent}
use Rattle.serve_rules.specs.Lines.{AtOnce, Commands, LetsGo, Line, Refused, asked_line, command_line, let_go_by, line_of, request_line, spoken_line}
use Rattle.serve_rules.specs.Served.{Served, after_event, asker, bids, command_in, comes_of, happening_of, new_step, of_event, of_line, process_after, process_with, text_at_once, with_line, with_request}
use Rattle.serve_rules.specs.Services.{IsService, actor_in, actor_of, node_speaker, speaker_of}
use Rattle.turn_rules.specs.Happenings.{Bids, Comes}
use Rattle.turn_rules.specs.Order.{MayBid}
use Rattle.turn_rules.specs.Plans.{Plan, is_node_at, is_of_node}
use Rattle.world_rules.specs.Events.{is_arbiter_actor}
use Rattle.world_rules.specs.Schedules.{command_names}

-- What it is.

pub line_long : (plan : Plan) (v : Kept) (client : ℕ) → line_of plan v client None ≡ Refused None fault.Large
unfolding line_of
line_long plan v client = refl

pub line_lets_go : (plan : Plan) (v : Kept) (client : ℕ) (bytes : List ℕ) (number : ℕ) → let_go_by (speaker_of plan v client) bytes ≡ Some number → line_of plan v client (Some bytes) ≡ LetsGo number
unfolding line_of
line_lets_go plan v client bytes number e = ap (spoken_line plan v client bytes) e

line_asks : (plan : Plan) (v : Kept) (client : ℕ) (bytes : List ℕ) → let_go_by (speaker_of plan v client) bytes ≡ None
    → line_of plan v client (Some bytes) ≡ asked_line plan v client (tag_of bytes) (asked_of (speaker_of plan v client) bytes)
unfolding line_of
line_asks plan v client bytes other = ap (spoken_line plan v client bytes) other

pub line_bad : (plan : Plan) (v : Kept) (client : ℕ) (bytes : List ℕ) → let_go_by (speaker_of plan v client) bytes ≡ None → asked_of (speaker_of plan v client) bytes ≡ None
    → line_of plan v client (Some bytes) ≡ Refused (tag_of bytes) fault.Line
line_bad plan v client bytes other e = line_asks plan v client bytes other ∙ ap (asked_line plan v client (tag_of bytes)) e

pub line_good : (plan : Plan) (v : Kept) (client : ℕ) (bytes : List ℕ) (asked : Asked) → let_go_by (speaker_of plan v client) bytes ≡ None → asked_of (speaker_of plan v client) bytes ≡ Some asked
    → line_of plan v client (Some bytes) ≡ request_line plan v client asked.tag asked.request
line_good plan v client bytes asked other e = line_asks plan v client bytes other ∙ ap (asked_line plan v client (tag_of bytes)) e

pub names_nobody : (plan : Plan) (v : Kept) (tag : ℕ) (c : Command) → command_names plan.config (actor_of plan) c ≡ false → command_line plan v tag c ≡ Refused (Some tag) fault.NoSuch
names_nobody plan v tag c e = ap (λ (b : Bool). if b then (if is_full v.answers then Refused (Some tag) fault.Busy else Commands tag c) else Refused (Some tag) fault.NoSuch) e

finds_room : (plan : Plan) (v : Kept) (tag : ℕ) (c : Command) → command_names plan.config (actor_of plan) c ≡ true → command_line plan v tag c ≡ (if is_full v.answers then Refused (Some tag) fault.Busy else Commands tag c)
finds_room plan v tag c e = ap (λ (b : Bool). if b then (if is_full v.answers then Refused (Some tag) fault.Busy else Commands tag c) else Refused (Some tag) fault.NoSuch) e

pub finds_no_room : (plan : Plan) (v : Kept) (tag : ℕ) (c : Command) → command_names plan.config (actor_of plan) c ≡ true → is_full v.answers ≡ true → command_line plan v tag c ≡ Refused (Some tag) fault.Busy
finds_no_room plan v tag c e f = finds_room plan v tag c e ∙ ap (λ (b : Bool). if b then Refused (Some tag) fault.Busy else Commands tag c) f

pub is_done : (plan : Plan) (v : Kept) (tag : ℕ) (c : Command) → command_names plan.config (actor_of plan) c ≡ true → is_full v.answers ≡ false → command_line plan v tag c ≡ Commands tag c
is_done plan v tag c e f = finds_room plan v tag c e ∙ ap (λ (b : Bool). if b then Refused (Some tag) fault.Busy else Commands tag c) f

-- the actor of a service may be given a command that names what is there
pub may_bid : (plan : Plan) (c : Command) → command_names plan.config (actor_of plan) c ≡ true → MayBid plan 0 c
may_bid plan c named e here = subst (λ (n : ℕ). command_names plan.config n c ≡ true) (ap actor_in here) named

-- Who may command is a client of a node.

of_first : (o : Option Endpoint) (other : Speaker) (c : Command) → may_command (if is_arbiter_actor (actor_in o) then ArbiterClient else other) c ≡ true → (e : Endpoint) → o ≡ Some e → is_of_node o ≡ true
of_first o other c may e here = rw here (by_kind (is_arbiter_actor e.actor) (subst (λ (q : Option Endpoint). may_command (if is_arbiter_actor (actor_in q) then ArbiterClient else other) c ≡ true) here may))
  where
    by_kind : (b : Bool) → may_command (if b then ArbiterClient else other) c ≡ true → not b ≡ true
    by_kind true m = cc
    by_kind false m = refl

first_of_one : {X : Type 0} (xs : List X) → length xs ≡ 1 → (x : X) × (slice_get xs 0 ≡ Some x)
first_of_one [] one = cc
first_of_one (x ∷ xs) one = (x, refl)

pub commands_a_node : (plan : Plan) (v : Kept) (client : ℕ) (c : Command) → IsService plan → may_command (speaker_of plan v client) c ≡ true → is_node_at plan 0 ≡ true
commands_a_node plan v client c service may =
    let first = first_of_one plan.actors service.alone in
    of_first (slice_get plan.actors 0) (node_speaker v.parent client) c may first.0 first.1

-- A line that is answered at once.

module _ (plan : Plan) (kept : List Record) (v : Served) (turn client : ℕ) (line : Option (List ℕ)) (tag : ℕ) (r : Request) (is : line_of plan v.sessions client line ≡ AtOnce tag r) where
  pub at_once_comes : comes_of plan v.sessions (event.Asked client line) ≡ None
  at_once_comes = ap (λ (l : Line). bids (command_in l)) is

  pub at_once_leaves : after_event plan kept v (record { turn = turn; coming = event.Asked client line }) ≡ with_request plan v client r
  unfolding after_event
  at_once_leaves =
      let p = process_after plan kept v (record { turn = turn; coming = event.Asked client line }) in
      ap (λ (l : Line). with_line plan v client l p (new_step v p)) is

  pub at_once_says : of_event plan kept v (record { turn = turn; coming = event.Asked client line }) ≡ answered_by (asker client tag) (text_at_once plan.config v tag r) ∷ []
  unfolding of_event
  at_once_says =
      let p = process_after plan kept v (record { turn = turn; coming = event.Asked client line }) in
      ap (λ (l : Line). of_line plan v client l (new_step v p)) is

-- A line by which the parent lets go.

module _ (plan : Plan) (kept : List Record) (v : Served) (turn client : ℕ) (line : Option (List ℕ)) (number : ℕ) (is : line_of plan v.sessions client line ≡ LetsGo number) where
  pub let_go_comes : comes_of plan v.sessions (event.Asked client line) ≡ None
  let_go_comes = ap (λ (l : Line). bids (command_in l)) is

  pub let_go_leaves : after_event plan kept v (record { turn = turn; coming = event.Asked client line }) ≡ v
  unfolding after_event
  let_go_leaves =
      let p = process_after plan kept v (record { turn = turn; coming = event.Asked client line }) in
      ap (λ (l : Line). with_line plan v client l p (new_step v p)) is

  pub let_go_says : of_event plan kept v (record { turn = turn; coming = event.Asked client line }) ≡ []
  unfolding of_event
  let_go_says =
      let p = process_after plan kept v (record { turn = turn; coming = event.Asked client line }) in
      ap (λ (l : Line). of_line plan v client l (new_step v p)) is

pub let_go_silent : LettingGoIsSilent
let_go_silent plan kept v turn client line number is = (
  record { comes = let_go_comes plan kept v turn client line number is; stays = let_go_leaves plan kept v turn client line number is },
  let_go_says plan kept v turn client line number is,
)

-- A command comes to the actor.
pub command_comes : (plan : Plan) (v : Kept) (client : ℕ) (line : Option (List ℕ)) (tag : ℕ) (c : Command) → line_of plan v client line ≡ Commands tag c → comes_of plan v (event.Asked client line) ≡ Some (Bids c)
command_comes plan v client line tag c is = ap (λ (l : Line). bids (command_in l)) is

-- A client that has gone.

pub gone_leaves : (plan : Plan) (kept : List Record) (v : Served) (turn client : ℕ) → after_event plan kept v (record { turn = turn; coming = event.Gone client }) ≡ record v { sessions = without_client v.sessions client }
unfolding after_event
gone_leaves plan kept v turn client = refl

pub gone_says : (plan : Plan) (kept : List Record) (v : Served) (turn client : ℕ) → of_event plan kept v (record { turn = turn; coming = event.Gone client }) ≡ []
unfolding of_event
gone_says plan kept v turn client = refl

-- What the policy says.

-- a command that names what is there comes to the actor
pub named_comes : (plan : Plan) (v : Kept) (c : Command) → command_names plan.config (actor_of plan) c ≡ true → comes_of plan v (event.Advised c) ≡ Some (Bids c)
named_comes plan v c named = ap (λ (b : Bool). bids (if b then Some c else None)) named

-- one that does not is left out

pub unnamed_comes : (plan : Plan) (v : Kept) (c : Command) → command_names plan.config (actor_of plan) c ≡ false → comes_of plan v (event.Advised c) ≡ None
unnamed_comes plan v c named = ap (λ (b : Bool). bids (if b then Some c else None)) named

unnamed_stays : (plan : Plan) (kept : List Record) (v : Served) (turn : ℕ) (c : Command) → command_names plan.config (actor_of plan) c ≡ false → process_after plan kept v (record { turn = turn; coming = event.Advised c }) ≡ v.process
unnamed_stays plan kept v turn c named = ap (λ (x : Option Comes). process_with plan kept v.process (happening_of turn x)) (unnamed_comes plan v.sessions c named)

pub unnamed_leaves : (plan : Plan) (kept : List Record) (v : Served) (turn : ℕ) (c : Command) → command_names plan.config (actor_of plan) c ≡ false → after_event plan kept v (record { turn = turn; coming = event.Advised c }) ≡ v
unnamed_leaves plan kept v turn c named =
    event_leaves plan kept v (record { turn = turn; coming = event.Advised c }) v.process None (unnamed_stays plan kept v turn c named) (newer_none v.process.steps)

pub unnamed_says : (plan : Plan) (kept : List Record) (v : Served) (turn : ℕ) (c : Command) → command_names plan.config (actor_of plan) c ≡ false → of_event plan kept v (record { turn = turn; coming = event.Advised c }) ≡ []
unnamed_says plan kept v turn c named =
    event_says plan kept v (record { turn = turn; coming = event.Advised c }) v.process None (unnamed_stays plan kept v turn c named) (newer_none v.process.steps)
