-- A life of a served process, event by event: its process is that of its actor.
use Rattle.std.specs.Prelude.{is_none}
use Rattle.std.proofs.Common.{◌≡◌, ℕ, Bool, true, false, List, [], ◌∷◌, ◌++◌, Option, Some, None, refl, ap, ◌∙◌}
use Rattle.client_sessions.specs.Sessions.{Kept}
use Rattle.door_lines.specs.declared.asked.Request.{Request}
use Rattle.door_lines.specs.declared.asked.Request.TheVariants as request
use Rattle.fabric_terms.specs.declared.record.Record.{Record}
use Rattle.ring_points.specs.declared.point.Point.{Point}
use Rattle.ring_rules.specs.declared.input.Input.{Input}
use Rattle.serve_rules.specs.Events.{Advised, Asked, Coming, Event, Gone, OfTurn, input_of}
use Rattle.serve_rules.specs.Laws.{ProcessIsAfter}
use Rattle.serve_rules.specs.Lines.{AtOnce, Commands, LetsGo, Line, Refused, line_of}
use Rattle.serve_rules.specs.Lives.{happenings, served}
use Rattle.serve_rules.specs.Served.{Served, after_event, bids, command_in, comes_of, happening_of, process_after, process_with, with_coming, with_line, with_new, with_reading, with_request}
use Rattle.serve_rules.specs.Services.{life_of}
use Rattle.turn_rules.specs.Happenings.{Begins, Bids, Comes, Fires, Hears, History, Rests, Turns}
use Rattle.turn_rules.specs.Plans.{Plan}
use Rattle.turn_rules.specs.Process.{Process, after}
use Rattle.turn_rules.specs.Steps.{Step}

-- What an event leaves has the process that is behind it.

of_new : (v : Served) (p : Process) (i : Option Input) (sought : Option Point) (new : Option Step) → (with_new v p i sought new).process ≡ p
of_new v p i sought None = refl
of_new v p i sought (Some step) = refl

of_request : (plan : Plan) (v : Served) (client : ℕ) (r : Request) → (with_request plan v client r).process ≡ v.process
of_request plan v client (request.Command c) = refl
of_request plan v client request.State = refl
of_request plan v client (request.Log partition first count) = refl
of_request plan v client request.Watch = refl
of_request plan v client request.WatchAll = refl
of_request plan v client request.Leave = refl
of_request plan v client request.End = refl
of_request plan v client (request.Hold point) = refl
of_request plan v client (request.Lead partition) = refl

of_reading : (v : Served) (p : Process) (on : Bool) → (with_reading v p on).process ≡ p
of_reading v p true = refl
of_reading v p false = refl

-- the process behind what comes in this turn, if something does
abbrev behind : Plan → List Record → Served → ℕ → Option Comes → Process
behind plan kept v turn x = process_with plan kept v.process (happening_of turn x)

of_line : (plan : Plan) (kept : List Record) (v : Served) (turn client : ℕ) (line : Line) (new : Option Step)
    → (with_line plan v client line (behind plan kept v turn (bids (command_in line))) new).process ≡ behind plan kept v turn (bids (command_in line))
of_line plan kept v turn client (Refused tag fault) new = refl
of_line plan kept v turn client (AtOnce tag r) new = of_request plan v client r
of_line plan kept v turn client (LetsGo number) new = refl
of_line plan kept v turn client (Commands tag c) None = refl
of_line plan kept v turn client (Commands tag c) (Some step) = refl

of_coming : (plan : Plan) (kept : List Record) (v : Served) (turn : ℕ) (x : Coming) (new : Option Step)
    → (with_coming plan v x (behind plan kept v turn (comes_of plan v.sessions x)) new).process ≡ behind plan kept v turn (comes_of plan v.sessions x)
of_coming plan kept v turn (OfTurn (Begins reading)) new = of_new v _ (input_of (Begins reading)) None new
of_coming plan kept v turn (OfTurn (Turns reading)) new = of_reading v _ (is_none (behind plan kept v turn (Some (Turns reading))).end)
of_coming plan kept v turn (OfTurn (Bids c)) new = of_new v _ (input_of (Bids c)) None new
of_coming plan kept v turn (OfTurn (Hears answer)) new = of_new v _ (input_of (Hears answer)) None new
of_coming plan kept v turn (OfTurn Fires) new = of_new v _ (input_of Fires) None new
of_coming plan kept v turn (OfTurn Rests) new = refl
of_coming plan kept v turn (Asked client line) new = of_line plan kept v turn client (line_of plan v.sessions client line) new
of_coming plan kept v turn (Gone client) new = refl
of_coming plan kept v turn (Advised c) new = of_new v _ (input_of (Bids c)) None new

pub process_next : (plan : Plan) (kept : List Record) (v : Served) (e : Event) → (after_event plan kept v e).process ≡ process_after plan kept v e
unfolding after_event
process_next plan kept v e = of_coming plan kept v e.turn e.coming _

-- what has come to the actor, and what comes
pub after_coming : (plan : Plan) (kept : List Record) (hs : History) (turn : ℕ) (x : Option Comes)
    → process_with plan kept (after (life_of plan kept) hs) (happening_of turn x) ≡ after (life_of plan kept) (happening_of turn x ++ hs)
after_coming plan kept hs turn None = refl
after_coming plan kept hs turn (Some x) = refl

pub served_process : ProcessIsAfter
served_process plan kept v [] = refl
served_process plan kept v (e ∷ es) =
    let x = comes_of plan (served plan kept v es).sessions e.coming in
    process_next plan kept (served plan kept v es) e
    ∙ ap (λ (p : Process). process_with plan kept p (happening_of e.turn x)) (served_process plan kept v es)
    ∙ after_coming plan kept (happenings plan kept v es) e.turn x

-- the process behind an event of which this comes to the actor
pub process_met : (plan : Plan) (kept : List Record) (v : Kept) (es : List Event) (e : Event) (hs : History) → happenings plan kept v (e ∷ es) ≡ hs
    → process_after plan kept (served plan kept v es) e ≡ after (life_of plan kept) hs
process_met plan kept v es e hs comes =
    let x = comes_of plan (served plan kept v es).sessions e.coming in
    ap (λ (p : Process). process_with plan kept p (happening_of e.turn x)) (served_process plan kept v es)
    ∙ after_coming plan kept (happenings plan kept v es) e.turn x
    ∙ ap (after (life_of plan kept)) comes
