-- A life of a served process, from its records up to a moment.
use Rattle.std.specs.Prelude.{◌≡◌, false, List, [], ◌∷◌, ◌++◌}
use Rattle.client_sessions.specs.Sessions.{Kept}
use Rattle.client_sessions.specs.Utterances.{Utterance}
use Rattle.fabric_terms.specs.declared.record.Record.{Record}
use Rattle.serve_rules.specs.Events.{Event}
use Rattle.serve_rules.specs.Served.{IsDue, Served, after_event, comes_of, fresh, happening_of, of_event}
use Rattle.turn_rules.specs.Happenings.{History}
use Rattle.turn_rules.specs.Plans.{Plan}

-- Of events, the newest first, from these sessions on.

-- the process after them
abbrev pub served : Plan → List Record → Kept → List Event → Served
served plan kept v [] = fresh v
served plan kept v (e ∷ es) = after_event plan kept (served plan kept v es) e

-- what has come to its actor
abbrev pub happenings : Plan → List Record → Kept → List Event → History
happenings plan kept v [] = []
happenings plan kept v (e ∷ es) =
    happening_of e.turn (comes_of plan (served plan kept v es).sessions e.coming) ++ happenings plan kept v es

-- what was said, the oldest first
abbrev pub said_of : Plan → List Record → Kept → List Event → List Utterance
said_of plan kept v [] = []
said_of plan kept v (e ∷ es) = said_of plan kept v es ++ of_event plan kept (served plan kept v es) e

-- Each firing was due, and each turn without one had none due. Nothing comes to a process that was told to end.
abbrev pub AreDue : Plan → List Record → Kept → List Event → Type 0
AreDue plan kept v [] = Unit {0}
AreDue plan kept v (e ∷ es) =
    AreDue plan kept v es × (IsDue plan (served plan kept v es) e.coming × ((served plan kept v es).ending ≡ false))
