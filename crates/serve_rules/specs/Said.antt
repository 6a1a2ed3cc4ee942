-- What has come at the door, and what was said, since a life began.
use Rattle.std.specs.Prelude.{◌≡◌, ℕ, List, [], ◌∷◌, ◌++◌}
use Rattle.client_sessions.specs.Utterances.{Utterance, Utters}
use Rattle.door_io.specs.Clients.{ClientsTold}
use Rattle.door_io.specs.Doors.{Arrived, GivesFirst}
use Rattle.door_io.specs.Doors as door
use Rattle.serve_rules.specs.Events.{Advised, Asked, Coming, Event, Gone, OfTurn}

-- nothing was said, and nothing logged
pub record SaysNothing (a b : ClientsTold) : Type 0 where
  pub answered : (any : ℕ) → b.answered any ≡ a.answered any
  pub dropped : (any : ℕ) → b.dropped any ≡ a.dropped any
  pub logged : b.logged ≡ a.logged
  pub lost : b.lost ≡ a.lost

-- all of these were said, one after another, and nothing else; between them something may have come
abbrev pub SaidAll : List Utterance → ClientsTold → ClientsTold → Type 0
SaidAll [] a b = SaysNothing a b
SaidAll (u ∷ us) a b = (m n : ClientsTold) × (SaysNothing a m × Utters u m n × SaidAll us n b)

-- what comes at the door
abbrev pub arrived_in : Coming → List Arrived
arrived_in (OfTurn x) = []
arrived_in (Asked client line) = door.Asked client line ∷ []
arrived_in (Gone client) = door.Gone client ∷ []
arrived_in (Advised c) = []

-- of events, the newest first: what has come at the door, the oldest first
abbrev pub arrived_of : List Event → List Arrived
arrived_of [] = []
arrived_of (e ∷ es) = arrived_of es ++ arrived_in e.coming

-- this came at the door, and this was said
pub record Serves (these : List Arrived) (words : List Utterance) (a b : ClientsTold) : Type 0 where
  pub came : GivesFirst a.asked these b.asked
  pub said : SaidAll words a b
