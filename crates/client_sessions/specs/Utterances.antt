-- What a served process says: to its clients, and to its log.
use Rattle.std.specs.Prelude.{◌≡◌, ℕ, ◌==◌, Bool, true, false, List, [], ◌∷◌, ◌++◌, flat_map, length, if◌then◌else◌}
use Rattle.edge_io.specs.Edge.{Grew}
use Rattle.edge_io.specs.Plan.{counted}
use Rattle.door_io.specs.Clients.{ClientsTold, Logs, Says}

pub data Utterance : Type 0 where
  -- a text for a client
  Reply : (client : ℕ) (text : List ℕ) → Utterance
  -- a line of the log
  Line : (text : List ℕ) → Utterance

-- it was said, or its client dropped; it is in the log, or counted as lost
abbrev pub Utters : Utterance → ClientsTold → ClientsTold → Type 0
Utters (Reply client text) a b = Says client text a b
Utters (Line text) a b = Logs text a b

abbrev pub InTurn : List Utterance → ClientsTold → ClientsTold → Type 0
InTurn [] a b = a ≡ b
InTurn (u ∷ us) a b = (m : ClientsTold) × (Utters u a m × InTurn us m b)

-- all of these were said, one after another, and nothing else
pub record Uttered (us : List Utterance) (a b : ClientsTold) : Type 0 where
  pub in_turn : InTurn us a b

-- What comes of it, in the words of the two devices.

-- what was said to one client
abbrev pub reply_to : ℕ → Utterance → List ℕ
reply_to client (Reply other text) = if other == client then text else []
reply_to client (Line text) = []

abbrev pub replies_to : ℕ → List Utterance → List ℕ
replies_to client us = flat_map (reply_to client) us

abbrev pub line_of : Utterance → List (List ℕ)
line_of (Reply client text) = []
line_of (Line text) = text ∷ []

abbrev pub lines_of : List Utterance → List (List ℕ)
lines_of us = flat_map line_of us

-- a client that is not dropped has heard the texts for it as a whole, in order, and nothing else
abbrev pub EachHearsItsReplies : Type 0
EachHearsItsReplies =
    (us : List Utterance) (a b : ClientsTold) → Uttered us a b → (client : ℕ) → b.dropped client ≡ false → Grew (a.answered client) (b.answered client) (replies_to client us)

-- of each line, whether the log has it

abbrev pub kept_if : Bool → List ℕ → List (List ℕ)
kept_if true line = line ∷ []
kept_if false line = []

abbrev pub kept_of : List Bool → List (List ℕ) → List (List ℕ)
kept_of (has ∷ fates) (line ∷ lines) = kept_if has line ++ kept_of fates lines
kept_of _ _ = []

abbrev pub lost_after : List Bool → ℕ → ℕ
lost_after [] lost = lost
lost_after (true ∷ fates) lost = lost_after fates lost
lost_after (false ∷ fates) lost = lost_after fates (counted lost)

-- the log has these lines in order, but for those that are counted as lost
pub record LogHas (lines : List (List ℕ)) (a b : ClientsTold) : Type 0 where
  pub fates : List Bool
  pub each : length fates ≡ length lines
  pub has : Grew a.logged b.logged (kept_of fates lines)
  pub lost : b.lost ≡ lost_after fates a.lost

abbrev pub TheLogHasItsLines : Type 0
TheLogHasItsLines = (us : List Utterance) (a b : ClientsTold) → Uttered us a b → LogHas (lines_of us) a b
