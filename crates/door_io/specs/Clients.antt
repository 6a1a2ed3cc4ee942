-- The door and the log of a served process as one: what they tell at a moment, and what each call makes of it.
use Rattle.std.specs.Prelude.{◌≡◌, ℕ, Bool, true, List, Option}
use Rattle.edge_io.specs.Plan.{counted}
use Rattle.door_io.specs.Doors.{Arrived, GivesFirst, SaysOrDrops}
use Rattle.door_io.specs.Logs.{LogsOrDrops}

-- what is still to come, what was said to each client, who was dropped, the lines of the log, and how many lines it has lost
pub record ClientsTold : Type 0 where
  pub asked : Option (List Arrived)
  pub answered : ℕ → Option (List ℕ)
  pub dropped : ℕ → Bool
  pub logged : Option (List (List ℕ))
  pub lost : ℕ

-- this came, and nothing was said or logged
pub record Asks (these : List Arrived) (old new : ClientsTold) : Type 0 where
  pub first : GivesFirst old.asked these new.asked
  pub answered : (any : ℕ) → new.answered any ≡ old.answered any
  pub dropped : (any : ℕ) → new.dropped any ≡ old.dropped any
  pub logged : new.logged ≡ old.logged
  pub lost : new.lost ≡ old.lost

-- the text was said to the client as a whole, or the client was dropped; nothing came, and nothing was logged
pub record Says (client : ℕ) (text : List ℕ) (old new : ClientsTold) : Type 0 where
  pub said : SaysOrDrops client text old.answered new.answered old.dropped new.dropped
  pub asked : new.asked ≡ old.asked
  pub logged : new.logged ≡ old.logged
  pub lost : new.lost ≡ old.lost

-- the client was dropped: whatever is said to it does not reach it
pub record Closes (client : ℕ) (old new : ClientsTold) : Type 0 where
  pub says : (text : List ℕ) → Says client text old new
  pub dropped : new.dropped client ≡ true

-- the line is in the log or counted as lost; nothing came, and nothing was said
pub record Logs (line : List ℕ) (old new : ClientsTold) : Type 0 where
  pub logged : LogsOrDrops line old.logged new.logged old.lost new.lost
  pub asked : new.asked ≡ old.asked
  pub answered : (any : ℕ) → new.answered any ≡ old.answered any
  pub dropped : (any : ℕ) → new.dropped any ≡ old.dropped any

-- a line was counted as lost; nothing came, nothing was said, and nothing was logged
pub record Loses (old new : ClientsTold) : Type 0 where
  pub logged : new.logged ≡ old.logged
  pub lost : new.lost ≡ counted old.lost
  pub asked : new.asked ≡ old.asked
  pub answered : (any : ℕ) → new.answered any ≡ old.answered any
  pub dropped : (any : ℕ) → new.dropped any ≡ old.dropped any

-- what a door and a log tell
abbrev pub clients_told : Option (List Arrived) → (ℕ → Option (List ℕ)) → (ℕ → Bool) → Option (List (List ℕ)) → ℕ → ClientsTold
clients_told asked answered dropped logged lost = record { asked = asked; answered = answered; dropped = dropped; logged = logged; lost = lost }
