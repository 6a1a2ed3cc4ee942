-- What instances and arbitrators send.
use Rattle.std.specs.Prelude.{ℕ, Bool, true, false, List, [], ◌∷◌, Option, None, Some}
use Rattle.ring_points.specs.declared.who.Who.{Who}
use Rattle.ring_points.specs.declared.who.Ruling.{Ruling}
use Rattle.ring_machine.specs.Points.{Points}
use Rattle.ring_machine.specs.Ends.{End}

-- Hello carries the lease length that the asker proposes, Offer the one that is agreed.
-- A Renew's stamp is the reading at its sending; bound says of a Gone that its sender wants one in answer. A Kept says whom
-- the arbitrator keeps of a round about the victim, to whomever it goes.
pub data Frame : Type 0 where
  Hello : (from : End) → (node len : ℕ) → Frame
  Offer : (from to : End) → (len : ℕ) → Frame
  Take : (from to : End) → Frame
  Renew : (from to : End) → (stamp version got : ℕ) → (points : Points) → Frame
  RenewAck : (from to : End) → (stamp version : ℕ) → Frame
  Transfer : (from to : End) → (number : ℕ) → (part : Points) → Frame
  Gone : (from to : End) → (got : ℕ) → (bound : Bool) → Frame
  Accuse : (from victim : Who) → Frame
  Ruled : (arbiter : ℕ) → (to victim : Who) → Ruling → Frame
  RoundClaim : (from victim : Who) → (round : ℕ) → Frame
  Kept : (arbiter : ℕ) → (victim : Who) → (round : ℕ) → (claimer : Who) → Frame

-- the ends that a frame names, where it is one of a session
abbrev pub ends_of : Frame → Option (End × End)
ends_of (Hello from node len) = None
ends_of (Offer from to len) = Some (from, to)
ends_of (Take from to) = Some (from, to)
ends_of (Renew from to stamp version got points) = Some (from, to)
ends_of (RenewAck from to stamp version) = None
ends_of (Transfer from to number part) = Some (from, to)
ends_of (Gone from to got bound) = Some (from, to)
ends_of (Accuse from victim) = None
ends_of (Ruled arbiter to victim ruling) = None
ends_of (RoundClaim from victim round) = None
ends_of (Kept arbiter victim round claimer) = None

-- the frame, where it is wanted
abbrev pub answer_if : Bool → Frame → List Frame
answer_if true frame = frame ∷ []
answer_if false frame = []
