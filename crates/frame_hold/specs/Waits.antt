-- Which frames wait, and for which numbers.
use Rattle.std.specs.Prelude.{ℕ, ◌+◌, Bool, true, false, not, ◌&&◌, ◌==◌, List, filter, nat_lt, Option, Some, None}
use Rattle.std.specs.List.{list_any}
use Rattle.ring_points.specs.Epochs.{is_older}
use Rattle.ring_points.specs.Whos.{same_who}
use Rattle.ring_points.specs.declared.unit.Epoch.{Epoch}
use Rattle.fabric_terms.specs.declared.message.Message.{Message}
use Rattle.fabric_terms.specs.declared.message.Body.{Body}
use Rattle.fabric_terms.specs.declared.message.Body.TheVariants as body
use Rattle.frame_format.specs.Kinds.{message_of}
use Rattle.frame_hold.specs.declared.losses.GivesUp.{GivesUp}
use Rattle.frame_hold.specs.declared.losses.GivesUp.TheVariants as gives
use Rattle.frame_hold.specs.declared.holding.Owed.{Owed}

abbrev pub is_transfer : Body → Bool
is_transfer (body.Transfer mine yours flight ranges) = true
is_transfer _ = false

abbrev pub is_flight : ℕ → Body → Bool
is_flight number (body.Transfer mine yours flight ranges) = flight == number
is_flight number _ = false

-- the frame lets another node lead the partition in this epoch or a later one
abbrev pub is_of_epoch : ℕ → Epoch → Body → Bool
is_of_epoch p e (body.Promised partition epoch at last) = partition == p && not (is_older epoch e)
is_of_epoch p e (body.Adopted partition epoch last) = partition == p && not (is_older epoch e)
is_of_epoch p e (body.Appended partition epoch last) = partition == p && not (is_older epoch e)
is_of_epoch p e _ = false

-- another node could take over by the frame what is given up
abbrev pub could_take : GivesUp → Message → Bool
could_take (gives.Flight to flight) m = same_who m.to to && is_flight flight m.body
could_take (gives.Epoch partition epoch) m = is_of_epoch partition epoch m.body
could_take gives.Ranges m = is_transfer m.body
could_take gives.Everything m = false

-- the frame waits for one of the numbers that are open
abbrev pub waits : List Owed → Message → Bool
waits owed m = list_any (λ o. could_take o.what m) owed

abbrev pub read_waits : List Owed → Option Message → Bool
read_waits owed None = false
read_waits owed (Some m) = waits owed m

-- the same of a frame as bytes; what is no frame never waits
unfoldable pub frame_waits : List Owed → List ℕ → Bool
frame_waits owed bytes = read_waits owed (message_of bytes)

abbrev pub is_number : ℕ → Owed → Bool
is_number number o = o.number == number

-- what is open after a `done`
abbrev pub without : ℕ → List Owed → List Owed
without number owed = filter (λ o. not (is_number number o)) owed

-- a number is owed for longer than this
abbrev pub is_overdue : ℕ → ℕ → List Owed → Bool
is_overdue now hold owed = list_any (λ o. nat_lt (o.since + hold) now) owed
