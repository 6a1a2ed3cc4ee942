-- The values that a field of a frame can have.
use Rattle.std.specs.Prelude.{ℕ, Bool, true, false, ◌&&◌, ◌||◌, List, [], ◌∷◌, length, nat_le, nat_lt, ◌==◌, Option, Some, None}
use Rattle.std.specs.List.{list_any}
use Rattle.ring_points.specs.Limits.{least_lease, most_hops, most_lease, most_log_entries, most_members}
use Rattle.ring_points.specs.Limits.{most_node_number, most_reading, most_rounds, most_write}
use Rattle.ring_points.specs.declared.who.Who.{Who}
use Rattle.ring_points.specs.declared.unit.Epoch.{Epoch}
use Rattle.ring_points.specs.declared.unit.Config.{Config}
use Rattle.ring_points.specs.declared.interval.Interval.{Interval}
use Rattle.ring_points.specs.Ranges.{is_proper}

abbrev pub is_within : ℕ → ℕ → ℕ → Bool
is_within low high n = nat_le low n && nat_le n high

-- a number of 2, of 4 or of 8 bytes
abbrev pub is_short : ℕ → Bool
is_short n = nat_lt n 65536

abbrev pub is_word : ℕ → Bool
is_word n = nat_lt n 4294967296

abbrev pub is_long : ℕ → Bool
is_long n = nat_lt n 18446744073709551616

-- a number of a session, of a flight or of an instance: 4 bytes, and not 0
abbrev pub is_counted : ℕ → Bool
is_counted n = nat_le 1 n && is_word n

-- the sender's and the receiver's number of a session
abbrev pub is_session : ℕ → ℕ → Bool
is_session mine yours = is_counted mine && is_counted yours

-- a reading of a clock
abbrev pub is_stamp : ℕ → Bool
is_stamp n = nat_le n most_reading

-- the length of a lease
abbrev pub is_lease : ℕ → Bool
is_lease n = is_within least_lease most_lease n

-- the number of the last entry of a log
abbrev pub is_last : ℕ → Bool
is_last n = nat_le n most_log_entries

abbrev pub is_hops : ℕ → Bool
is_hops n = nat_le n most_hops

abbrev pub is_round : ℕ → Bool
is_round n = is_within 1 most_rounds n

abbrev pub is_node : ℕ → Bool
is_node n = is_within 1 most_node_number n

-- an instance of a node
abbrev pub is_who : Who → Bool
is_who w = is_node w.actor && is_counted w.instance

-- an arbitrator, whose instance is 0
abbrev pub is_arbiter : Who → Bool
is_arbiter w = is_within 32769 32777 w.actor && w.instance == 0

-- who sends: an instance of a node, or an arbitrator
abbrev pub is_sender : Who → Bool
is_sender w = is_who w || is_arbiter w

-- to whom: a node, in one instance or with 0 in whichever runs, or an arbitrator
abbrev pub is_addressee : Who → Bool
is_addressee w = (is_node w.actor && is_word w.instance) || is_arbiter w

-- a range set with a point
abbrev pub is_some : List Interval → Bool
is_some [] = false
is_some (i ∷ is) = true

abbrev pub is_part : List Interval → Bool
is_part ranges = is_proper ranges && is_some ranges

abbrev pub is_epoch : Epoch → Bool
is_epoch e = is_word e.data_loss && is_word e.configuration

abbrev pub is_unit : ℕ → Epoch → Bool
is_unit partition epoch = is_short partition && is_epoch epoch

-- nodes above one, each above the one before
abbrev pub rises_above : ℕ → List ℕ → Bool
rises_above below [] = true
rises_above below (n ∷ ns) = nat_lt below n && nat_le n most_node_number && rises_above n ns

-- nodes, rising, and the primary among them
abbrev pub has_members : Config → Bool
has_members c = rises_above 0 c.members && list_any (λ n. n == c.primary) c.members

-- a configuration, with no more members than it may have
abbrev pub is_config : Config → Bool
is_config c = (is_unit c.partition c.epoch && is_short c.primary && nat_le (length c.members) most_members) && has_members c

-- a configuration of this partition and epoch
abbrev pub same_unit : ℕ → Epoch → Config → Bool
same_unit partition epoch c =
    c.partition == partition && c.epoch.data_loss == epoch.data_loss && c.epoch.configuration == epoch.configuration

abbrev pub is_done : Option Config → Bool
is_done None = true
is_done (Some c) = is_config c

-- the bytes of a write
abbrev pub is_payload : List ℕ → Bool
is_payload text = nat_le (length text) most_write
