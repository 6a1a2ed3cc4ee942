-- What a primary knows of the other members.
use Rattle.std.specs.Prelude.{ℕ, ◌+◌, Bool, true, false, not, ◌&&◌, ◌==◌, List, [], ◌∷◌, length, map, filter, count_by, max, Option, None, nat_le, nat_lt, if◌then◌else◌}
use Rattle.ring_points.specs.declared.unit.Config.{Config}
use Rattle.ring_points.specs.Epochs.{is_older}
use Rattle.arbiter_quorum.specs.Tallies.{is_majority}
use Rattle.replica_core.specs.declared.role.Role.{Role}
use Rattle.replica_core.specs.declared.role.Role.TheVariants.{Primary}
use Rattle.unit_rules.specs.declared.progress.PeerProgress.{PeerProgress}
use Rattle.unit_rules.specs.ReplicaStates.{ReplicationProgress, ReplicaState}

-- a member of which no entry is known to be confirmed is sent what comes next
abbrev pub first_peer : ℕ → ℕ → PeerProgress
first_peer last node = record { node = node; confirmed = 0; next = last + 1 }

-- at its activation a primary knows of no confirmed entry, and all that it has is committed
abbrev pub first_progress : ℕ → Config → ℕ → ReplicationProgress
first_progress me config last =
    record {
      peers = map (first_peer last) (filter (λ n. not (n == me)) config.members);
      begun = last;
      committed = last;
    }

-- the last entry that it reported committed since its activation, 0 where it reported none: each such report is of more
-- than was committed before
abbrev pub reported_of : ReplicationProgress → ℕ
reported_of l = if nat_lt l.begun l.committed then l.committed else 0

abbrev pub is_primary : Role → Bool
is_primary Primary = true
is_primary _ = false

-- what the primary knows, where it is one and has promised nothing higher
abbrev pub progress_of : ReplicaState → Option ReplicationProgress
progress_of s = if is_primary s.replica.role && not (is_older s.replica.at s.replica.promised) then s.progress else None

-- A member has its entries up to `last`, and is sent the next one. An entry that the primary has not is not confirmed.

abbrev pub confirmed_up_to : ℕ → ℕ → PeerProgress → ℕ
confirmed_up_to last own p = if nat_le last own then max p.confirmed last else p.confirmed

abbrev pub peer_confirms : ℕ → ℕ → ℕ → PeerProgress → PeerProgress
peer_confirms node last own p = if p.node == node then record p { confirmed = confirmed_up_to last own p; next = last + 1 } else p

abbrev pub confirmed_by : ℕ → ℕ → ℕ → ReplicationProgress → ReplicationProgress
confirmed_by node last own l = record l { peers = map (peer_confirms node last own) l.peers }

-- the last confirmed entry of each member, the primary itself among them
abbrev pub confirmed_of : ReplicationProgress → ℕ → List ℕ
confirmed_of l own = own ∷ map (λ p. p.confirmed) l.peers

-- a majority of the members has confirmed the entry
abbrev pub is_confirmed : List ℕ → ℕ → Bool
is_confirmed confirmed lsn = is_majority (length confirmed) (count_by (nat_le lsn) confirmed)

abbrev pub greatest : List ℕ → ℕ
greatest [] = 0
greatest (n ∷ ns) = max n (greatest ns)

-- the greatest entry that a majority has confirmed
abbrev pub most_confirmed : List ℕ → ℕ
most_confirmed confirmed = greatest (filter (is_confirmed confirmed) confirmed)
