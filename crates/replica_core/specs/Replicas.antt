-- A replica as a value, and what changes it.
use Rattle.std.specs.Prelude.{◌≡◌, ℕ, ◌+◌, ◌≤◌, Bool, true, false, ◌&&◌, ◌==◌, nat_eq, List, [], ◌∷◌, ◌++◌, length, IsTrue, if◌then◌else◌}
use Rattle.ring_points.specs.Limits.{most_log_entries}
use lib.Pointwise.{pointwise}
use Rattle.ring_points.specs.declared.unit.Epoch.{Epoch}
use Rattle.ring_points.specs.Epochs.{same_epoch, is_older}
use Rattle.replica_core.specs.declared.entry.Entry.{Entry}
use Rattle.replica_core.specs.declared.role.Role.{Role}
use Rattle.replica_core.specs.declared.role.Role.TheVariants.{None as NoRole}
use Rattle.replica_core.specs.Roles.{demoted}

-- the promised epoch, the log and the epoch of which it is, the role, and the entries that are collected for the promised epoch
pub record Replica : Type 0 where
  pub partition : ℕ
  pub promised : Epoch
  pub at : Epoch
  pub log : List Entry
  pub role : Role
  pub collected : List Entry

-- the epoch before all others
abbrev pub first_epoch : Epoch
first_epoch = record { data_loss = 0; configuration = 0 }

abbrev pub first_replica : ℕ → Replica
first_replica partition = record { partition = partition; promised = first_epoch; at = first_epoch; log = []; role = NoRole; collected = [] }

abbrev pub same_entry : Entry → Entry → Bool
same_entry a b = same_epoch a.epoch b.epoch && a.lsn == b.lsn && pointwise nat_eq a.bytes b.bytes

-- the entries that are collected for this epoch, which is not below the promised one
abbrev pub collected_in : Epoch → Replica → List Entry
collected_in e s = if is_older s.promised e then [] else s.collected

abbrev pub role_in : Epoch → Replica → Role
role_in e s = if is_older s.promised e then demoted s.role else s.role

-- this epoch, which is not below the promised one, is promised
abbrev pub raised : Epoch → Replica → Replica
raised e s = record s { promised = e; role = role_in e s; collected = collected_in e s }

-- an entry is added to the log
abbrev pub written : Entry → Replica → Replica
written entry s = record s { log = s.log ++ entry ∷ [] }

-- this is the log of the epoch
abbrev pub adopted : Epoch → List Entry → Replica → Replica
adopted e log s = record (raised e s) { at = e; log = log }

-- nothing is collected
abbrev pub uncollected : Replica → Replica
uncollected s = record s { collected = [] }

-- the next instance begins: the role is lost, and what was collected
abbrev pub begun_again : Replica → Replica
begun_again s = record s { role = NoRole; collected = [] }

-- what is collected becomes the log of the epoch
abbrev pub settled : Epoch → Replica → Replica
settled e s = record s { at = e; log = s.collected; collected = [] }

-- what is collected with this entry; the first entry begins anew
abbrev pub collected_with : Epoch → Entry → Replica → List Entry
collected_with e entry s = (if entry.lsn == 1 then [] else collected_in e s) ++ entry ∷ []

abbrev pub collecting : Epoch → Entry → Replica → Replica
collecting e entry s = record (raised e s) { collected = collected_with e entry s }

-- the numbers of the entries rise by one
abbrev pub is_numbered : ℕ → List Entry → Bool
is_numbered next [] = true
is_numbered next (entry ∷ entries) = entry.lsn == next && is_numbered (next + 1) entries

-- a log: numbered from 1, and with room for no more than 100,000
pub record IsLog (entries : List Entry) : Type 0 where
  pub numbered : IsTrue (is_numbered 1 entries)
  pub room : length entries ≤ most_log_entries

-- what holds of every replica
pub record IsSound (s : Replica) : Type 0 where
  pub at_promised : is_older s.promised s.at ≡ false
  pub log : IsLog s.log
  pub collected : IsLog s.collected
