-- What promises and logs keep, whatever is called.
use Rattle.std.specs.Prelude.{◌≡◌, ℕ, false, List, ◌++◌, Some, Ok}
use Rattle.ring_points.specs.declared.unit.Epoch.{Epoch}
use Rattle.ring_points.specs.Epochs.{is_older}
use Rattle.replica_core.specs.declared.entry.Entry.{Entry}
use Rattle.replica_core.specs.declared.refusal.Done.TheVariants.{New}
use Rattle.replica_core.specs.Replicas.{Replica}
use Rattle.replica_core.specs.Calls.{append_call}
use Rattle.replica_core.specs.Histories.{Call, made, after, after_all}

-- the log is of no epoch above the promised one
abbrev pub IsNotAhead : Replica → Type 0
IsNotAhead s = is_older s.promised s.at ≡ false

-- the promised epoch never falls
abbrev pub NeverFalling : Type 0
NeverFalling = (calls : List Call) (s : Replica) → is_older (after_all calls s).promised s.promised ≡ false

-- the log is of no epoch above the promised one from then on
abbrev pub StayingBehind : Type 0
StayingBehind = (calls : List Call) (s : Replica) → IsNotAhead s → IsNotAhead (after_all calls s)

-- each call that is taken makes its epoch the promised one
abbrev pub Promising : Type 0
Promising = (call : Call) (s : Replica) (e : Epoch) → IsNotAhead s → (made call s).0 ≡ Some e → (after call s).promised ≡ e

-- while the log is of one epoch, entries are only added to it
abbrev pub OnlyGrowing : Type 0
OnlyGrowing =
    (calls : List Call) (s : Replica)
    → IsNotAhead s → (after_all calls s).at ≡ s.at → (more : List Entry) × ((after_all calls s).log ≡ s.log ++ more)

-- no accepted entry has an epoch below that of an earlier call that was taken: a promise, or an entry
abbrev pub NoOlderEntry : Type 0
NoOlderEntry =
    (s : Replica) (first : Call) (calls : List Call) (earlier e : Epoch) (lsn : ℕ) (bytes : List ℕ)
    → IsNotAhead s → (made first s).0 ≡ Some earlier
    → (append_call e lsn bytes (after_all calls (after first s))).0 ≡ Ok New → is_older e earlier ≡ false
