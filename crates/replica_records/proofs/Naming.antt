-- Where a row of a replica records anything, records name the replica; and it takes no log that has no room.
use Rattle.std.proofs.Common.{◌≡◌, ℕ, ◌+◌, Bool, true, false, ◌==◌, ◌&&◌, nat_lt, List, [], ◌∷◌, ◌++◌, length, Some, Ok, Err, refl, sym, ap, ◌∙◌, subst, arith}
use Rattle.std.proofs.lemmas.Bool.Decides.{nat_tests}
use Rattle.std.specs.Prelude.{Result, not}
use Rattle.ring_points.specs.Limits.{most_log_entries}
use Rattle.ring_points.specs.declared.unit.Epoch.{Epoch}
use Rattle.ring_points.specs.Epochs.{is_older, same_epoch}
use Rattle.replica_core.specs.declared.entry.Entry.{Entry}
use Rattle.replica_core.specs.declared.refusal.Done.{Done}
use Rattle.replica_core.specs.declared.refusal.Done.TheVariants.{New, Held}
use Rattle.replica_core.specs.declared.refusal.ReplicaRefusal.{ReplicaRefusal}
use Rattle.replica_core.specs.declared.refusal.ReplicaRefusal.TheVariants.{Older, Gap, LogFull}
use Rattle.replica_core.specs.Calls.{Outcome, is_empty, unless, held_if, is_ahead, append_call}
use Rattle.replica_core.specs.Histories.{Call, made, after}
use Rattle.replica_core.specs.Laws.{IsNotAhead}
use Rattle.replica_core.specs.Replicas.{Replica, first_epoch, written}
use Rattle.replica_core.proofs.Orders.{none_falls}
use Rattle.replica_core.proofs.Risen.{never_falling}
use Rattle.replica_core.proofs.Taken.{promising}
use Rattle.replica_records.specs.Named.{is_named}
use Rattle.replica_records.proofs.Recorded.{refused_not}

-- an epoch that is not below another, and not the same, is not the first
pub not_first : (a e : Epoch) → is_older e a ≡ false → same_epoch a e ≡ false → same_epoch e first_epoch ≡ false
not_first a e above other = grind (arith, nat_tests, above, other)

-- a replica that has promised another epoch than the first
pub promised_named : (e : Epoch) (r : Replica) → r.promised ≡ e → same_epoch e first_epoch ≡ false → is_named r ≡ true
promised_named e r same other = ap (λ b. not (b && is_empty r.log)) (ap (λ d. same_epoch d first_epoch) same ∙ other)

-- a replica that has an entry
pub entry_named : (r : Replica) → is_empty r.log ≡ false → is_named r ≡ true
entry_named r some = go (same_epoch r.promised first_epoch) (is_empty r.log) some
  where
    go : (b c : Bool) → c ≡ false → not (b && c) ≡ true
    go b true h = absurd (cc (h))
    go true false h = refl
    go false false h = refl

added : (xs : List Entry) (x : Entry) → is_empty (xs ++ x ∷ []) ≡ false
added [] x = refl
added (y ∷ ys) x = refl

pub written_named : (x : Entry) (r t : Replica) → t ≡ written x r → is_named t ≡ true
written_named x r t h = entry_named t (ap (λ (z : Replica). is_empty z.log) h ∙ added r.log x)

-- only what is new was done new
abbrev IsNew : Result Done ReplicaRefusal → Type 0
IsNew (Ok New) = Unit {0}
IsNew (Ok Held) = ⊥
IsNew (Err why) = ⊥

pub append_named : (e : Epoch) (lsn : ℕ) (text : List ℕ) (r t : Replica) → append_call e lsn text r ≡ (Ok New, t) → is_named t ≡ true
append_named e lsn text r t =
    go (is_older e r.promised) (is_ahead e lsn r) (nat_lt lsn (length r.log + 1)) (length r.log == most_log_entries)
  where
    held_not : ◌≡◌ {A = Outcome Done} (Ok Held, r) (Ok New, t) → ⊥
    held_not k = subst (λ (o : Outcome Done). IsNew o.0) (sym k) tt

    go : (older ahead held full : Bool) →
        ◌≡◌ {A = Outcome Done}
        (unless older (Older r.promised) r
        (unless ahead (Gap (length r.log)) r
        (held_if held r
        (unless full LogFull r (Ok New, written (record { epoch = e; lsn = lsn; bytes = text }) r))))) (Ok New, t) →
        is_named t ≡ true
    go true ahead held full k = absurd (refused_not (Older r.promised) r t New k)
    go false true held full k = absurd (refused_not (Gap (length r.log)) r t New k)
    go false false true full k = absurd (held_not k)
    go false false false true k = absurd (refused_not LogFull r t New k)
    go false false false false k =
        written_named (record { epoch = e; lsn = lsn; bytes = text }) r t (sym (ap (λ (o : Outcome Done). o.1) k))

-- a call that is taken, of an epoch of which the log is not yet
pub taken_promised : (call : Call) (r : Replica) (e : Epoch) → IsNotAhead r → (made call r).0 ≡ Some e → same_epoch r.at e ≡ false →
    ((after call r).promised ≡ e) × (same_epoch e first_epoch ≡ false)
taken_promised call r e behind taken other =
    let now : (after call r).promised ≡ e = promising call r e behind taken in
    let above : is_older e r.promised ≡ false = subst (λ d. is_older d r.promised ≡ false) now (never_falling (call ∷ []) r) in
    (now, not_first r.at e (none_falls r.at r.promised e behind above) other)

pub taken_named : (call : Call) (r : Replica) (e : Epoch) → IsNotAhead r → (made call r).0 ≡ Some e → same_epoch r.at e ≡ false →
    is_named (after call r) ≡ true
taken_named call r e behind taken other =
    let both = taken_promised call r e behind taken other in promised_named e (after call r) both.0 both.1
