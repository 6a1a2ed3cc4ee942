-- A log with one more entry is a log.
use Rattle.std.proofs.Common.{◌≡◌, ℕ, ◌+◌, ◌≤◌, Bool, true, false, List, [], ◌∷◌, ◌++◌, length, refl, arith, length-append}
use Rattle.std.specs.Prelude.{◌==◌, ◌&&◌, not}
use Rattle.std.proofs.lemmas.Bool.Decides.{nat_tests}
use Rattle.ring_points.specs.Limits.{most_log_entries}
use Rattle.ring_points.specs.declared.unit.Epoch.{Epoch}
use Rattle.ring_points.specs.Epochs.{is_older}
use Rattle.replica_core.specs.declared.entry.Entry.{Entry}
use Rattle.replica_core.specs.Replicas.{Replica, is_numbered, IsLog}
use Rattle.replica_core.specs.Calls.{is_gap}

is_numbered-append : (next : ℕ) (xs : List Entry) (x : Entry) → is_numbered next xs ≡ true → x.lsn ≡ next + length xs
    → is_numbered next (xs ++ x ∷ []) ≡ true
is_numbered-append next [] x numbered at = let here : (x.lsn == next) ≡ true = grind (arith, nat_tests) in rw here refl
is_numbered-append next (y ∷ ys) x numbered at =
    by (y.lsn == next) refl numbered (is_numbered-append (next + 1) ys x)
  where
    by : (b : Bool) → (y.lsn == next) ≡ b → (b && is_numbered (next + 1) ys) ≡ true
        → (is_numbered (next + 1) ys ≡ true → x.lsn ≡ next + 1 + length ys → is_numbered (next + 1) (ys ++ x ∷ []) ≡ true)
        → ((y.lsn == next) && is_numbered (next + 1) (ys ++ x ∷ [])) ≡ true
    by true f numbered rest = rw f (rest numbered (omega arith))
    by false f numbered rest = absurd (cc)

-- the next entry is one that a log can take
pub log_grown : (xs : List Entry) (x : Entry) → IsLog xs → x.lsn ≡ length xs + 1 → x.lsn ≤ most_log_entries → IsLog (xs ++ x ∷ [])
log_grown xs x log next room = record {
  numbered = is_numbered-append 1 xs x log.numbered (omega arith);
  room = omega (arith, length-append xs (x ∷ []));
}

-- an entry that is no gap and no first one is the next of what is collected
pub next_number : (e : Epoch) (lsn : ℕ) (s : Replica) → is_gap e lsn s ≡ false → (lsn ≡ 1 → ⊥) → lsn ≡ length s.collected + 1
next_number e lsn s gap other = by (is_older s.promised e) refl
  where
    by : (b : Bool) → is_older s.promised e ≡ b → lsn ≡ length s.collected + 1
    by true f = let at : (not (lsn == 1) && not (lsn == 0 + 1)) ≡ false = rw f at gap in absurd (grind (arith, nat_tests, at))
    by false f = let at : (not (lsn == 1) && not (lsn == length s.collected + 1)) ≡ false = rw f at gap in grind (arith, nat_tests, at)
