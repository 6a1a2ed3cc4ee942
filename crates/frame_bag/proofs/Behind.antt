-- The frames of two runs, one behind the other.
use Rattle.std.proofs.Common.{rules, true, false, inl, inr, ◌⊎◌, ◌≡◌, ℕ, zero, suc, ◌+◌, ◌-◌, ◌<◌, ◌≤◌, List, [], ◌∷◌, ◌++◌, length, refl, ap, length-append, arith}
use Rattle.std.specs.Prelude.{nat_le, reverse, slice_get}
use Rattle.std.proofs.Math.Bool.{and-false}
use Rattle.std.proofs.lemmas.Bool.{cases_lt}
use Rattle.fabric_terms.specs.declared.message.Message.{Message}
use Rattle.frame_bag.specs.Bags.{frame_of}
use Rattle.frame_bag.specs.Stored.{messages_in}

get_behind : {X : Type 0} (xs ys : List X) (k i : ℕ) → k ≡ length xs + i → slice_get (xs ++ ys) k ≡ slice_get ys i
get_behind [] ys k i e =
    let f : k ≡ i = omega arith in ap (slice_get ys) f
get_behind (x ∷ xs) ys zero i e = absurd (omega arith)
get_behind (x ∷ xs) ys (suc k) i e = get_behind xs ys k i (omega arith)

get_front : {X : Type 0} (xs ys : List X) (k : ℕ) → k < length xs → slice_get (xs ++ ys) k ≡ slice_get xs k
get_front [] ys k h = absurd (omega arith)
get_front (x ∷ xs) ys zero h = refl
get_front (x ∷ xs) ys (suc k) h = get_front xs ys k (omega arith)

-- a number that the first run has
pub frame_below : (new old : List Message) (number : ℕ) → number ≤ length old → frame_of number (new ++ old) ≡ frame_of number old
frame_below new old zero h = refl
frame_below new old (suc k) h =
    let more : length (new ++ old) ≡ length new + length old = length-append new old in
    let one : nat_le 1 (suc k) ≡ true = search rules in
    let all : nat_le (suc k) (length (new ++ old)) ≡ true = rw more (search rules) in
    let some : nat_le (suc k) (length old) ≡ true = search rules in
    rw (one, all, some) (get_behind new old (length (new ++ old) - suc k) (length old - suc k) (omega (arith, more)))

-- a number past those of the first run
above : (new old : List Message) (number : ℕ) → length old < number → (length new < number - length old) ⊎ (number - length old ≤ length new) → frame_of number (new ++ old) ≡ frame_of (number - length old) new
above new old number h (inl few) =
    let more : length (new ++ old) ≡ length new + length old = length-append new old in
    let all : nat_le number (length (new ++ old)) ≡ false = rw more (search rules) in
    let some : nat_le (number - length old) (length new) ≡ false = search rules in
    rw (all, some, and-false (nat_le 1 number), and-false (nat_le 1 (number - length old))) refl
above new old number h (inr enough) =
    let more : length (new ++ old) ≡ length new + length old = length-append new old in
    let one : nat_le 1 number ≡ true = search rules in
    let first : nat_le 1 (number - length old) ≡ true = search rules in
    let all : nat_le number (length (new ++ old)) ≡ true = rw more (search rules) in
    let some : nat_le (number - length old) (length new) ≡ true = search rules in
    let place : length (new ++ old) - number ≡ length new - (number - length old) = omega (arith, more) in
    rw (one, first, all, some, place) (get_front new old (length new - (number - length old)) (omega arith))

pub frame_above : (new old : List Message) (number : ℕ) → length old < number → frame_of number (new ++ old) ≡ frame_of (number - length old) new
frame_above new old number h = above new old number h (cases_lt (length new) (number - length old))

-- a run without an end has no frame
pub no_frames : (ends bytes : List ℕ) → length ends ≡ 0 → messages_in ends bytes ≡ []
no_frames [] bytes e = refl
no_frames (end ∷ ends) bytes e = absurd (omega arith)

-- one more frame of the first run, where nothing lies behind it
pub more_behind : (behind now old : List Message) (m : Message) → behind ≡ [] → reverse now ≡ m ∷ reverse old → reverse behind ++ reverse now ≡ m ∷ (reverse behind ++ reverse old)
more_behind behind now old m none newest = rw none newest
