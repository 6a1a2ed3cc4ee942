-- The orders of a turn, and the commands of an actor among them.
use Rattle.std.proofs.Common.{◌≡◌, ◌<◌, ◌≤◌, ◌+◌, ℕ, zero, suc, Bool, true, false, List, [], ◌∷◌, length, drop, map, Some, arith, refl, ap, sym, subst, ◌∙◌, ⊎_elim, nat_lt}
use Rattle.std.specs.Prelude.{All, ◌==◌, ◌&&◌, filter, if◌then◌else◌, slice_get}
use Rattle.std.proofs.Math.Bool.{and-false}
use Rattle.std.proofs.lemmas.Bool.{eq-eqb}
use Rattle.std.proofs.lemmas.Bool.Decides.{nat_tests, eqb_tells}
use Rattle.std.proofs.lemmas.List.Elements.{All-get_or}
use Rattle.std.proofs.lemmas.Option.{get_or_from_slice_get, slice_get_within}
use Rattle.fabric_terms.specs.Ranges.{FitsCommand}
use Rattle.fabric_terms.specs.declared.command.Command.{Command}
use Rattle.fabric_turns.specs.Windows.{IsFirstOf, IsTurnOf}
use Rattle.fabric_turns.specs.declared.turn.Turn.{Turn}
use Rattle.turn_rules.specs.Plans.{Rises, commands_in, is_order_at}
use Rattle.turn_rules.specs.declared.order.Order.{Order}
use Rattle.turn_rules.proofs.Rising.{not_below}

differs : (x y : ℕ) → (x ≡ y → ⊥) → (x == y) ≡ false
differs x y h = ⊎_elim (λ (same : ((x == y) ≡ true) × (x ≡ y)). absurd (h same.1)) (λ differ. differ.0) (eqb_tells x y)

by_test : (turn place : ℕ) (o : Order) (rest : List Order) (b : Bool) → is_order_at turn place o ≡ b
    → commands_in turn place (o ∷ rest) ≡ map (λ (x : Order). x.command) (if b then o ∷ filter (is_order_at turn place) rest else filter (is_order_at turn place) rest)
by_test turn place o rest b t = ap (λ (b : Bool). map (λ (x : Order). x.command) (if b then o ∷ filter (is_order_at turn place) rest else filter (is_order_at turn place) rest)) t

-- an order of the turn and the place
pub command_here : (turn place : ℕ) (o : Order) (rest : List Order) → o.turn ≡ turn → o.place ≡ place → commands_in turn place (o ∷ rest) ≡ o.command ∷ commands_in turn place rest
command_here turn place o rest e f = by_test turn place o rest true (rw (eq-eqb o.turn turn e, eq-eqb o.place place f) refl)

-- an order of another place
pub other_place : (turn place : ℕ) (o : Order) (rest : List Order) → (o.place ≡ place → ⊥) → commands_in turn place (o ∷ rest) ≡ commands_in turn place rest
other_place turn place o rest h = by_test turn place o rest false (ap (λ (b : Bool). (o.turn == turn) && b) (differs o.place place h) ∙ and-false (o.turn == turn))

-- an order of another turn
other_turn : (turn place : ℕ) (o : Order) (rest : List Order) → (o.turn ≡ turn → ⊥) → commands_in turn place (o ∷ rest) ≡ commands_in turn place rest
other_turn turn place o rest h = by_test turn place o rest false (ap (λ (b : Bool). b && (o.place == place)) (differs o.turn turn h))

pub drop_here : (os : List Order) (i : ℕ) (o : Order) → slice_get os i ≡ Some o → drop i os ≡ o ∷ drop (i + 1) os
drop_here os i o here = let n : suc i ≡ i + 1 = omega arith in by_index os i here ∙ ap (λ (k : ℕ). o ∷ drop k os) n
  where
    by_index : (xs : List Order) (j : ℕ) → slice_get xs j ≡ Some o → drop j xs ≡ o ∷ drop (suc j) xs
    by_index [] j e = cc
    by_index (x ∷ xs) zero e = let is : Some x ≡ Some o = e in cc
    by_index (x ∷ xs) (suc j) e = by_index xs j e

-- no command of the turn stands before its first order
none_before : (turn place : ℕ) (os : List Order) (n : ℕ) → n ≤ length os → ((i : ℕ) (o : Order) → i < n → slice_get os i ≡ Some o → o.turn < turn) → commands_in turn place os ≡ commands_in turn place (drop n os)
none_before turn place os zero h before = refl
none_before turn place [] (suc n) h before = absurd (omega arith)
none_before turn place (o ∷ os) (suc n) h before =
    let low : o.turn < turn = before 0 o (omega arith) refl in
    other_turn turn place o os (λ same. omega arith) ∙ none_before turn place os n (omega arith) (λ i p less here. before (suc i) p (omega arith) here)

-- and none behind its last
none_behind : (turn place : ℕ) (os : List Order) (n : ℕ) → ((i : ℕ) (o : Order) → n ≤ i → slice_get os i ≡ Some o → turn + 1 ≤ o.turn) → commands_in turn place (drop n os) ≡ []
none_behind turn place [] zero behind = refl
none_behind turn place [] (suc n) behind = refl
none_behind turn place (o ∷ os) zero behind =
    let high : turn + 1 ≤ o.turn = behind 0 o (omega arith) refl in
    other_turn turn place o os (λ same. omega arith) ∙ none_behind turn place os 0 (λ i p less here. behind (suc i) p (omega arith) here)
none_behind turn place (o ∷ os) (suc n) behind = none_behind turn place os n (λ i p less here. behind (suc i) p (omega arith) here)

pub begins_at : (turn place : ℕ) (os : List Order) (n : ℕ) → IsFirstOf os turn n → commands_in turn place os ≡ commands_in turn place (drop n os)
begins_at turn place os n first = none_before turn place os n first.within first.before

pub ends_at : (turn place : ℕ) (os : List Order) (n : ℕ) → IsFirstOf os (turn + 1) n → commands_in turn place (drop n os) ≡ []
ends_at turn place os n next = none_behind turn place os n next.behind

-- what stands among the turn's orders is of the turn
pub of_turn : (os : List Order) (turn first end i : ℕ) (o : Order) → IsFirstOf os turn first → IsFirstOf os (turn + 1) end → first ≤ i → i < end → slice_get os i ≡ Some o → o.turn ≡ turn
of_turn os turn first end i o now next low high here =
    let more : turn ≤ o.turn = now.behind i o low here in
    let less : o.turn < turn + 1 = next.before i o high here in
    omega arith

pub first_of_all : (os : List Order) → Rises 1 os → IsFirstOf os 1 0
first_of_all os rises = record {
  within = omega arith;
  before = λ i o less here. absurd (omega arith);
  behind = λ i o more here. not_below_first os i o rises here;
}
  where
    not_below_first : (xs : List Order) (i : ℕ) (o : Order) → Rises 1 xs → slice_get xs i ≡ Some o → 1 ≤ o.turn
    not_below_first [] i o rises here = cc
    not_below_first (x ∷ xs) i o rises here = let low : 1 ≤ x.turn = rises.0 in let more : x.turn ≤ o.turn = not_below 1 (x ∷ xs) 0 i x o rises (omega arith) refl here in omega arith

-- The turn's orders up to here were looked at.
pub record Passed (os : List Order) (turn first end : ℕ) : Type 0 where
  pub in_order : first ≤ end
  pub within : end ≤ length os
  pub before : (i : ℕ) (o : Order) → i < end → slice_get os i ≡ Some o → o.turn < turn + 1

pub none_passed : (os : List Order) (turn first : ℕ) → IsFirstOf os turn first → Passed os turn first first
none_passed os turn first now = record {
  in_order = omega arith;
  within = now.within;
  before = λ i o less here. let low : o.turn < turn = now.before i o less here in omega arith;
}

pub one_passed : (os : List Order) (turn first end : ℕ) (o : Order) → Passed os turn first end → slice_get os end ≡ Some o → o.turn ≡ turn → Passed os turn first (end + 1)
one_passed os turn first end o passed here same = record {
  in_order = let low : first ≤ end = passed.in_order in omega arith;
  within = let low : end < length os = slice_get_within os end o here in omega arith;
  before = λ i p less there. by_place i p less there (nat_lt i end) refl;
}
  where
    by_place : (i : ℕ) (p : Order) → i < end + 1 → slice_get os i ≡ Some p → (b : Bool) → nat_lt i end ≡ b → p.turn < turn + 1
    by_place i p less there true t = passed.before i p (grind (arith, nat_tests)) there
    by_place i p less there false t =
        let e : i ≡ end = grind (arith, nat_tests) in
        let is : Some p ≡ Some o = sym there ∙ (ap (slice_get os) e ∙ here) in
        let so : p.turn ≡ turn = cc in
        omega arith

-- Behind them all orders are of later turns.

pub at_last : (os : List Order) (turn first end : ℕ) → Passed os turn first end → length os ≤ end → IsFirstOf os (turn + 1) end
at_last os turn first end passed all = record {
  within = passed.within;
  before = passed.before;
  behind = λ i o more here. let low : i < length os = slice_get_within os i o here in absurd (omega arith);
}

pub at_later : (os : List Order) (turn first end : ℕ) (o : Order) → Rises 1 os → IsFirstOf os turn first → Passed os turn first end → slice_get os end ≡ Some o → (o.turn ≡ turn → ⊥) → IsFirstOf os (turn + 1) end
at_later os turn first end o rises now passed here other = record {
  within = passed.within;
  before = passed.before;
  behind = λ i p more there.
      let low : turn ≤ o.turn = now.behind end o passed.in_order here in
      let high : o.turn ≤ p.turn = not_below 1 os end i o p rises more here there in
      let strict : turn < o.turn = apart turn o.turn low (λ same. other (sym same)) in
      omega arith;
}
  where
    apart : (x y : ℕ) → x ≤ y → (x ≡ y → ⊥) → x < y
    apart x y low differ = ⊎_elim (λ (same : ((x == y) ≡ true) × (x ≡ y)). absurd (differ same.1)) (λ (d : ((x == y) ≡ false) × (x ≡ y → ⊥)). grind (arith, d.1)) (eqb_tells x y)

-- a command of a plan's orders is in its ranges
pub fits_here : (os : List Order) (i : ℕ) (o : Order) (k : Command) → All (λ x. FitsCommand x.command) os → slice_get os i ≡ Some o → k ≡ o.command → FitsCommand k
fits_here os i o k all here is =
    subst FitsCommand (ap (λ (x : Order). x.command) (get_or_from_slice_get os i o o here) ∙ sym is) (All-get_or (λ (x : Order). FitsCommand x.command) os i o (slice_get_within os i o here) all)

-- by another name of the orders
pub turn_in : (os orders : List Order) (turn : Turn) → os ≡ orders → IsTurnOf os turn → IsTurnOf orders turn
turn_in os orders turn e is = subst (λ (xs : List Order). IsTurnOf xs turn) e is

-- the turn whose orders were looked at
pub turn_passed : (os : List Order) (turn first end : ℕ) → IsFirstOf os turn first → Passed os turn first end → IsFirstOf os (turn + 1) end → IsTurnOf os (record { number = turn; first = first; end = end })
turn_passed os turn first end now passed next = record { in_order = passed.in_order; first = now; next = next }
