-- Orders whose turns rise.
use Rattle.std.proofs.Common.{◌≡◌, ℕ, zero, suc, ◌≤◌, List, [], ◌∷◌, ◌++◌, Some, arith}
use Rattle.std.specs.Prelude.{All, slice_get}
use Rattle.std.proofs.lemmas.List.Elements.{All-head, All-tail}
use Rattle.turn_rules.specs.Plans.{Rises}
use Rattle.turn_rules.specs.declared.order.Order.{Order}

-- one order more, whose turn is not below that of the last
pub rises_on : (least last : ℕ) (os : List Order) (o : Order) → Rises least os → All (λ x. x.turn ≤ last) os → least ≤ last → last ≤ o.turn → Rises least (os ++ o ∷ [])
rises_on least last [] o rises low some more = (omega arith, tt)
rises_on least last (x ∷ xs) o rises low some more =
    (rises.0, rises_on x.turn last xs o rises.1 (All-tail (λ (y : Order). y.turn ≤ last) x xs low) (All-head (λ (y : Order). y.turn ≤ last) x xs low) more)

-- no turn is below the least
pub not_below_least : (least : ℕ) (os : List Order) (i : ℕ) (o : Order) → Rises least os → slice_get os i ≡ Some o → least ≤ o.turn
not_below_least least [] i o rises here = cc
not_below_least least (x ∷ xs) zero o rises here = let is : Some x ≡ Some o = here in let low : least ≤ x.turn = rises.0 in grind arith
not_below_least least (x ∷ xs) (suc i) o rises here =
    let low : least ≤ x.turn = rises.0 in
    let next : x.turn ≤ o.turn = not_below_least x.turn xs i o rises.1 here in
    omega arith

-- what stands behind an order is of its turn, or of a later one
pub not_below : (least : ℕ) (os : List Order) (i j : ℕ) (o p : Order) → Rises least os → i ≤ j → slice_get os i ≡ Some o → slice_get os j ≡ Some p → o.turn ≤ p.turn
not_below least [] i j o p rises h e f = cc
not_below least (x ∷ xs) zero zero o p rises h e f = let is : Some o ≡ Some p = cc (e, f) in grind arith
not_below least (x ∷ xs) zero (suc j) o p rises h e f =
    let is : Some x ≡ Some o = e in
    let next : x.turn ≤ p.turn = not_below_least x.turn xs j p rises.1 f in
    grind arith
not_below least (x ∷ xs) (suc i) zero o p rises h e f = absurd (omega arith)
not_below least (x ∷ xs) (suc i) (suc j) o p rises h e f = not_below x.turn xs i j o p rises.1 (omega arith) e f
