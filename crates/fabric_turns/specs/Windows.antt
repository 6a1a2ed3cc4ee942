-- Which of a plan's orders are of a turn.
use Rattle.std.specs.Prelude.{◌≡◌, ◌<◌, ◌≤◌, ℕ, ◌+◌, List, Some, length, slice_get}
use Rattle.turn_rules.specs.declared.order.Order.{Order}
use Rattle.fabric_turns.specs.declared.turn.Turn.{Turn}

-- the orders of the turns before this one are the first `n`
pub record IsFirstOf (orders : List Order) (turn n : ℕ) : Type 0 where
  pub within : n ≤ length orders
  pub before : (i : ℕ) (o : Order) → i < n → slice_get orders i ≡ Some o → o.turn < turn
  pub behind : (i : ℕ) (o : Order) → n ≤ i → slice_get orders i ≡ Some o → turn ≤ o.turn

-- the turn's orders stand from `first` on, and before `end`
pub record IsTurnOf (orders : List Order) (turn : Turn) : Type 0 where
  pub in_order : turn.first ≤ turn.end
  pub first : IsFirstOf orders turn.number turn.first
  pub next : IsFirstOf orders (turn.number + 1) turn.end
