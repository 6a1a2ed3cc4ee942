-- How the orders of a plan lie in memory: the heads of all, and the words of all commands in one run of bytes.
use Rattle.std.specs.Prelude.{◌≡◌, ℕ, ◌≤◌, List, [], ◌∷◌, Option, Some, None, length, slice_range}
use Rattle.fabric_terms.specs.declared.command.Command.{Command}
use Rattle.line_format.specs.Commands.{command_of}
use Rattle.turn_rules.specs.declared.order.Order.{Order}
use Rattle.turn_rules.specs.declared.orders.OrderHead.{OrderHead}

abbrev pub order_with : OrderHead → Command → Order
order_with h k = record { turn = h.turn; place = h.place; command = k }

abbrev pub with_order : OrderHead → Option Command → List Order → List Order
with_order h None rest = rest
with_order h (Some k) rest = order_with h k ∷ rest

-- the orders of these heads, where the words of the first begin here
abbrev pub orders_in : ℕ → List OrderHead → List ℕ → List Order
orders_in from [] words = []
orders_in from (h ∷ hs) words = with_order h (command_of (slice_range words from h.end)) (orders_in h.end hs words)

-- the words from here to the end of this head are a command
pub record IsOrder (from : ℕ) (h : OrderHead) (words : List ℕ) : Type 0 where
  pub in_order : from ≤ h.end
  pub command : Command
  pub read : command_of (slice_range words from h.end) ≡ Some command

-- each head has the words of a command, one after the other, and the last ends where the words do
abbrev pub AreOrders : ℕ → List OrderHead → List ℕ → Type 0
AreOrders from [] words = from ≡ length words
AreOrders from (h ∷ hs) words = IsOrder from h words × AreOrders h.end hs words
