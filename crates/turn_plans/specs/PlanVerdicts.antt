-- What becomes of a line.
use Rattle.std.specs.Prelude.{◌≡◌, ◌≤◌, ℕ, Bool, true, false, ◌&&◌, ◌||◌, ◌==◌, List, length, Option, Some, None, nat_lt, position, unwrap_or, if◌then◌else◌}
use Rattle.edge_io.specs.declared.endpoint.Endpoint.{Endpoint}
use Rattle.fabric_status.specs.declared.status.Refusal.{Refusal}
use Rattle.fabric_status.specs.declared.status.Refusal.TheVariants.{BadLine, NoSuch, TooLarge}
use Rattle.fabric_terms.specs.declared.config.FabricConfig.{FabricConfig}
use Rattle.line_format.specs.Commands.{command_of}
use Rattle.source_lines.specs.Lines.{is_ignored, most_line, most_lines}
use Rattle.turn_rules.specs.declared.order.Order.{Order}
use Rattle.world_rules.specs.Schedules.{command_names, is_configured_node}
use Rattle.turn_plans.specs.Bids.{Bid, bid_of}
use Rattle.turn_plans.specs.declared.crew.Crew.{Crew}
use Rattle.turn_plans.specs.declared.plan_verdict.PlanVerdict.{PlanVerdict as CodeVerdict}
use Rattle.turn_plans.specs.declared.plan_verdict.PlanVerdict.TheVariants as code

-- what becomes of a line: nothing, or its order comes behind those of the lines before, or it ends the reading
pub data PlanVerdict : Type 0 where
  Ignored : PlanVerdict
  Ordered : (order : Order) → PlanVerdict
  Refused : (refusal : Refusal) → PlanVerdict

-- the place of a node among the actors; a node that is not among them is refused before
abbrev pub place_of : List Endpoint → ℕ → ℕ
place_of actors node = unwrap_or (position (λ e. e.actor == node) actors) 0

abbrev pub order_of : List Endpoint → Bid → Order
order_of actors b = record { turn = b.turn; place = place_of actors b.node; command = b.command }

-- the node that is commanded, and the one that the command names, are there
abbrev pub is_there : FabricConfig → Bid → Bool
is_there c b = is_configured_node c b.node && command_names c b.node b.command

abbrev pub order_verdict : FabricConfig → List Endpoint → ℕ → Bid → PlanVerdict
order_verdict c actors n b = if is_there c b then Ordered (order_of actors b) else Refused (NoSuch n)

abbrev pub bid_verdict : FabricConfig → List Endpoint → ℕ → Option Bid → PlanVerdict
bid_verdict c actors n None = Refused (BadLine n)
bid_verdict c actors n (Some b) = order_verdict c actors n b

abbrev pub unless_ignored : Crew → FabricConfig → List Endpoint → ℕ → ℕ → ℕ → List ℕ → Bool → PlanVerdict
unless_ignored crew c actors turns least n line true = Ignored
unless_ignored crew c actors turns least n line false = bid_verdict c actors n (bid_of crew least turns line)

abbrev pub unless_large : Crew → FabricConfig → List Endpoint → ℕ → ℕ → ℕ → List ℕ → Bool → PlanVerdict
unless_large crew c actors turns least n line true = Refused (TooLarge n)
unless_large crew c actors turns least n line false = unless_ignored crew c actors turns least n line (is_ignored line)

-- line n, where the turns from `least` to `turns` may come
unfoldable pub line_verdict : Crew → FabricConfig → List Endpoint → ℕ → ℕ → ℕ → List ℕ → PlanVerdict
line_verdict crew c actors turns least n line = unless_large crew c actors turns least n line (nat_lt most_line (length line) || nat_lt most_lines n)

-- a verdict of the code, without the words that spell its order's command
abbrev pub seen : CodeVerdict → PlanVerdict
seen code.Ignored = Ignored
seen (code.Ordered o words) = Ordered o
seen (code.Refused refusal) = Refused refusal

-- what is ordered is of no turn below this, and the words are its command's
abbrev pub CanBeKept : ℕ → CodeVerdict → Type 0
CanBeKept least code.Ignored = Unit {0}
CanBeKept least (code.Ordered o words) = (least ≤ o.turn) × (command_of words.now ≡ Some o.command)
CanBeKept least (code.Refused refusal) = Unit {0}

-- a line with this verdict is kept
abbrev pub IsOrdered : PlanVerdict → Type 0
IsOrdered verdict = (o : Order) × (verdict ≡ Ordered o)
