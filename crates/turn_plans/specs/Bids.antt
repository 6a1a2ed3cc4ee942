-- The lines of a source: which node is commanded what, in which turn.
use Rattle.std.specs.Prelude.{ℕ, List, Option, Some}
use Rattle.fabric_terms.specs.declared.command.Command.{Command}
use Rattle.line_format.specs.Commands.{command_of}
use Rattle.text_fields.specs.Actors.{node_at}
use Rattle.text_fields.specs.Fields.{◌>>=◌, Field, nothing, word_of}
use Rattle.text_fields.specs.Numbers.{number_in}
use Rattle.turn_plans.specs.declared.crew.Crew.{Crew}
use Rattle.turn_plans.specs.declared.crew.Crew.TheVariants.{Node, Arbiter, Cluster}

-- which node is commanded what, in which turn
pub record Bid : Type 0 where
  pub turn : ℕ
  pub node : ℕ
  pub command : Command

-- one of the turns that may come, and the blank behind it
abbrev pub turn_word : ℕ → ℕ → List ℕ → Field ℕ
turn_word least turns = word_of (number_in least turns)

abbrev pub bid : ℕ → ℕ → Command → Bid
bid turn node command = record { turn = turn; node = node; command = command }

-- `<turn> <command>`
abbrev pub node_bid_of : ℕ → ℕ → ℕ → List ℕ → Option Bid
node_bid_of node least turns line = turn_word least turns line >>= λ t. command_of t.1 >>= λ k. Some (bid t.0 node k)

-- `<turn> <node> <command>`
abbrev pub cluster_bid_of : ℕ → ℕ → List ℕ → Option Bid
cluster_bid_of least turns line =
    turn_word least turns line >>= λ t. word_of node_at t.1 >>= λ n. command_of n.1 >>= λ k. Some (bid t.0 n.0 k)

-- what a line bids, in one of the turns from the least that may come to the last; an arbitrator is bidden nothing
unfoldable pub bid_of : Crew → ℕ → ℕ → List ℕ → Option Bid
bid_of (Node node) least turns = node_bid_of node least turns
bid_of (Arbiter arbiter) least turns = nothing
bid_of Cluster least turns = cluster_bid_of least turns
