-- The world, and what the step of one actor makes of it.
use Rattle.std.specs.Prelude.{ℕ, ◌+◌, ◌-◌, List, [], ◌∷◌, ◌++◌, Option, Some, None, map, length, slice_get, unwrap_or}
use Rattle.drift_clock.specs.Within.{Pair}
use Rattle.ring_points.specs.declared.who.Who.{Who}
use Rattle.ring_points.specs.Whos.{node_instance, arbiter_actor}
use Rattle.fabric_terms.specs.declared.message.Body.{Body}
use Rattle.fabric_terms.specs.declared.message.Message.{Message}
use Rattle.fabric_terms.specs.declared.record.Record.{Record}
use Rattle.fabric_terms.specs.Runs.{Clocks, Entry}
use Rattle.fabric_lemmas.specs.Maps.{at, put}
use Rattle.world_rules.specs.Uppers.{Upper, Did}
use Rattle.world_rules.specs.Nodes.{NodeState}
use Rattle.world_rules.specs.Arbiters.{ArbiterState}

-- a running node: its state, its present reading, and all pairs of its boot, the newest first
pub record Running (a : Upper) : Type 0 where
  pub node : NodeState a
  pub reading : ℕ
  pub pairs : List Pair

-- The true time, the running nodes and arbitrators by their numbers, the synced records by actor, the frames ever
-- sent (the newest first), and how many they are.
pub record World (a : Upper) : Type 0 where
  pub time : ℕ
  pub nodes : List (ℕ × Running a)
  pub arbiters : List (ℕ × ArbiterState a)
  pub kept : List (ℕ × List Record)
  pub frames : List Message
  pub count : ℕ

abbrev pub empty_world : (a : Upper) → World a
empty_world a = record { time = 0; nodes = []; arbiters = []; kept = []; frames = []; count = 0 }

-- a world after an event, and what an actor did in it
pub record Stepped (a : Upper) : Type 0 where
  pub world : World a
  pub entry : Option Entry

-- nobody did anything
abbrev pub quiet : (a : Upper) → World a → Stepped a
quiet a w = record { world = w; entry = None }

-- the synced records of an actor
abbrev pub kept_of : {a : Upper} → World a → ℕ → List Record
kept_of w actor = unwrap_or (at actor w.kept) []

-- the running instances with their present readings
abbrev pub clocks_in : {a : Upper} → World a → Clocks
clocks_in w = map (λ n. (n.1.node.ring.me, n.1.reading)) w.nodes

-- the frame of this number
abbrev pub frame_in : {a : Upper} → World a → ℕ → Option Message
frame_in w number = slice_get w.frames (w.count - number)

-- these go on top of the frames, one after the other
abbrev pub posted : Who → List (Who × Body) → List Message → List Message
posted from [] frames = frames
posted from (m ∷ ms) frames = posted from ms (record { from = from; to = m.0; body = m.1 } ∷ frames)

-- the numbers of the first and the last of them, after so many frames
abbrev pub numbers_of : ℕ → List (Who × Body) → ℕ × ℕ
numbers_of before [] = (0, 0)
numbers_of before (m ∷ ms) = (before + 1, before + length (m ∷ ms))

-- what an actor records and sends goes to its records and to the frames
abbrev pub with_outcome : {a : Upper} → World a → Who → List Record → List (Who × Body) → World a
with_outcome w who records sent =
    record w {
      kept = put who.actor (kept_of w who.actor ++ records) w.kept;
      frames = posted who sent w.frames;
      count = w.count + length sent;
    }

abbrev pub node_acted : (a : Upper) → World a → ℕ → ℕ → List Pair → Did (NodeState a) → Stepped a
node_acted a w n reading pairs d =
    record {
      world = record (with_outcome w d.state.ring.me d.records d.sent) { nodes = put n (record { node = d.state; reading = reading; pairs = pairs }) w.nodes };
      entry = Some (record { who = d.state.ring.me; reading = Some reading; sent = numbers_of w.count d.sent; reports = d.told });
    }

abbrev pub arbiter_who : ℕ → Who
arbiter_who arbiter = node_instance (arbiter_actor arbiter) 0

abbrev pub arbiter_acted : (a : Upper) → World a → ℕ → Did (ArbiterState a) → Stepped a
arbiter_acted a w m d =
    record {
      world = record (with_outcome w (arbiter_who m) d.records d.sent) { arbiters = put m d.state w.arbiters };
      entry = Some (record { who = arbiter_who m; reading = None; sent = numbers_of w.count d.sent; reports = d.told });
    }
