-- The steps of a running program as moments of a run, by its one clock.
use Rattle.std.specs.Prelude.{ℕ, Bool, List, [], ◌∷◌, ◌++◌, Some, ◌==◌, ◌&&◌, is_some, length, map, unwrap_or, if◌then◌else◌}
use Rattle.fabric_terms.specs.declared.message.Message.{Message}
use Rattle.fabric_terms.specs.Runs.{Clocks, Moment, Run}
use Rattle.ring_points.specs.declared.who.Who.{Who}
use Rattle.turn_rules.specs.Steps.{Step}
use Rattle.world_rules.specs.Worlds.{numbers_of, posted}

-- Of steps, the newest first.

-- a node starts: starts are turn 0, and an arbitrator has no reading
abbrev pub is_node_start : Step → Bool
is_node_start s = s.turn == 0 && is_some s.reading

-- the node instances that run, in the order of their starts
abbrev pub running : List Step → List Who
running [] = []
running (s ∷ ss) = if is_node_start s then running ss ++ s.who ∷ [] else running ss

-- the clock's reading at the last step of a node
abbrev pub last_reading : List Step → ℕ
last_reading [] = 0
last_reading (s ∷ ss) = unwrap_or s.reading (last_reading ss)

-- all frames that were sent
abbrev pub frames_of : List Step → List Message
frames_of [] = []
frames_of (s ∷ ss) = posted s.who s.sent (frames_of ss)

-- each of these instances has this reading
abbrev pub all_read : ℕ → List Who → Clocks
all_read reading names = map (λ who. (who, reading)) names

-- A step after those before it. Its turn is the line; the clock's reading is the true time, and the reading of every running
-- node.
abbrev pub moment_of : Step → List Step → Moment
moment_of s before = record {
  line = s.turn;
  time = last_reading (s ∷ before);
  clocks = all_read (last_reading (s ∷ before)) (running (s ∷ before));
  entry = Some (record { who = s.who; reading = s.reading; sent = numbers_of (length (frames_of before)) s.sent; reports = s.told });
}

abbrev pub moments_of : List Step → Run
moments_of [] = []
moments_of (s ∷ ss) = moment_of s ss ∷ moments_of ss
