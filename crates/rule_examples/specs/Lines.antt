-- Schedules, and the lines that a run prints, as values.
use Rattle.std.specs.Prelude.{ℕ, zero, ◌+◌, List, [], ◌∷◌, Option, Some, None}
use Rattle.ring_points.specs.declared.interval.Interval.{Interval}
use Rattle.ring_points.specs.declared.who.Who.{Who}
use Rattle.ring_points.specs.Whos.{node_instance, arbiter_actor}
use Rattle.fabric_terms.specs.declared.config.FabricConfig.{FabricConfig}
use Rattle.fabric_terms.specs.declared.config.NodeEntry.{NodeEntry}
use Rattle.fabric_terms.specs.declared.event.Event.{Event}
use Rattle.fabric_terms.specs.declared.event.Event.TheVariants as event
use Rattle.fabric_terms.specs.declared.report.Report.{Report}
use Rattle.fabric_terms.specs.Runs.{Entry, Moment, Run}
use Rattle.world_rules.specs.Uppers.{Upper, idle}
use Rattle.world_rules.specs.Runs.{History, run_of}

-- nothing runs above the ring, and nothing beside the accusations
abbrev pub bare : Upper
bare = record {
  Above = Unit {0};
  Beside = Unit {0};
  above_begun = λ c me kept. tt;
  above_step = λ c now r u i. idle u;
  beside_begun = λ c m kept. tt;
  beside_step = λ c m v f. idle v;
}

-- a node at a point, with the configured lease as its longest
abbrev pub node_entry : ℕ → ℕ → NodeEntry
node_entry node point = record { node = node; point = record { 0 = point }; domain = 1; at = []; longest = 3000 }

-- lease 3000, answer 1000, a drift of 10 per mille and 1 tick, three arbitrators
abbrev pub config_of : ℕ → List NodeEntry → FabricConfig
config_of first nodes =
    record {
      first = first;
      near = 0;
      rounds = 1;
      lease = 3000;
      answer = 1000;
      bound = record { d = 10; grain = 1 };
      nodes = nodes;
      arbiters = (1, []) ∷ (2, []) ∷ (3, []) ∷ [];
    }

abbrev pub half : ℕ
half = 9223372036854775808

-- two nodes, at point 0 and half way round
abbrev pub duo : ℕ → FabricConfig
duo first = config_of first (node_entry 1 0 ∷ node_entry 2 half ∷ [])

abbrev pub interval : ℕ → ℕ → Interval
interval lo hi = record { lo = lo; hi = hi }

abbrev pub start_node : ℕ → ℕ → Event
start_node node reading = event.Start node (Some reading)

abbrev pub start_arbiter : ℕ → Event
start_arbiter a = event.Start (arbiter_actor a) None

abbrev pub arbiter : ℕ → Who
arbiter a = node_instance (arbiter_actor a) 0

-- events in their order, on these lines, on top of a history
abbrev pub on_lines : ℕ → List Event → History → History
on_lines line [] history = history
on_lines line (e ∷ es) history = on_lines (line + 1) es ((line, e) ∷ history)

-- what is printed of a moment at which an actor told or sent something
pub record Line : Type 0 where
  pub line : ℕ
  pub time : ℕ
  pub who : Who
  pub reading : Option ℕ
  pub reports : List Report
  pub sent : ℕ × ℕ

-- a moment without reports and frames prints nothing
abbrev pub printed : ℕ → ℕ → Entry → List Report → ℕ × ℕ → List Line → List Line
printed line time e [] (zero, last) lines = lines
printed line time e reports sent lines = record { line = line; time = time; who = e.who; reading = e.reading; reports = reports; sent = sent } ∷ lines

abbrev pub line_of : Moment → Option Entry → List Line → List Line
line_of m None lines = lines
line_of m (Some e) lines = printed m.line m.time e e.reports e.sent lines

-- the lines of a run, the newest first
abbrev pub lines_of : Run → List Line
lines_of [] = []
lines_of (m ∷ ms) = line_of m m.entry (lines_of ms)

-- the same of a schedule
abbrev pub lines_from : FabricConfig → History → List Line
lines_from c h = lines_of (run_of bare c h)

abbrev pub says : ℕ → ℕ → Who → ℕ → List Report → ℕ × ℕ → Line
says line time who reading reports sent = record { line = line; time = time; who = who; reading = Some reading; reports = reports; sent = sent }

abbrev pub arbiter_says : ℕ → ℕ → ℕ → ℕ × ℕ → Line
arbiter_says line time a sent = record { line = line; time = time; who = arbiter a; reading = None; reports = []; sent = sent }
