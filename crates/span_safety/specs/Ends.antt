-- What was promised is kept also after the end of the instance that promised it.
use Rattle.std.specs.Prelude.{◌≡◌, ℕ, ◌+◌, ◌<◌, ◌≤◌, Bool, true, false, not, ◌&&◌, List, [], ◌∷◌, ◌++◌, Option, Some, None, drop}
use Rattle.std.specs.List.{list_any}
use Rattle.cold_start.specs.Lives.{one_life}
use Rattle.drift_clock.specs.Within.{Pair, Within}
use Rattle.fabric_terms.specs.declared.config.FabricConfig.{FabricConfig}
use Rattle.fabric_terms.specs.declared.event.Event.{Event}
use Rattle.fabric_terms.specs.declared.event.Event.TheVariants.{Stop}
use Rattle.fabric_terms.specs.Places.{has_left}
use Rattle.fabric_terms.specs.Reports.{Told, told}
use Rattle.fabric_terms.specs.Runs.{Entry, Holds, Owned, Run, clocks_of, own_of, reading_of}
use Rattle.fabric_terms.specs.Sound.{IsSound}
use Rattle.fabric_terms.specs.TakeOvers.{tells_take_over}
use Rattle.hold_span.specs.Span.{span}
use Rattle.ring_points.specs.declared.who.Who.{Who}
use Rattle.ring_points.specs.Ranges.{in_ranges}
use Rattle.ring_points.specs.Whos.{same_who}
use Rattle.world_rules.specs.Runs.{History, run_of}
use Rattle.world_rules.specs.Schedules.{Valid}
use Rattle.world_rules.specs.Uppers.{Upper}
use Rattle.span_safety.specs.Held.{Owns, promised, time_of}
use Rattle.span_safety.specs.Lengths.{OneLength, begins}

-- no event is a start of the node
abbrev pub NoStart : (node : ℕ) → History → Type 0
NoStart node [] = Unit {0}
NoStart node (e ∷ es) = (begins node e.1 ≡ false) × NoStart node es

-- what an actor did last, if one did something in the newest moment
abbrev pub newest : Run → Option Entry
newest [] = None
newest (m ∷ ms) = m.entry

-- in the newest moment the instance left, in a step in which it sent no frame
pub record LeavesSilently (run : Run) (x : Who) : Type 0 where
  pub reading : ℕ
  pub entry : Entry
  pub runs : reading_of x (clocks_of run) ≡ Some reading
  pub last : newest run ≡ Some entry
  pub silent : entry.sent ≡ (0, 0)
  pub left : has_left x (told run) ≡ true

-- the newest event ends the instance
pub data Ends (a : Upper) (c : FabricConfig) (x : Who) (earlier : History) (e : ℕ × Event) : Type 0 where
  stops : e.1 ≡ Stop x.actor → Ends a c x earlier e
  leaves : LeavesSilently (run_of a c (e ∷ earlier)) x → Ends a c x earlier e

-- another instance has told that it took over from x
abbrev pub taken_by_other : Who → Told → Bool
taken_by_other x reports = list_any (λ t. not (same_who t.0 x) && tells_take_over x t.1) reports

-- nobody has taken over from x, and nobody holds what it owned in the end
pub record Spared (before run : Run) (x : Who) : Type 0 where
  pub kept : taken_by_other x (told run) ≡ false
  pub points : (p : ℕ) (owned : Owned) → own_of x before ≡ Some owned → in_ranges p owned.ranges ≡ true → (y : Who) → Holds run y p → ⊥

-- An instance ran with links of one length until its node stopped or it left without sending a frame, and the node has not
-- started since. Then while somebody counts the span of a promise that it gave some moments before its end, nobody takes
-- over from it, and nobody holds what it owned.
abbrev pub SparedWhileCounted : Upper → Type 0
SparedWhileCounted a =
    (is_frame : List ℕ → Bool) (c : FabricConfig) (later earlier : History) (e : ℕ × Event) (x : Who) → IsSound c →
    Valid a is_frame c (later ++ e ∷ earlier) → Ends a c x earlier e → NoStart x.actor later → OneLength a c x.actor (one_life earlier) →
    (ago p before now : ℕ) (fence : Option ℕ) (asked acting : Pair) → Owns (drop ago (run_of a c earlier)) x p before fence →
    reading_of x (clocks_of (run_of a c earlier)) ≡ Some now → has_left x (told (run_of a c earlier)) ≡ false →
    Within c.bound asked acting → asked.0 ≤ time_of (drop ago (run_of a c earlier)) → time_of (run_of a c (later ++ e ∷ earlier)) ≤ acting.0 →
    acting.1 < asked.1 + span c.bound (promised c before fence) before →
    Spared (run_of a c earlier) (run_of a c (later ++ e ∷ earlier)) x
