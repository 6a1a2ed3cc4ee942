-- What the laws of this crate say, of whatever runs above the ring.
use Rattle.std.specs.Prelude.{◌≡◌, ℕ, ◌+◌, ◌<◌, ◌≤◌, false, Option, Some, drop}
use Rattle.cold_start.specs.Lives.{lives_run, one_life}
use Rattle.drift_clock.specs.Within.{Pair, Within}
use Rattle.fabric_terms.specs.declared.config.FabricConfig.{FabricConfig}
use Rattle.fabric_terms.specs.Places.{has_left}
use Rattle.fabric_terms.specs.Reports.{told}
use Rattle.fabric_terms.specs.Runs.{Run, clocks_of, reading_of}
use Rattle.hold_span.specs.Span.{span}
use Rattle.ring_points.specs.declared.who.Who.{Who}
use Rattle.ring_safety.specs.Laws.{OverValidRuns}
use Rattle.ring_safety.specs.Lives.{OverValidLives}
use Rattle.world_rules.specs.Runs.{run_of}
use Rattle.world_rules.specs.Uppers.{Upper}
use Rattle.span_safety.specs.Held.{HoldsAlone, Owns, StaysLive, promised, time_of}
use Rattle.span_safety.specs.Lengths.{OneLength}

-- Some moments ago an instance owned a point. It still runs and owns it, its links have one length, and its clock has not
-- reached what it promised then. So it holds the point, and no other instance does.
abbrev pub HeldBeforePromised : FabricConfig → Run → (OfOneLength : Who → Type 0) → Type 0
HeldBeforePromised c run OfOneLength =
    (ago : ℕ) (x : Who) (p before now : ℕ) (fence later : Option ℕ) → OfOneLength x →
    Owns (drop ago run) x p before fence → Owns run x p now later → now < promised c before fence →
    HoldsAlone run x p

-- The same by another clock within the bound: who asked before that moment, and counts the span from its question, acts at
-- this moment or later.
abbrev pub HeldWhileCounted : FabricConfig → Run → (OfOneLength : Who → Type 0) → Type 0
HeldWhileCounted c run OfOneLength =
    (ago : ℕ) (x : Who) (p before now : ℕ) (fence later : Option ℕ) (asked acting : Pair) → OfOneLength x →
    Owns (drop ago run) x p before fence → Owns run x p now later →
    Within c.bound asked acting → asked.0 ≤ time_of (drop ago run) → time_of run ≤ acting.0 →
    acting.1 < asked.1 + span c.bound (promised c before fence) before →
    HoldsAlone run x p

-- Whatever else became of its points: as long as it runs and has not left, it is live, and nobody takes over from it.
abbrev pub LiveWhileCounted : FabricConfig → Run → (OfOneLength : Who → Type 0) → Type 0
LiveWhileCounted c run OfOneLength =
    (ago : ℕ) (x : Who) (p before now : ℕ) (fence : Option ℕ) (asked acting : Pair) → OfOneLength x →
    Owns (drop ago run) x p before fence → reading_of x (clocks_of run) ≡ Some now → has_left x (told run) ≡ false →
    Within c.bound asked acting → asked.0 ≤ time_of (drop ago run) → time_of run ≤ acting.0 →
    acting.1 < asked.1 + span c.bound (promised c before fence) before →
    StaysLive run x

-- over every valid row of lives

abbrev pub LivesHoldBeforePromised : Upper → Type 0
LivesHoldBeforePromised a = OverValidLives a (λ c l. HeldBeforePromised c (lives_run a c l) (λ x. OneLength a c x.actor l))

abbrev pub LivesHoldWhileCounted : Upper → Type 0
LivesHoldWhileCounted a = OverValidLives a (λ c l. HeldWhileCounted c (lives_run a c l) (λ x. OneLength a c x.actor l))

abbrev pub LivesStayWhileCounted : Upper → Type 0
LivesStayWhileCounted a = OverValidLives a (λ c l. LiveWhileCounted c (lives_run a c l) (λ x. OneLength a c x.actor l))

-- over every valid run

abbrev pub RunsHoldBeforePromised : Upper → Type 0
RunsHoldBeforePromised a = OverValidRuns a (λ c h. HeldBeforePromised c (run_of a c h) (λ x. OneLength a c x.actor (one_life h)))

abbrev pub RunsHoldWhileCounted : Upper → Type 0
RunsHoldWhileCounted a = OverValidRuns a (λ c h. HeldWhileCounted c (run_of a c h) (λ x. OneLength a c x.actor (one_life h)))

abbrev pub RunsStayWhileCounted : Upper → Type 0
RunsStayWhileCounted a = OverValidRuns a (λ c h. LiveWhileCounted c (run_of a c h) (λ x. OneLength a c x.actor (one_life h)))
