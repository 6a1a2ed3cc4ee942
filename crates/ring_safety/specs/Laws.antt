-- What the laws of this crate say, of whatever runs above the ring.
use Rattle.std.specs.Prelude.{ℕ, Bool, List}
use Rattle.fabric_terms.specs.declared.config.FabricConfig.{FabricConfig}
use Rattle.fabric_terms.specs.Places.{PlaceKept}
use Rattle.fabric_terms.specs.Runs.{RingSafe}
use Rattle.fabric_terms.specs.Sound.{IsSound}
use Rattle.fabric_terms.specs.TakeOvers.{TakenAfterLeave}
use Rattle.ring_points.specs.Whos.{node_instance}
use Rattle.run_promises.specs.Arbitrators.{AnswersExclude, OneHeir}
use Rattle.world_rules.specs.Runs.{History, run_of}
use Rattle.world_rules.specs.Schedules.{Valid}
use Rattle.world_rules.specs.Uppers.{Upper}

-- it holds of every valid history of every sound configuration
abbrev pub OverValidRuns : Upper → (FabricConfig → History → Type 0) → Type 0
OverValidRuns a Holds = (is_frame : List ℕ → Bool) (c : FabricConfig) (h : History) → IsSound c → Valid a is_frame c h → Holds c h

-- at no moment do two instances hold one point
abbrev pub RingIsSafe : Upper → Type 0
RingIsSafe a = OverValidRuns a (λ c h. RingSafe (run_of a c h))

-- who is told to be taken over holds nothing from then on
abbrev pub LeavesBeforeTakeOver : Upper → Type 0
LeavesBeforeTakeOver a = OverValidRuns a (λ c h. TakenAfterLeave (run_of a c h))

-- points stay where they are told to be
abbrev pub PlacesAreKept : Upper → Type 0
PlacesAreKept a = OverValidRuns a (λ c h. PlaceKept (node_instance c.first 1) (run_of a c h))

-- majorities of arbitrators never answer two instances about each other
abbrev pub AnswersExcludeAlways : Upper → Type 0
AnswersExcludeAlways a = OverValidRuns a (AnswersExclude a)

-- and they keep one heir at most about each
abbrev pub OneHeirAlways : Upper → Type 0
OneHeirAlways a = OverValidRuns a (OneHeir a)
