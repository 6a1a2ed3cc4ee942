-- What the laws of this crate say of a cluster that comes back after all its nodes have stopped.
use Rattle.std.specs.Prelude.{◌≡◌, ℕ, Bool, List}
use Rattle.fabric_terms.specs.declared.config.FabricConfig.{FabricConfig}
use Rattle.fabric_terms.specs.Places.{PlaceKept}
use Rattle.fabric_terms.specs.Runs.{RingSafe}
use Rattle.fabric_terms.specs.Sound.{IsSound}
use Rattle.fabric_terms.specs.TakeOvers.{TakenAfterLeave}
use Rattle.ring_points.specs.declared.who.Who.{Who}
use Rattle.run_promises.specs.Arbitrators.{MajorityAnswered, MajorityKept}
use Rattle.world_rules.specs.Uppers.{Upper}
use Rattle.cold_start.specs.Lives.{Lives, ValidLives, lives_run, lives_world, this_life, whole_after}

-- it holds of every valid row of lives of every sound configuration
abbrev pub OverValidLives : Upper → (FabricConfig → Lives → Type 0) → Type 0
OverValidLives a Holds = (is_frame : List ℕ → Bool) (c : FabricConfig) (l : Lives) → IsSound c → ValidLives a is_frame c l → Holds c l

-- at no moment of any life do two instances hold one point
abbrev pub LivesAreSafe : Upper → Type 0
LivesAreSafe a = OverValidLives a (λ c l. RingSafe (lives_run a c l))

-- who is told to be taken over holds nothing from then on, in this life and in each later one
abbrev pub LivesLeaveBeforeTakeOver : Upper → Type 0
LivesLeaveBeforeTakeOver a = OverValidLives a (λ c l. TakenAfterLeave (lives_run a c l))

-- in each life points stay where they are told to be; all begin with the instance that begins with the whole ring
abbrev pub LivesKeepPlaces : Upper → Type 0
LivesKeepPlaces a = OverValidLives a (λ c l. PlaceKept (whole_after c l) (this_life a c l))

-- majorities of arbitrators never answer two instances about each other, in whatever lives they answer
abbrev pub LivesExclude : Upper → Type 0
LivesExclude a =
    OverValidLives a (λ c l. (x y : Who) → MajorityAnswered c (lives_world a c l).frames x y → MajorityAnswered c (lives_world a c l).frames y x → ⊥)

-- and they keep one heir at most about each
abbrev pub LivesHaveOneHeir : Upper → Type 0
LivesHaveOneHeir a =
    OverValidLives a
    (λ c l. (x y victim : Who) → MajorityKept c (lives_world a c l).frames x victim → MajorityKept c (lives_world a c l).frames y victim → x ≡ y)
