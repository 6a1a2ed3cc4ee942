-- What the laws of this crate say.
use Rattle.std.specs.Prelude.{◌≡◌, ℕ, ◌+◌, ◌<◌, Bool, List, [], ◌++◌, cond, not, ◌&&◌, ◌⊎◌}
use Rattle.fabric_terms.specs.declared.config.FabricConfig.{FabricConfig}
use Rattle.fabric_terms.specs.declared.record.Record.{Record}
use Rattle.ring_points.specs.declared.interval.Interval.{Interval}
use Rattle.ring_points.specs.declared.who.Who.{Who}
use Rattle.ring_points.specs.Ranges.{whole_ring}
use Rattle.ring_points.specs.Whos.{node_instance, same_who}
use Rattle.world_rules.specs.Nodes.{boots_of, instance_begun, is_spent}
use Rattle.world_rules.specs.Runs.{History, run_of, world_after}
use Rattle.world_rules.specs.Schedules.{Valid}
use Rattle.world_rules.specs.Uppers.{Upper}
use Rattle.world_rules.specs.Worlds.{World, kept_of}
use Rattle.cold_start.specs.Lives.{MayBeAgain, ValidLives, lives_run, lives_world, one_life, this_life, whole_after}
use Rattle.world_rules.specs.Starts.{first_whole, node_begun_in}

-- one life is a schedule: its world, its run, and that it is valid
pub record OneLife (a : Upper) (c : FabricConfig) (h : History) : Type 0 where
  pub world : lives_world a c (one_life h) ≡ world_after a c h
  pub run : lives_run a c (one_life h) ≡ run_of a c h
  pub life : this_life a c (one_life h) ≡ run_of a c h
  pub whole : whole_after c (one_life h) ≡ first_whole c
  pub valid : (is_frame : List ℕ → Bool) → Valid a is_frame c h → ValidLives a is_frame c (one_life h)

abbrev pub OneLifeIsASchedule : Upper → Type 0
OneLifeIsASchedule a = (c : FabricConfig) (h : History) → OneLife a c h

-- what an instance that starts begins with
abbrev pub begins_with : (a : Upper) → (whole : Who) → FabricConfig → ℕ → List Record → List Interval
begins_with a whole c node records = (node_begun_in a whole c node records).state.ring.token.ranges

-- it is the whole ring for the instance that the life names, and nothing for every other
abbrev pub OneBeginsWithTheRing : Upper → Type 0
OneBeginsWithTheRing a =
    (whole : Who) (c : FabricConfig) (node : ℕ) (records : List Record) →
    begins_with a whole c node records
    ≡ cond (not (is_spent records) && same_who (node_instance node (instance_begun records)) whole) whole_ring []

-- of two starts of a node one behind the other, one at most begins with points
abbrev pub BeginsOnce : Upper → Type 0
BeginsOnce a =
    (whole : Who) (c : FabricConfig) (node : ℕ) (records more : List Record) →
    (begins_with a whole c node records ≡ [])
    ⊎ (begins_with a whole c node (records ++ (node_begun_in a whole c node records).records ++ more) ≡ [])

-- where no node runs, the next instance of any node has not run
abbrev pub NextMayBeAgain : Upper → Type 0
NextMayBeAgain a = (w : World a) (node : ℕ) → w.nodes ≡ [] → MayBeAgain w (node_instance node (boots_of (kept_of w node) + 1))

-- an instance that has run may not
abbrev pub PastMayNot : Upper → Type 0
PastMayNot a = (w : World a) (whole : Who) → (boots_of (kept_of w whole.actor) < whole.instance → ⊥) → MayBeAgain w whole → ⊥
