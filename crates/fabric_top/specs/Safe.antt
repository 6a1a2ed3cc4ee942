-- What is promised of the run of a schedule.
use Rattle.std.specs.Prelude.{ℕ, drop, Option, Some, None}
use Rattle.unit_rules.specs.Fabric.{fabric}
use Rattle.fabric_terms.specs.Places.{PlaceKept}
use Rattle.fabric_terms.specs.Primaries.{NoOlder, OnePrimary}
use Rattle.fabric_terms.specs.Runs.{Run, RingSafe}
use Rattle.fabric_terms.specs.TakeOvers.{TakenAfterLeave}
use Rattle.fabric_terms.specs.declared.config.FabricConfig.{FabricConfig}
use Rattle.ring_points.specs.Whos.{node_instance}
use Rattle.run_promises.specs.Answers.{AnswersOfCommitted}
use Rattle.run_promises.specs.Arbitrators.{AnswersExclude, OneHeir}
use Rattle.run_promises.specs.Covered.{NamesCovered}
use Rattle.run_promises.specs.Writes.{CommitsAgree, WritesKept}
use Rattle.world_rules.specs.Runs.{History}
use Rattle.schedule_rules.specs.Output.{accepted_run}
use Rattle.schedule_rules.specs.Schedule.{Judged}

-- points stay where they are told to be; they begin with the first node's first instance
abbrev pub KeepsPlaces : Option FabricConfig → Run → Type 0
KeepsPlaces None run = Unit {0}
KeepsPlaces (Some c) run = PlaceKept (node_instance c.first 1) run

-- a promise holds at each moment of the history; where no configuration was read there is none
abbrev pub AtEachMoment : (FabricConfig → History → Type 0) → Option FabricConfig → History → Type 0
AtEachMoment Holds None h = Unit {0}
AtEachMoment Holds (Some c) h = (ago : ℕ) → Holds c (drop ago h)

-- The run of the events that are accepted is safe.
pub record IsSafe (j : Judged) : Type 0 where
  -- The ring: at no moment do two instances hold one point. An instance that is reported as taken over holds nothing from
  -- then on, and points stay where the reports put them. No two majorities of arbitrators answer two instances about each
  -- other, and they keep at most one heir of each.
  pub ring : RingSafe (accepted_run j)
  pub taken : TakenAfterLeave (accepted_run j)
  pub places : KeepsPlaces j.config (accepted_run j)
  pub exclude : AtEachMoment (AnswersExclude fabric) j.config j.history
  pub heirs : AtEachMoment (OneHeir fabric) j.config j.history
  -- Partitions: each has at most one primary in an epoch, and no node accepts a write of an older epoch than one that it
  -- promised. What was committed stands in the log of each later primary of the same data loss number, and all reports of it
  -- agree.
  pub primaries : OnePrimary (accepted_run j)
  pub epochs : NoOlder (accepted_run j)
  pub writes : AtEachMoment WritesKept j.config j.history
  pub agree : AtEachMoment CommitsAgree j.config j.history
  -- Names: whoever may answer about them leaves out nothing that was committed before in epochs up to its own, and each
  -- answer that is reported is of such entries.
  pub answers : AtEachMoment NamesCovered j.config j.history
  pub answered : AtEachMoment AnswersOfCommitted j.config j.history
