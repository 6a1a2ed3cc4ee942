-- What `generate` and `drill` do.
use Rattle.std.specs.Prelude.{◌≡◌, ℕ, List, IsTrue, Option}
use Rattle.fabric_top.specs.CrewRuns.{Seen}
use Rattle.fabric_status.specs.Writes.{Wrote}
use Rattle.fabric_status.specs.declared.status.Status.{Status}
use Rattle.schedule_generate.specs.Goes.{IsSettled}
use Rattle.schedule_generate.specs.Laws.{judged_of}
use Rattle.schedule_generate.specs.Statuses.{may_end_generate}
use Rattle.schedule_generate.specs.Texts.{Writing, all_written, ended, gen_text, generated}
use Rattle.schedule_rules.specs.Schedule.{judge}
use Rattle.fabric_top.specs.Safe.{IsSafe}

-- What is written of the schedule of a seed, or a front of it for want of memory or where the sink failed. Where the schedule
-- came to its end or to a limit, its text is judged as it was made.
pub record WritesMade (writing : ℕ → Writing) (seed nodes rounds : ℕ) (so : Status) (held held' : Option (List ℕ)) (refused refused' : ℕ) : Type 0 where
  pub wrote : Wrote (ended (generated seed nodes rounds)) (all_written (writing nodes) (generated seed nodes rounds)) so held held' refused refused'
  pub judged : IsSettled so → judge (gen_text seed nodes rounds) ≡ judged_of nodes (generated seed nodes rounds)
  -- its status is one of these
  pub statuses : IsTrue (may_end_generate so)

-- the run of its events is safe; nothing is read, opened, kept or sent
pub record Generates (writing : ℕ → Writing) (seed nodes rounds : ℕ) (a : Seen) (so : Status) (c : Seen) : Type 0 where
  pub made : WritesMade writing seed nodes rounds so a.told.held c.told.held a.told.sink_faults c.told.sink_faults
  pub safe : IsSafe (judge (gen_text seed nodes rounds))
  pub rest : c ≡ record a { told = record a.told { held = c.told.held; sink_faults = c.told.sink_faults } }
