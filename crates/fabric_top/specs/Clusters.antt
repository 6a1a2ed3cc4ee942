-- What `cluster` does: the run of all actors in one process, whose steps are safe.
use mathlib.Core.Logic.{inl, inr}
use Rattle.std.specs.Prelude.{ℕ, ◌∷◌, Result, Ok, Err}
use Rattle.cluster_safety.specs.Plans.{HoldsNothing, OwnFrames}
use Rattle.cluster_safety.specs.Promises.{SafeSteps}
use Rattle.fabric_top.specs.CrewCauses.{IsCrewRun}
use Rattle.fabric_top.specs.CrewRuns.{RunsCrew, RunsJudged, Seen, failed, read, short}
use Rattle.fabric_status.specs.declared.status.Refusal.{Refusal}
use Rattle.fabric_status.specs.declared.status.Status.{Status}
use Rattle.edge_io.specs.Told.{Told}
use Rattle.turn_plans.specs.Plans.{judge_plan}
use Rattle.turn_plans.specs.declared.crew.Crew.TheVariants as crew
use Rattle.turn_rules.specs.Ends.{Broken, Stopped}
use Rattle.turn_rules.specs.Happenings.{History}
use Rattle.turn_rules.specs.Plans.{Plan, Setting}
use Rattle.turn_rules.specs.Whole.{Ends, StoppedRun, setting, with_endpoints}
use Rattle.turn_rules.specs.Works.{Work}
use Rattle.turn_rules.specs.declared.stop_cause.StopCause.{StopCause}
use Rattle.turn_rules.specs.declared.stop_cause.StopCause.TheVariants as stop

-- The steps of what has come are safe, where each datagram that was taken is no frame or equals one that was sent before. The
-- clock's reading is the true time, and the reading of every running node.
abbrev pub IsSafeFor : Setting → History → Type 0
IsSafeFor s h = OwnFrames s h → SafeSteps s h

-- where the call ended in a step: the steps before it are, and with it
abbrev pub IsSafeBroken : (s : Setting) (a b : Told) (part : Work) → Broken s a b part → Type 0
IsSafeBroken s a b part k = IsSafeFor s k.before × IsSafeFor s (k.last ∷ k.before)

abbrev pub IsSafeStopped : (s : Setting) (a b : Told) (stopped : StopCause) → Stopped s a b stopped → Type 0
IsSafeStopped s a b stop.OutOfMemory k = IsSafeBroken s a b k.0 k.1
IsSafeStopped s a b stop.WriteFault k = IsSafeBroken s a b k.0 k.1.0
IsSafeStopped s a b stop.KeepFault k = IsSafeBroken s a b k.0 k.1.0
IsSafeStopped s a b (stop.ClockBack former latter) k = IsSafeFor s k.0.history
IsSafeStopped s a b (stop.Left why) k = IsSafeFor s k.history
IsSafeStopped s a b stop.TableFull k = IsSafeFor s k.history
IsSafeStopped s a b stop.LinkFault k = Unit {0}
IsSafeStopped s a b (stop.BadKeep i) k = Unit {0}

abbrev pub IsSafeUntil : (plan : Plan) (a b : Told) (stopped : StopCause) → StoppedRun plan a b stopped → Type 0
IsSafeUntil plan a b stopped k = IsSafeStopped (setting plan k.0) (with_endpoints plan a) b stopped k.1.2

-- the steps that a run tells of, however it ends; some ends come before the first step
abbrev pub IsSafeRun : (plan : Plan) (a : Told) (r : Result (Unit {0}) StopCause) (b : Told) → Ends plan a r b → Type 0
IsSafeRun plan a (Ok done) b k = IsSafeFor (setting plan k.0) k.1.2.history
IsSafeRun plan a (Err stop.OutOfMemory) b (inl recalled) = Unit {0}
IsSafeRun plan a (Err stop.OutOfMemory) b (inr (inl opening)) = Unit {0}
IsSafeRun plan a (Err stop.OutOfMemory) b (inr (inr k)) = IsSafeUntil plan a b stop.OutOfMemory k
IsSafeRun plan a (Err stop.KeepFault) b (inl recalled) = Unit {0}
IsSafeRun plan a (Err stop.KeepFault) b (inr k) = IsSafeUntil plan a b stop.KeepFault k
IsSafeRun plan a (Err stop.LinkFault) b k = Unit {0}
IsSafeRun plan a (Err (stop.BadKeep i)) b k = Unit {0}
IsSafeRun plan a (Err stop.WriteFault) b k = IsSafeUntil plan a b stop.WriteFault k
IsSafeRun plan a (Err (stop.ClockBack former latter)) b k = IsSafeUntil plan a b (stop.ClockBack former latter) k
IsSafeRun plan a (Err (stop.Left why)) b k = IsSafeUntil plan a b (stop.Left why) k
IsSafeRun plan a (Err stop.TableFull) b k = IsSafeUntil plan a b stop.TableFull k

-- of a plan that was read, where the keeper tells that it holds no record of its actors
abbrev pub IsSafeJudged : (r : Result Plan Refusal) (a : Told) (ended : Status) (c : Told) → RunsJudged r a ended c → Type 0
IsSafeJudged (Ok plan) a ended c k = HoldsNothing plan.actors a → IsSafeRun plan a k.runs.result k.runs.before_last k.runs.ends
IsSafeJudged (Err refusal) a ended c k = Unit {0}

abbrev pub IsSafeCluster : (turns : ℕ) (a : Seen) (ended : Status) (c : Seen) → RunsCrew crew.Cluster turns a ended c → Type 0
IsSafeCluster turns a ended c (failed risen ends) = Unit {0}
IsSafeCluster turns a ended c (short memory same) = Unit {0}
IsSafeCluster turns a ended c (read bytes whole k) = IsSafeJudged (judge_plan crew.Cluster turns bytes) a.told ended c.told k

-- All actors run, and what they do is safe, at every status.
pub record RunsCluster (turns : ℕ) (a : Seen) (ended : Status) (c : Seen) : Type 0 where
  pub run : IsCrewRun crew.Cluster turns a ended c
  pub safe : IsSafeCluster turns a ended c run.runs
