-- How a run of a schedule may end.
use Rattle.std.proofs.Common.{◌≡◌, ℕ, Bool, true, false, ◌||◌, List, Option, Some, None, Result, Ok, Err, IsTrue, length, nat_lt, refl, sym, subst, ⊎_elim}
use Rattle.fabric_config.specs.declared.error.ConfigError.{ConfigError}
use Rattle.fabric_terms.specs.declared.config.FabricConfig.{FabricConfig}
use Rattle.fabric_terms.specs.declared.event.Event.{Event}
use Rattle.frame_format.specs.Kinds.{is_frame}
use Rattle.unit_rules.specs.Ruled.{ruled}
use Rattle.world_rules.specs.EventLimits.{has_room}
use Rattle.ring_world.specs.declared.world.World.{World}
use Rattle.line_format.specs.Lines.{event_of}
use Rattle.source_lines.specs.Lines.{is_ignored, most_line, most_lines}
use Rattle.world_rules.specs.Runs.{History}
use Rattle.world_rules.specs.Schedules.{is_there, keeps_bound}
use Rattle.schedule_replay.specs.Follows.{Follows, Known}
use Rattle.schedule_rules.specs.Halts.{EndsLines}
use Rattle.schedule_rules.specs.Schedule.{LineVerdict, Ignored, Accepted, Refused, event_verdict, line_verdict, unless_ignored, unless_large, unless_there}
use Rattle.schedule_rules.specs.Telling.{Telling}
use Rattle.schedule_rules.specs.declared.halt.Halt.{Halt}
use Rattle.schedule_rules.specs.declared.halt.Halt.TheVariants as halt
use Rattle.schedule_replay.specs.Begins.{Begins}
use Rattle.schedule_replay.specs.Halting.{HaltsRightly, MayHalt}
use Rattle.fabric_status.specs.Codes.{status_of}
use Rattle.fabric_status.specs.Writes.{Wrote as Written}
use Rattle.fabric_status.specs.declared.status.Refusal.{Refusal}
use Rattle.fabric_status.specs.declared.status.Status.{Status}
use Rattle.schedule_replay.specs.Statuses.{may_end_replay}

-- a line behind the first is never refused as a configuration
abbrev pub RefusesRightly : LineVerdict → Type 0
RefusesRightly Ignored = Unit {0}
RefusesRightly (Accepted e) = Unit {0}
RefusesRightly (Refused refusal) = IsTrue (may_end_replay (status_of refusal))

line_may : (c : FabricConfig) (h : History) (n : ℕ) (line : List ℕ) → RefusesRightly (line_verdict c (ruled c h) (length h) n line)
unfolding line_verdict
line_may c h n line = by_length (nat_lt most_line (length line) || nat_lt most_lines n)
  where
    by_there : (e : Event) (there within room : Bool) → RefusesRightly (unless_there n e there within room)
    by_there e false within room = refl
    by_there e true false room = refl
    by_there e true true false = refl
    by_there e true true true = tt

    by_event : (o : Option Event) → RefusesRightly (event_verdict c (ruled c h) (length h) n o)
    by_event None = refl
    by_event (Some e) = by_there e (is_there is_frame c (ruled c h) e) (keeps_bound c (ruled c h) e) (has_room (ruled c h) (length h) e)

    by_kind : (ignored : Bool) → RefusesRightly (unless_ignored c (ruled c h) (length h) n line ignored)
    by_kind true = tt
    by_kind false = by_event (event_of line)

    by_length : (large : Bool) → RefusesRightly (unless_large c (ruled c h) (length h) n line large)
    by_length true = refl
    by_length false = by_kind (is_ignored line)

verdict_may : (t : Telling) (c : FabricConfig) (h : History) (n : ℕ) (v : LineVerdict) (refusal : Refusal) (a : World) (knows : Known) (old new : List ℕ) → RefusesRightly v → Follows t c h n v (Some refusal) a knows old new → MayHalt (halt.Refused refusal)
verdict_may t c h n Ignored refusal a knows old new may follows =
    let is : Some refusal ≡ None = follows.0 in
    let no : ⊥ = cc in
    absurd no
verdict_may t c h n (Accepted e) refusal a knows old new may follows =
    let is : Some refusal ≡ None = follows.0 in
    let no : ⊥ = cc in
    absurd no
verdict_may t c h n (Refused other) refusal a knows old new may follows =
    let is : Some refusal ≡ Some other = follows.0 in
    let same : other ≡ refusal = cc in
    subst (λ (r : Refusal). IsTrue (may_end_replay (status_of r))) same may

pub follows_may : (t : Telling) (c : FabricConfig) (h : History) (n : ℕ) (line : List ℕ) (refusal : Refusal) (a : World) (knows : Known) (old new : List ℕ) → Follows t c h n (line_verdict c (ruled c h) (length h) n line) (Some refusal) a knows old new → MayHalt (halt.Refused refusal)
follows_may t c h n line refusal a knows old new follows =
    verdict_may t c h n (line_verdict c (ruled c h) (length h) n line) refusal a knows old new (line_may c h n line) follows

pub begins_may : (read : Result FabricConfig ConfigError) (stop : Halt) → Begins read (Err stop) → MayHalt stop
begins_may read (halt.Refused refusal) begins = subst (λ (r : Refusal). IsTrue (may_end_replay (status_of r))) (sym begins.2) begins.3
begins_may read halt.SourceFailed begins = tt
begins_may read halt.OutOfMemory begins = tt
begins_may read halt.SinkFailed begins = tt

pub ends_may : (r : Result (Unit {0}) Halt) (t : Telling) (c : FabricConfig) (h : History) (old new : List ℕ) → EndsLines r t c h old new → HaltsRightly r
ends_may (Ok u) t c h old new ends = tt
ends_may (Err (halt.Refused refusal)) t c h old new ends = absurd ends
ends_may (Err halt.SourceFailed) t c h old new ends = tt
ends_may (Err halt.OutOfMemory) t c h old new ends = tt
ends_may (Err halt.SinkFailed) t c h old new ends = tt

-- where a last text is written, or not all of it
pub written_may_end : (wanted ended : Status) (text : List ℕ) (old new : Option (List ℕ)) (before now : ℕ) → IsTrue (may_end_replay wanted) → Written wanted text ended old new before now → IsTrue (may_end_replay ended)
written_may_end wanted ended text old new before now may written =
    ⊎_elim
    (λ all. subst (λ s. IsTrue (may_end_replay s)) (sym all.0) may)
    (λ short. ⊎_elim
    (λ memory. subst (λ s. IsTrue (may_end_replay s)) (sym memory.0) refl)
    (λ sink. subst (λ s. IsTrue (may_end_replay s)) (sym sink.0) refl)
    short)
    written
