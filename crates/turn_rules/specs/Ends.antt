-- How a run ends.
use Rattle.std.specs.Prelude.{◌≡◌, ◌<◌, ◌⊎◌, [], ◌∷◌, Some, None}
use Rattle.edge_io.specs.Edge.{HasRisen}
use Rattle.edge_io.specs.Told.{Told}
use Rattle.turn_rules.specs.Happenings.{Happening, History}
use Rattle.turn_rules.specs.Plans.{Setting}
use Rattle.turn_rules.specs.Steps.{Step}
use Rattle.turn_rules.specs.Process.{End, Back, Left, Full, after}
use Rattle.turn_rules.specs.Order.{Goes, IsInOrderBy, Rows, TurnPosition}
use Rattle.turn_rules.specs.Effects.{Did, Stays, IsPart}
use Rattle.turn_rules.specs.Handed.{Handed, failures_of}
use Rattle.turn_rules.specs.Works.{Work, work_of, works_of}
use Rattle.turn_rules.specs.declared.stop_cause.StopCause.{StopCause}
use Rattle.turn_rules.specs.declared.stop_cause.StopCause.TheVariants as stop

-- The run has ended so, by what came last, and all of its steps are done. All came in an order by these rows.
pub record EndedBy (may_go : Rows) (s : Setting) (a b : Told) (end : End) : Type 0 where
  pub history : History
  pub place : TurnPosition
  pub order : IsInOrderBy may_go s.plan history place
  pub ended : (after s history).end ≡ Some end
  pub did : Did (works_of s.plan.config (after s history).steps) (failures_of history) a b
  pub handed : Handed s.plan history a b
  pub stays : Stays a b

-- nothing of a step
abbrev pub IsNothing : Work → Type 0
IsNothing part = (part.records ≡ []) × (part.posts ≡ []) × (part.lines ≡ [])

-- what is done of the step that comes next, if one does
pub record IsPartOfNext (s : Setting) (h : Happening) (before : History) (part : Work) : Type 0 where
  pub step : Step
  pub next : (after s (h ∷ before)).steps ≡ step ∷ (after s before).steps
  pub is : IsPart part (work_of s.plan.config step)

-- The call ended in the step of what came last: all steps before it are done, and of it this part.
pub record BrokenBy (may_go : Rows) (s : Setting) (a b : Told) (part : Work) : Type 0 where
  pub before : History
  pub last : Happening
  pub place : TurnPosition
  pub order : IsInOrderBy may_go s.plan (last ∷ before) place
  pub on : (after s before).end ≡ None
  pub of : IsNothing part ⊎ IsPartOfNext s last before part
  pub did : Did (part ∷ works_of s.plan.config (after s before).steps) (failures_of (last ∷ before)) a b
  pub handed : Handed s.plan (last ∷ before) a b
  pub stays : Stays a b

-- Why a call ended before its last turn, and what is then done.
abbrev pub StoppedBy : Rows → Setting → Told → Told → StopCause → Type 0
StoppedBy may_go s a b stop.OutOfMemory = (part : Work) × BrokenBy may_go s a b part
StoppedBy may_go s a b stop.WriteFault = (part : Work) × (BrokenBy may_go s a b part × HasRisen a.sink_faults b.sink_faults)
StoppedBy may_go s a b stop.KeepFault = (part : Work) × (BrokenBy may_go s a b part × (part.lines ≡ []) × (part.posts ≡ []) × HasRisen a.keep_faults b.keep_faults)
StoppedBy may_go s a b (stop.ClockBack former latter) = EndedBy may_go s a b (Back former latter) × (a.falls < b.falls)
StoppedBy may_go s a b (stop.Left why) = EndedBy may_go s a b (Left why)
StoppedBy may_go s a b stop.TableFull = EndedBy may_go s a b Full
StoppedBy may_go s a b stop.LinkFault = ⊥
StoppedBy may_go s a b (stop.BadKeep i) = ⊥

-- the same of a run of its plan

abbrev pub Ended : Setting → Told → Told → End → Type 0
Ended = EndedBy Goes

abbrev pub Broken : Setting → Told → Told → Work → Type 0
Broken = BrokenBy Goes

abbrev pub Stopped : Setting → Told → Told → StopCause → Type 0
Stopped = StoppedBy Goes
