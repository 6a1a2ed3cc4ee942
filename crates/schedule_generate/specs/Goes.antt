-- Which course the code goes, and what it has written of it.
use Rattle.std.specs.Prelude.{◌≡◌, ◌<◌, ◌⊎◌, ℕ, true, List, ◌++◌, All, Option, Some, None, Result, Ok, Err}
use Rattle.edge_io.specs.Edge.{Grew, GrewByFront}
use Rattle.fabric_terms.specs.declared.event.Event.{Event}
use Rattle.fabric_terms.specs.Ranges.{Fits}
use Rattle.fabric_terms.specs.declared.config.FabricConfig.{FabricConfig}
use Rattle.fabric_status.specs.declared.status.Status.{Status}
use Rattle.fabric_status.specs.declared.status.Status.TheVariants as status
use Rattle.ring_world.specs.Answers.{StandsFor}
use Rattle.frame_format.specs.Kinds.{is_frame}
use Rattle.unit_rules.specs.Ruled.{ruled}
use Rattle.ring_world.specs.declared.world.EventRefusal.{EventRefusal}
use Rattle.schedule_rules.specs.Halts.{Wrote}
use Rattle.world_rules.specs.Runs.{History}
use Rattle.world_rules.specs.Schedules.{is_there, keeps_bound}
use Rattle.schedule_generate.specs.Course.{Course, next_line, running}
use Rattle.schedule_generate.specs.Due.{AreDue, ClocksAreTrue}
use Rattle.schedule_generate.specs.Settings.{generated_config}
use Rattle.schedule_generate.specs.Shown.{nodes_of}
use Rattle.schedule_generate.specs.Texts.{Writing, all_written, lines_written}
use Rattle.schedule_generate.specs.declared.generator.Generator.{Generator}
use Rattle.schedule_generate.specs.declared.course_halt.CourseHalt.{CourseHalt}
use Rattle.schedule_generate.specs.declared.course_halt.CourseHalt.TheVariants as halt

-- what a listener knows of a history of so many nodes
abbrev pub Known : Type 1
Known = ℕ → History → Type 0

-- no event of the course was refused yet, its clocks are true, and the generator stands where it ends
pub record Goes (n : ℕ) (a : Generator) (g : Course) : Type 0 where
  pub nodes : a.nodes ≡ n
  pub going : g.refused ≡ None
  pub world : StandsFor a.world (generated_config n) g.history
  pub line : a.line ≡ next_line g.history
  pub time : a.time ≡ (ruled (generated_config n) g.history).time
  pub clocks : ClocksAreTrue (ruled (generated_config n) g.history)
  pub considered : a.considered ≡ g.considered
  pub draws : a.draws ≡ g.draws

-- the listener knows it too, and what is written of it was sent or waits
pub record At (w : ℕ → Writing) (knows : Known) (n : ℕ) (a : Generator) (text : List ℕ) (g : Course) (sent : List ℕ) : Type 0 where
  pub goes : Goes n a g
  pub known : knows n g.history
  pub told : sent ++ text ≡ lines_written (w n) g.history

-- it does so for some course, of some number of nodes
abbrev pub IsAt : (ℕ → Writing) → Known → Generator → List ℕ → Type 0
IsAt w knows a text = (n : ℕ) × (g : Course) × (sent : List ℕ) × At w knows n a text g sent

-- and these events may come next
abbrev pub IsDue : (ℕ → Writing) → Known → Generator → List ℕ → List Event → Type 0
IsDue w knows a text es = (n : ℕ) × (g : Course) × (sent : List ℕ) × At w knows n a text g sent × AreDue (generated_config n) g.history es

-- and more than so many frames were sent
abbrev pub HasMore : (ℕ → Writing) → Known → Generator → List ℕ → ℕ → Type 0
HasMore w knows a text before =
    (n : ℕ) × (g : Course) × (sent : List ℕ) × At w knows n a text g sent × (before < (ruled (generated_config n) g.history).count)

-- and its readings are of those who run
abbrev pub HasShown : (ℕ → Writing) → Known → Generator → List ℕ → Type 0
HasShown w knows a text =
    (n : ℕ) × (g : Course) × (sent : List ℕ) × At w knows n a text g sent
    × (nodes_of a.readings.items ≡ running (ruled (generated_config n) g.history))

-- what the event names is there, no clock leaves its bound, and its numbers are in their ranges
pub record Passes (c : FabricConfig) (h : History) (e : Event) : Type 0 where
  pub fits : Fits e
  pub there : is_there is_frame c (ruled c h) e ≡ true
  pub bound : keeps_bound c (ruled c h) e ≡ true

-- An event was refused at this line, for a limit alone, and what is written of those before it was sent or waits.
pub record Refused (w : ℕ → Writing) (n number : ℕ) (text : List ℕ) (g : Course) (sent : List ℕ) : Type 0 where
  pub event : Event
  pub refused : g.refused ≡ Some event
  pub line : number ≡ next_line g.history
  pub passes : Passes (generated_config n) g.history event
  pub fits : All (λ e. Fits e.1) g.history
  pub told : sent ++ text ≡ lines_written (w n) g.history

-- memory was wanted at the event of this line, which the limits let come: the course has taken it
abbrev pub IsWantedAt : ℕ → Course → Type 0
IsWantedAt line g = line < next_line g.history

-- what a part of a course came to
abbrev pub Went : (ℕ → Writing) → Known → ℕ → Result (Unit {0}) CourseHalt → Generator → List ℕ → Course → List ℕ → Type 0
Went w knows n (Ok u) a text g sent = At w knows n a text g sent
Went w knows n (Err (halt.TooLarge line)) a text g sent = Refused w n line text g sent
Went w knows n (Err halt.OutOfMemory) a text g sent = IsWantedAt a.line g
Went w knows n (Err halt.SinkFailed) a text g sent = ⊥

-- an event of a course is refused for a limit or for want of memory, since what it names is there and its clocks are true
abbrev pub IsLimit : EventRefusal → Type 0
IsLimit EventRefusal.NoSuch = ⊥
IsLimit (EventRefusal.DriftBroken broken) = ⊥
IsLimit EventRefusal.TooLarge = Unit {0}
IsLimit EventRefusal.OutOfMemory = Unit {0}

-- why a course halts where an event is refused so at this line
abbrev pub halt_at : EventRefusal → ℕ → CourseHalt
halt_at EventRefusal.TooLarge line = halt.TooLarge line
halt_at _ line = halt.OutOfMemory

-- What a round came to, by what the sink has more: what waited was sent in part; or nothing was sent before a refused event,
-- or before one at which memory was wanted; or no event was refused, and a front of what waited was sent.
abbrev pub Rounded : (ℕ → Writing) → Known → ℕ → Result (Unit {0}) CourseHalt → Generator → List ℕ → Course → List ℕ → Option (List ℕ) → Option (List ℕ) → Type 0
Rounded w knows n (Ok u) a text g sent old new = (more : List ℕ) × Grew old new more × At w knows n a text g (sent ++ more)
Rounded w knows n (Err (halt.TooLarge line)) a text g sent old new = Refused w n line text g sent × (new ≡ old)
Rounded w knows n (Err halt.OutOfMemory) a text g sent old new =
    (IsWantedAt a.line g × (new ≡ old)) ⊎ ((g.refused ≡ None) × ((waits : List ℕ) × (sent ++ waits ≡ lines_written (w n) g.history) × GrewByFront old new waits))
Rounded w knows n (Err halt.SinkFailed) a text g sent old new =
    (waits : List ℕ) × (sent ++ waits ≡ lines_written (w n) g.history) × GrewByFront old new waits

-- an event of the course was refused at this line, for a limit alone
pub record RefusedAt (n number : ℕ) (g : Course) : Type 0 where
  pub event : Event
  pub refused : g.refused ≡ Some event
  pub line : number ≡ next_line g.history
  pub passes : Passes (generated_config n) g.history event
  pub fits : All (λ e. Fits e.1) g.history

-- the whole course was gone, or it halted; by what the sink has more
abbrev pub WentAll : (ℕ → Writing) → Known → ℕ → Result (Unit {0}) CourseHalt → Generator → List ℕ → Course → Option (List ℕ) → Option (List ℕ) → Type 0
WentAll w knows n (Ok u) a text g old new = Goes n a g × knows n g.history × Wrote old new text (lines_written (w n) g.history)
WentAll w knows n (Err (halt.TooLarge line)) a text g old new =
    RefusedAt n line g × Wrote old new text (lines_written (w n) g.history)
WentAll w knows n (Err halt.OutOfMemory) a text g old new = GrewByFront old new (lines_written (w n) g.history)
WentAll w knows n (Err halt.SinkFailed) a text g old new = GrewByFront old new (lines_written (w n) g.history)

-- the schedule was made and all that is written of it was sent or waits, or it halted
abbrev pub Made : ℕ → Writing → Result (Unit {0}) CourseHalt → List ℕ → Course → Option (List ℕ) → Option (List ℕ) → Type 0
Made n w (Ok u) text g old new = (g.refused ≡ None) × All (λ e. Fits e.1) g.history × Wrote old new text (all_written w g)
Made n w (Err (halt.TooLarge line)) text g old new = RefusedAt n line g × Wrote old new text (lines_written w g.history)
Made n w (Err halt.OutOfMemory) text g old new = GrewByFront old new (all_written w g)
Made n w (Err halt.SinkFailed) text g old new = GrewByFront old new (all_written w g)

-- the schedule came to its end, or to a limit
abbrev pub IsSettled : Status → Type 0
IsSettled status.Ok = Unit {0}
IsSettled (status.TooLarge line) = Unit {0}
IsSettled _ = ⊥
