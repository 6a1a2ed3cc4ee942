-- What is read of a source line by line: what its lines define, or how they are refused.
use Rattle.std.specs.Prelude.{◌≡◌, ℕ, ◌≤◌, List, [], ◌++◌, All, Option, Some, None, Result, Ok, Err}
use Rattle.edge_io.specs.Edge.{Tells}
use Rattle.fabric_status.specs.declared.status.Refusal.{Refusal}
use Rattle.fabric_terms.specs.Ranges.{FitsCommand}
use Rattle.line_format.specs.Lines.{lines_of}
use Rattle.source_lines.specs.Feeds.{HasNoFeed}
use Rattle.source_lines.specs.Lines.{most_lines}
use Rattle.turn_plans.specs.Plans.{judge_plan}
use Rattle.turn_plans.specs.declared.crew.Crew.{Crew}
use Rattle.turn_plans.specs.declared.error.PlanError.{PlanError}
use Rattle.turn_plans.specs.declared.error.PlanError.TheVariants as error
use Rattle.turn_rules.specs.Plans.{Plan, Rises}
use Rattle.turn_rules.specs.declared.order.Order.{Order}

-- where the source tells what it had left, it has nothing left now
abbrev pub IsAtEnd : Option (List ℕ) → Option (List ℕ) → Type 0
IsAtEnd left now = (bytes : List ℕ) → left ≡ Some bytes → now ≡ Some []

-- What is read, seen so, is defined, and the source is at its end; or a refusal is defined, and bytes may be left.
abbrev pub Reads : {A B : Type 0} → (B → A) → (Result A Refusal → Type 0) → Option (List ℕ) → Result B PlanError → Option (List ℕ) → Type 0
Reads seen Defines left (Ok x) now = Defines (Ok (seen x)) × IsAtEnd left now
Reads seen Defines left (Err (error.Refused refusal)) now = Defines (Err refusal)
Reads seen Defines left (Err error.SourceFailed) now = Unit {0}
Reads seen Defines left (Err error.OutOfMemory) now = Unit {0}

-- bytes define this plan or this refusal; where the source tells, they are all that it had left
pub record Defines (crew : Crew) (turns : ℕ) (left : Option (List ℕ)) (judged : Result Plan Refusal) : Type 0 where
  pub bytes : List ℕ
  pub all : Tells left bytes
  pub is : judge_plan crew turns bytes ≡ judged

-- lines are judged so; and where the source tells, so are those of what waits and of what it has left
pub record AreJudged {A : Type 0} (judge : List (List ℕ) → Result A Refusal) (waiting : List ℕ) (left : Option (List ℕ)) (judged : Result A Refusal) : Type 0 where
  pub lines : List (List ℕ)
  pub plain : All HasNoFeed lines
  pub some : judge lines ≡ judged
  pub all : (bytes : List ℕ) → left ≡ Some bytes → judge (lines_of (waiting ++ bytes)) ≡ judged

-- the orders of the lines that were taken: in their ranges, turn after turn, and none of a turn above the last
pub record AreTaken (orders : List Order) (last : ℕ) : Type 0 where
  pub fit : All (λ o. FitsCommand o.command) orders
  pub rising : Rises 1 orders
  pub low : All (λ o. o.turn ≤ last) orders
  pub some : 1 ≤ last

-- a line that is taken leads to what stands then, and is one of those that there may be; one that is refused, to its refusal
abbrev pub TakesLine : {A : Type 0} → ℕ → Result A Refusal → Result A Refusal → Option Refusal → Type 0
TakesLine n before after None = (before ≡ after) × (n ≤ most_lines)
TakesLine n before after (Some refusal) = before ≡ Err refusal
