-- The groups of a transcript, and the run that they are.
use Rattle.std.specs.Prelude.{ℕ, ◌+◌, ◌<◌, Bool, true, nat_eq, List, [], ◌∷◌, ◌++◌, length, slice_index, Option, Some, None, option_map, find, Contains, IsSome}
use Rattle.ring_points.specs.declared.who.Who.{Who}
use Rattle.ring_points.specs.Whos.{same_who}
use Rattle.fabric_terms.specs.declared.report.Report.{Report}
use Rattle.fabric_terms.specs.Runs.{Clocks, Entry, Moment, Run}

-- the clocks at a LINE, who tells something in the group, and the reports
pub record Group : Type 0 where
  pub line : ℕ
  pub clocks : Clocks
  pub who : Option Who
  pub reports : List Report

abbrev pub group_from : ℕ → Clocks → Group
group_from line clocks = record { line = line; clocks = clocks; who = None; reports = [] }

abbrev pub with_report : Option Report → List Report → List Report
with_report None reports = reports
with_report (Some r) reports = reports ++ r ∷ []

-- the group with what w tells
abbrev pub grown : Who → Option Report → Group → Group
grown w report g = record g { who = Some w; reports = with_report report g.reports }

-- one instance alone tells something in a group
abbrev pub may_tell : Who → Option Who → Bool
may_tell w None = true
may_tell w (Some v) = same_who v w

abbrev pub group_at : ℕ → List Group → Option Group
group_at line groups = find (λ g. nat_eq line g.line) groups

-- a group that tells frames alone, or nothing, has no entry
abbrev pub entry_of : Option Who → List Report → Option Entry
entry_of None reports = None
entry_of (Some w) [] = None
entry_of (Some w) (r ∷ rs) = Some (record { who = w; reading = None; sent = (0, 0); reports = r ∷ rs })

-- a group as a run has it; nothing that is judged reads the true time, an actor's reading or its frames
abbrev pub moment_of : Group → Moment
moment_of g = record { line = g.line; time = 0; clocks = g.clocks; entry = entry_of g.who g.reports }

abbrev pub onto : {X : Type 0} → Option X → List X → List X
onto None xs = xs
onto (Some x) xs = x ∷ xs

-- the moments of these groups at these LINEs, as a run has them
abbrev pub run_along : List Group → List ℕ → Run
run_along groups [] = []
run_along groups (line ∷ lines) = onto (option_map moment_of (group_at line groups)) (run_along groups lines)

-- each LINE is below the next
abbrev pub Rise : List ℕ → Type 0
Rise lines = (k : ℕ) → k + 1 < length lines → slice_index lines k < slice_index lines (k + 1)

-- these are the LINEs of the groups, the least first
pub record AreLines (groups : List Group) (lines : List ℕ) : Type 0 where
  pub rise : Rise lines
  pub there : (line : ℕ) → Contains lines line → IsSome (group_at line groups)
  pub all : (line : ℕ) → IsSome (group_at line groups) → Contains lines line
