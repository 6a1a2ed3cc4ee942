-- A deed, as it is told.
use Rattle.std.specs.Prelude.{◌≡◌, ℕ, Option, map}
use Rattle.client_sessions.specs.Sessions.{Step, prepared_by}
use Rattle.fire_pace.specs.News.{Step as PacedStep}
use Rattle.ring_points.specs.declared.point.Point.{Point}
use Rattle.ring_rules.specs.declared.input.Input.{Input}
use Rattle.serve_rules.specs.Served.{Served}
use Rattle.serve_turns.specs.Live.{Keeps, Live}
use Rattle.turn_members.specs.Members.{seen}
use Rattle.turn_members.specs.declared.deed.Deed.{Deed}

abbrev pub told_of : Deed → Option Input → Option Point → Step
told_of deed i sought = record { head = deed.head; prepared = prepared_by i; reports = deed.outcome.reports; sought = sought }

-- as its firings are paced, in the turn of this reading
abbrev pub paced_of : Deed → Input → ℕ → PacedStep
paced_of deed i now = record { input = i; told = deed.outcome.reports; reading = now }

-- the code has what the definition has, its actor too
pub record Shows (v : Served) (l : Live) : Type 0 where
  pub keeps : Keeps v l
  pub members : v.process.members ≡ map seen l.run.members
  pub last : v.process.last ≡ l.run.last
