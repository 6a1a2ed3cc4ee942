-- A running program, as its code has it.
use Rattle.std.specs.Prelude.{◌≡◌, ◌≤◌, ℕ, List, ◌∷◌, Option, Some, None, IfSome, length, map, slice_get}
use Rattle.edge_io.specs.Arrivals.{IsListening}
use Rattle.edge_io.specs.declared.endpoint.Endpoint.{Endpoint}
use Rattle.fabric_terms.specs.Ranges.{most}
use Rattle.fabric_terms.specs.declared.record.Record.{Record}
use Rattle.keep_log.specs.declared.kept.Kept.{Kept}
use Rattle.edge_io.specs.Told.{Told}
use Rattle.ring_rules.specs.declared.input.Input.{Input}
use Rattle.turn_members.specs.Members.{IsKept, IsOf, seen}
use Rattle.turn_members.specs.declared.member.Member.{Member}
use Rattle.turn_rules.specs.Effects.{Did, Stays}
use Rattle.turn_rules.specs.Handed.{Handed, failures_of}
use Rattle.turn_rules.specs.Happenings.{Happening, History}
use Rattle.turn_rules.specs.Order.{Goes, IsInOrderBy, Rows, TurnPosition}
use Rattle.turn_rules.specs.Plans.{IsPlan, Plan, Setting}
use Rattle.turn_rules.specs.Process.{Process, after, takes, acts, joins, clamped}
use Rattle.turn_rules.specs.Works.{works_of}

-- the actors by their places, and the last reading
pub record Run : Type 0 where
  pub members : List Member
  pub last : Option ℕ

-- the last reading that counts is the clock's last one, if there was one in this run
abbrev pub IsLast : Option ℕ → Option ℕ → Type 0
IsLast None last = Unit {0}
IsLast (Some reading) last = (told : ℕ) × (last ≡ Some told) × (reading ≡ clamped told)

-- each actor of the plan listens
abbrev pub AllListen : Plan → List Endpoint → Type 0
AllListen plan opened = (place : ℕ) (e : Endpoint) → slice_get plan.actors place ≡ Some e → IsListening e.actor opened

-- each actor that runs is that of the plan at its place
abbrev pub AreMembers : Plan → List Member → Type 0
AreMembers plan members = (place : ℕ) (m : Member) → slice_get members place ≡ Some m → (e : Endpoint) × ((slice_get plan.actors place ≡ Some e) × IsOf plan.config e.actor m)

-- the plan can be run, the actors that run are those of the plan, all of these listen, and the last reading counts
pub record IsReady (plan : Plan) (run : Run) (b : Told) : Type 0 where
  pub good : IsPlan plan
  pub members : AreMembers plan run.members
  pub listen : AllListen plan b.opened
  pub last : IfSome run.last (λ reading. reading ≤ most)

-- these are the records of the actor at the place, and this is what they amount to
pub record IsKeptAt (plan : Plan) (place : ℕ) (records : List Record) (kept : Kept) : Type 0 where
  pub endpoint : Endpoint
  pub named : slice_get plan.actors place ≡ Some endpoint
  pub is : IsKept endpoint.actor records kept

-- from this place on it is there what is kept of each actor
pub record AreKept (plan : Plan) (first : ℕ) (list : List (List Record)) (kept : List (Option Kept)) : Type 0 where
  pub all : length list ≡ length plan.actors
  pub many : length kept ≡ length plan.actors
  pub each : (place : ℕ) (records : List Record) → first ≤ place → slice_get list place ≡ Some records → (k : Kept) × ((slice_get kept place ≡ Some (Some k)) × IsKeptAt plan place records k)

-- what the code has is what the definition has after this
pub record Stands (s : Setting) (b : Told) (run : Run) (h : History) : Type 0 where
  pub on : (after s h).end ≡ None
  pub members : (after s h).members ≡ map seen run.members
  pub last : (after s h).last ≡ run.last
  pub clock : IsLast run.last b.last

-- Since the run began with a: this has come in an order by these rows, all of its steps are done, the run has not ended, and
-- this is the place.
pub record AtBy (may_go : Rows) (s : Setting) (a b : Told) (run : Run) (h : History) (p : TurnPosition) : Type 0 where
  pub order : IsInOrderBy may_go s.plan h p
  pub stands : Stands s b run h
  pub did : Did (works_of s.plan.config (after s h).steps) (failures_of h) a b
  pub handed : Handed s.plan h a b
  pub stays : Stays a b

-- x has come, all steps before it are done, and nothing of what it makes.
pub record CameBy (may_go : Rows) (s : Setting) (a b : Told) (h : History) (x : Happening) (p : TurnPosition) : Type 0 where
  pub order : IsInOrderBy may_go s.plan (x ∷ h) p
  pub on : (after s h).end ≡ None
  pub did : Did (works_of s.plan.config (after s h).steps) (failures_of (x ∷ h)) a b
  pub handed : Handed s.plan (x ∷ h) a b
  pub stays : Stays a b

pub record MeetsBy (may_go : Rows) (s : Setting) (a b : Told) (run : Run) (h : History) (x : Happening) (p : TurnPosition) : Type 0 where
  pub came : CameBy may_go s a b h x p
  pub stands : Stands s b run h

-- x is the start of the actor at the place, the clock having been read where it is a node
pub record MeetsStartBy (may_go : Rows) (s : Setting) (a b : Told) (run : Run) (h : History) (x : Happening) (p : TurnPosition) (place : ℕ) : Type 0 where
  pub came : CameBy may_go s a b h x p
  pub before : Process
  pub joins : after s (x ∷ h) ≡ joins s 0 place before
  pub on : before.end ≡ None
  pub members : before.members ≡ map seen run.members
  pub last : before.last ≡ run.last
  pub steps : before.steps ≡ (after s h).steps
  pub clock : IsLast run.last b.last
  pub next : length run.members ≡ place

-- the same of a run of its plan

abbrev pub At : Setting → Told → Told → Run → History → TurnPosition → Type 0
At = AtBy Goes

abbrev pub Came : Setting → Told → Told → History → Happening → TurnPosition → Type 0
Came = CameBy Goes

abbrev pub Meets : Setting → Told → Told → Run → History → Happening → TurnPosition → Type 0
Meets = MeetsBy Goes

abbrev pub MeetsStart : Setting → Told → Told → Run → History → Happening → TurnPosition → ℕ → Type 0
MeetsStart = MeetsStartBy Goes

-- x is this step of the actor at the place, in this turn
abbrev pub IsStep : Setting → History → Happening → ℕ → ℕ → Input → Type 0
IsStep s h x turn place i = takes s x.turn (after s h) x.place x.comes ≡ acts s turn (after s h) place i
