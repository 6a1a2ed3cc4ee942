-- What a primary answers about names: by the entries that it reported committed, and by no others.
use Rattle.std.specs.Prelude.{◌≡◌, ℕ, ◌==◌, Bool, true, false, List, [], ◌∷◌, take, Option, Some, None, Result, Ok, Err, if◌then◌else◌}
use Rattle.std.specs.FinMap.{get}
use Rattle.ring_points.specs.declared.interval.Interval.{Interval}
use Rattle.fabric_terms.specs.declared.report.Report.{Report}
use Rattle.fabric_terms.specs.declared.report.Report.TheVariants as report
use Rattle.fabric_terms.specs.declared.report.Reason.{Reason}
use Rattle.fabric_terms.specs.declared.report.Reason.TheVariants as reason
use Rattle.fabric_terms.specs.declared.report.Verb.{Verb}
use Rattle.fabric_terms.specs.declared.report.Verb.TheVariants as verb
use Rattle.name_rules.specs.Names.{NameMap, names_of, name_list}
use Rattle.unit_rules.specs.Deeds.{Tell, Acted, acted, refuse}
use Rattle.unit_rules.specs.ReplicaStates.{ReplicationProgress, ReplicaState}
use Rattle.unit_rules.specs.Progress.{progress_of, reported_of}

-- how many entries of the log an answer rests on, or why there is none: only the primary answers, and only once it has reported
-- a commit since its activation
abbrev pub ready : Option ReplicationProgress → Result ℕ Reason
ready None = Err reason.NotPrimary
ready (Some l) = if reported_of l == 0 then Err reason.NotReady else Ok (reported_of l)

-- a question about the names that these entries leave
abbrev pub answered : Verb → (NameMap → Report) → ReplicaState → Result ℕ Reason → Acted ReplicaState
answered question answer s (Err why) = refuse question why s
answered question answer s (Ok count) = acted s (Tell (answer (names_of (take count s.replica.log))) ∷ [])

-- Resolve: what the name stands for.

abbrev pub resolved : ℕ → List ℕ → Option (List ℕ) → Report
resolved partition name None = report.Unresolved partition name
resolved partition name (Some value) = report.Resolved partition name value

abbrev pub resolution : ℕ → List ℕ → NameMap → Report
resolution partition name names = resolved partition name (get names name)

unfoldable pub resolve_commanded : List ℕ → ReplicaState → Acted ReplicaState
resolve_commanded name s = answered verb.Resolve (resolution s.replica.partition name) s (ready (progress_of s))

-- Names: the first names with a point in the range.

abbrev pub listing : ℕ → Interval → NameMap → Report
listing partition range names = report.NameList partition (name_list names range)

unfoldable pub names_commanded : Interval → ReplicaState → Acted ReplicaState
names_commanded range s = answered verb.Names (listing s.replica.partition range) s (ready (progress_of s))

-- Either command tells one report and does nothing else: it moves no replica, and records and sends nothing.

abbrev pub is_answer : Report → Bool
is_answer (report.Resolved partition name value) = true
is_answer (report.Unresolved partition name) = true
is_answer (report.NameList partition names) = true
is_answer (report.Refused question why) = true
is_answer _ = false

pub record OnlyAnswers (s : ReplicaState) (a : Acted ReplicaState) : Type 0 where
  pub told : Report
  pub is : a ≡ acted s (Tell told ∷ [])
  pub answers : is_answer told ≡ true
