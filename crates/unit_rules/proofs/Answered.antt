-- Questions about names are answered, and nothing else is done.
use Rattle.std.specs.Prelude.{◌≡◌, refl, ℕ, true, List, take, Option, Some, None, Result, Ok, Err}
use Rattle.std.specs.FinMap.{get}
use Rattle.fabric_terms.specs.declared.report.Report.{Report}
use Rattle.fabric_terms.specs.declared.report.Report.TheVariants as report
use Rattle.fabric_terms.specs.declared.report.Reason.{Reason}
use Rattle.fabric_terms.specs.declared.report.Verb.{Verb}
use Rattle.fabric_terms.specs.declared.report.Verb.TheVariants as verb
use Rattle.ring_points.specs.declared.interval.Interval.{Interval}
use Rattle.name_rules.specs.Names.{NameMap, names_of}
use Rattle.unit_rules.specs.Answers.{ready, answered, resolved, resolution, listing, resolve_commanded, names_commanded, is_answer, OnlyAnswers}
use Rattle.unit_rules.specs.Progress.{progress_of}
use Rattle.unit_rules.specs.ReplicaStates.{ReplicaState}

module _ (question : Verb) (answer : NameMap → Report) (each : (names : NameMap) → is_answer (answer names) ≡ true) (s : ReplicaState) where
  only_answers : (count : Result ℕ Reason) → OnlyAnswers s (answered question answer s count)
  only_answers (Err why) = record { told = report.Refused question why; is = refl; answers = refl }
  only_answers (Ok count) =
      record { told = answer (names_of (take count s.replica.log)); is = refl; answers = each (names_of (take count s.replica.log)) }

resolved_answers : (partition : ℕ) (name : List ℕ) (o : Option (List ℕ)) → is_answer (resolved partition name o) ≡ true
resolved_answers partition name None = refl
resolved_answers partition name (Some value) = refl

pub resolve_only_answers : (name : List ℕ) (s : ReplicaState) → OnlyAnswers s (resolve_commanded name s)
unfolding resolve_commanded
resolve_only_answers name s =
    only_answers verb.Resolve (resolution s.replica.partition name) (λ names. resolved_answers s.replica.partition name (get names name)) s (ready (progress_of s))

pub names_only_answer : (range : Interval) (s : ReplicaState) → OnlyAnswers s (names_commanded range s)
unfolding names_commanded
names_only_answer range s = only_answers verb.Names (listing s.replica.partition range) (λ names. refl) s (ready (progress_of s))
