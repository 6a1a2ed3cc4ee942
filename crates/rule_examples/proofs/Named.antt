-- The examples of names: what maps of names have is looked up by its laws, all else is computed.
use Rattle.std.proofs.Common.{◌≡◌, ℕ, List, [], ◌∷◌, Some, None, filter, map, take, codes, refl, ap, sym, ◌∙◌}
use Rattle.std.specs.FinMap as finite
use Rattle.std.specs.FinMap.{put}
use Rattle.fabric_terms.specs.declared.report.Report.TheVariants as report
use Rattle.ring_points.specs.declared.interval.Interval.{Interval}
use Rattle.rule_examples.specs.Lines.{interval}
use Rattle.name_rules.specs.Names.{NameMap, is_within, name_cmp, names_of}
use Rattle.name_rules.proofs.Order.{name_total}
use Rattle.name_rules.proofs.Ordered.{entries_are, nothing_stored}
use Rattle.unit_rules.specs.Answers.{resolved}
use Rattle.unit_rules.specs.Deeds.{Tell, acted}
use Rattle.rule_examples.specs.Names.{AsksTooEarly, NamesAnswered, SetsAName, naming, said}
use Rattle.rule_examples.proofs.Computed.{all_rules}

abbrev a : List ℕ
a = codes "a"

abbrev b : List ℕ
b = codes "b"

-- the names that the first entries leave

abbrev one_name : NameMap
one_name = finite.insert finite.empty a (codes "7")

abbrev two_names : NameMap
two_names = finite.insert one_name b (codes "8")

first_is : names_of (said 1 (codes "set a 7") ∷ []) ≡ one_name
unfolding all_rules
first_is = refl

first_found : finite.get one_name a ≡ Some (codes "7")
unfolding all_rules
first_found = finite.get-insert name_total finite.empty a (codes "7") a

second_missing : finite.get one_name b ≡ None
unfolding all_rules
second_missing = finite.get-insert name_total finite.empty a (codes "7") b ∙ finite.get-empty name_cmp b

first_deleted : finite.get (finite.remove two_names a) a ≡ None
unfolding all_rules
first_deleted = finite.get-remove name_total two_names a a

one_stored : finite.entries one_name ≡ (a, codes "7") ∷ []
unfolding all_rules
one_stored =
    let none : finite.entries finite.empty ≡ [] = ap finite.entries (sym nothing_stored) ∙ entries_are [] refl in
    finite.entries-insert name_total finite.empty a (codes "7") ∙ ap (put name_cmp a (codes "7")) none

both_stored : finite.entries two_names ≡ (a, codes "7") ∷ (b, codes "8") ∷ []
unfolding all_rules
both_stored = finite.entries-insert name_total one_name b (codes "8") ∙ ap (put name_cmp b (codes "8")) one_stored

abbrev listed : Interval → List (List ℕ × List ℕ) → List (List ℕ)
listed range es = take 64 (filter (is_within range) (map (λ e. e.0) es))

abbrev whole : Interval
whole = interval 0 18446744073709551615

pub a_primary_answers : NamesAnswered
unfolding all_rules
a_primary_answers = record {
  first = ap (λ v. acted (naming 1) (Tell (resolved 1 a v) ∷ [])) first_found;
  uncommitted = ap (λ v. acted (naming 1) (Tell (resolved 1 b v) ∷ [])) second_missing;
  deleted = ap (λ v. acted (naming 3) (Tell (resolved 1 a v) ∷ [])) first_deleted;
  both = ap (λ es. acted (naming 2) (Tell (report.NameList 1 (listed whole es)) ∷ [])) both_stored;
  one = ap (λ es. acted (naming 2) (Tell (report.NameList 1 (listed (interval 0 12638187200555641996) es)) ∷ [])) both_stored;
  none = ap (λ es. acted (naming 2) (Tell (report.NameList 1 (listed (interval 0 5) es)) ∷ [])) both_stored;
  not_ready = refl;
  not_listed = refl;
  elsewhere = refl;
  promised_away = refl;
}

pub asks_too_early : AsksTooEarly
unfolding all_rules
asks_too_early = refl

pub sets_a_name : SetsAName
unfolding all_rules
sets_a_name = record {
  printed = refl;
  found = ap (λ v. Tell (resolved 1 a v) ∷ []) first_found;
  missing = ap (λ v. Tell (resolved 1 b v) ∷ []) second_missing;
  listed = ap (λ es. Tell (report.NameList 1 (listed (interval 11529215046068469760 13835058055282163711) es)) ∷ []) one_stored;
  elsewhere = refl;
}
