use Rattle.std.proofs.Common.{◌≡◌, ℕ, List, [], filter, map, take, codes, refl, ap, sym, ◌∙◌}
use Rattle.text_fields.specs.Fields.{after_word}
use Rattle.std.specs.FinMap as finite
use Rattle.std.specs.FinMap.{put}
use Rattle.name_rules.specs.Grammar.{change_of}
use Rattle.ring_points.specs.declared.interval.Interval.{Interval}
use Rattle.name_rules.specs.Names.{NameMap, is_within, name_cmp, point_of}
use Rattle.name_rules.proofs.Order.{name_total}
use Rattle.name_rules.proofs.Ordered.{entries_are, nothing_stored}
use Rattle.name_rules.proofs.worked.worked_names.Goals as goal

pub returns-clause-point : goal.returns-clause-point
unfolding point_of
returns-clause-point c = refl

pub returns-clause-nothing : goal.returns-clause-nothing
unfolding point_of
returns-clause-nothing c = refl

pub returns-clause-changes : goal.returns-clause-changes
unfolding change_of after_word
returns-clause-changes c = record { set = refl; blanks = refl; named_set = refl; deleted = refl; sign = refl }

pub returns-clause-none : goal.returns-clause-none
unfolding change_of after_word
returns-clause-none c = record { no_value = refl; empty_value = refl; no_name = refl; comma = refl; more = refl; nothing = refl; other = refl }

pub returns-clause-deleted : goal.returns-clause-deleted
unfolding change_of after_word point_of
returns-clause-deleted c =
    let a : List ℕ = codes "a" in
    let set : NameMap = finite.insert finite.empty a (codes "7") in
    record {
      gone = finite.get-remove name_total set a a;
      again = finite.get-insert name_total (finite.remove set a) a (codes "8") a;
      prefix = finite.get-insert name_total finite.empty (codes "ab") (codes "7") a ∙ finite.get-empty name_cmp a;
    }

pub returns-clause-listed : goal.returns-clause-listed
unfolding change_of after_word point_of
returns-clause-listed c =
    let range : Interval = record { lo = 12638187200555641996; hi = 12638190499090526629 } in
    let one : NameMap = finite.insert finite.empty (codes "b") (codes "1") in
    let two : NameMap = finite.insert one (codes "a") (codes "2") in
    let none : finite.entries finite.empty ≡ [] = ap finite.entries (sym nothing_stored) ∙ entries_are [] refl in
    let first : finite.entries one ≡ put name_cmp (codes "b") (codes "1") [] = finite.entries-insert name_total finite.empty (codes "b") (codes "1") ∙ ap (put name_cmp (codes "b") (codes "1")) none in
    let second : finite.entries two ≡ put name_cmp (codes "a") (codes "2") (put name_cmp (codes "b") (codes "1") []) = finite.entries-insert name_total one (codes "a") (codes "2") ∙ ap (put name_cmp (codes "a") (codes "2")) first in
    let third = finite.entries-insert name_total two (codes "zz") (codes "3") ∙ ap (put name_cmp (codes "zz") (codes "3")) second in
    ap (λ es. take 64 (filter (is_within range) (map (λ e. e.0) es))) third
