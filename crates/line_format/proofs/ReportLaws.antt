-- Each report's line is read exactly where it is spelled.
use Rattle.std.proofs.Common.{◌≡◌, ℕ, List, [], ◌∷◌, ◌++◌, Option, Some, refl, ap, subst, ◌∙◌}
use Rattle.std.specs.Prelude.{codes, decimal}
use Rattle.fabric_terms.specs.declared.report.Report.{Report}
use Rattle.fabric_terms.specs.declared.report.Report.TheVariants.{Own, Accused, Discharged, Heir, TookOver, Gave, Took, Returned, LeftRing, Stopped, Found, Nowhere, Promised, Adopted, Accepted, IsPrimary, Committed, Configured, Superseded, UnitList, Resolved, Unresolved, NameList, Refused}
use Rattle.fabric_terms.specs.Ranges.{IsWho, IsPartition, IsName, IsPoint, IsLong, IsOptional, AreRanges, FitsReason, FitsReport}
use Rattle.fabric_terms.specs.declared.report.Reason.{Reason}
use Rattle.fabric_terms.specs.declared.report.Verb.{Verb}
use Rattle.ring_points.specs.declared.point.Point.{Point}
use Rattle.ring_points.specs.declared.interval.Interval.{Interval}
use Rattle.ring_points.specs.declared.who.Who.{Who}
use Rattle.text_fields.specs.Fields.{both}
use Rattle.text_fields.specs.Instances.{who_text}
use Rattle.text_fields.specs.Intervals.{ranges_text}
use Rattle.text_fields.specs.Inverses.{EndsNumber}
use Rattle.text_fields.specs.Numbers.{optional_text}
use Rattle.text_fields.specs.Points.{point_text}
use Rattle.text_fields.proofs.FieldLaws.{last_is}
use Rattle.text_fields.proofs.InstanceLaws.{who_is}
use Rattle.text_fields.proofs.IntervalLaws.{ranges_is}
use Rattle.text_fields.proofs.NumberLaws.{long_is, optional_is}
use Rattle.text_fields.proofs.PointLaws.{point_is, last_point_is}
use Rattle.text_fields.proofs.RestLaws.{followed_again, made_again}
use Rattle.line_format.specs.Refusals.{why_text, verb_text, reason_text}
use Rattle.line_format.specs.Readers.{gave_made, took_made, returned_made, tookover_of, accused_of, discharged_of, heir_of, own_of, found_of, found_made, nowhere_made, adopted_made, accepted_made, committed_made, promised_made, primary_made, configured_made, superseded_made, resolved_made, name_list_of, unresolved_of, refused_of, report_of}
use Rattle.line_format.specs.Lists.{partitions_text, names_text}
use Rattle.line_format.specs.Reports.{report_text}
use Rattle.fabric_terms.specs.declared.report.Head.{Head}
use Rattle.fabric_terms.specs.Ranges.{FitsHead}
use Rattle.text_fields.specs.Fields.{◌>>=◌, Field}
use Rattle.text_fields.proofs.FieldLaws.{bind_some}
use Rattle.text_fields.proofs.Numbers.{some_same}
use Rattle.line_format.specs.Heads.{head_at, head_text}
use Rattle.line_format.specs.Readers.{line_of, ReportReadIsSpelled, SpelledReportIsRead}
use Rattle.line_format.specs.Reports.{report_words}
use Rattle.line_format.proofs.CountLaws.{partition_is}
use Rattle.line_format.proofs.HeadLaws.{head_found, head_again}
use Rattle.line_format.proofs.ListLaws.{AreNames, partitions_are, names_are}
use Rattle.line_format.proofs.NameLaws.{last_name_is}
use Rattle.line_format.proofs.RefusalLaws.{why_is, verb_is, reason_is}
use Rattle.line_format.proofs.RingLaws.{last_who_is, last_ranges_is, flight_text, flight_is}
use Rattle.line_format.proofs.UnitLaws.{in_epoch_text, in_epoch_is, entry_text, entry_is, named_text, named_is, names_behind, report_found}
use Rattle.line_format.proofs.Words.{at_own, at_accused, at_discharged, at_heir, at_left, at_found, at_nowhere, at_tookover, at_gave, at_took, at_returned, at_promised, at_primary, at_configured, at_superseded, at_adopted, at_accepted, at_committed, at_units, at_resolved, at_names, at_unresolved, at_refused, at_stopped}

name_list_again : (p : ℕ) (names : List (List ℕ)) → IsPartition p → AreNames names → name_list_of (decimal p ++ names_text names) ≡ Some (NameList p names)
unfolding name_list_of
name_list_again p names fits h =
    ap (λ (o : Field ℕ). o >>= λ p. names_behind p.0 p.1) (partition_is.again p (names_text names) fits (ends_names names))
    ∙ made_again names_are (NameList p) names h
  where
    ends_names : (names : List (List ℕ)) → EndsNumber (names_text names)
    ends_names [] = tt
    ends_names (n ∷ ns) = refl

own_again : (ranges : List Interval) (fence : Option ℕ) → AreRanges ranges → IsOptional fence
    → own_of (ranges_text ranges ++ (codes " " ++ optional_text fence)) ≡ Some (Own ranges fence)
unfolding own_of
own_again ranges fence h k = followed_again ranges_is (last_is optional_is tt) Own ranges fence refl h k

accused_again : (who : Who) → IsWho who → accused_of (who_text who) ≡ Some (Accused who)
unfolding accused_of
accused_again who h = made_again last_who_is Accused who h

discharged_again : (who : Who) → IsWho who → discharged_of (who_text who) ≡ Some (Discharged who)
unfolding discharged_of
discharged_again who h = made_again last_who_is Discharged who h

heir_again : (who : Who) (ripe : ℕ) → IsWho who → IsLong ripe → heir_of (who_text who ++ (codes " " ++ decimal ripe)) ≡ Some (Heir who ripe)
unfolding heir_of
heir_again who ripe h k = followed_again who_is (last_is long_is tt) Heir who ripe refl h k

tookover_again : (who : Who) (ranges : List Interval) → IsWho who → AreRanges ranges
    → tookover_of (who_text who ++ (codes " " ++ ranges_text ranges)) ≡ Some (TookOver who ranges)
unfolding tookover_of
tookover_again who ranges h k = followed_again who_is last_ranges_is TookOver who ranges refl h k

found_again : (key : Point) (who : Who) → IsPoint key.0 → IsWho who → found_of (point_text key.0 ++ (codes " " ++ who_text who)) ≡ Some (Found key who)
unfolding found_of
found_again key who h k = followed_again point_is last_who_is found_made key.0 who tt h k

unresolved_again : (p : ℕ) (name : List ℕ) → IsPartition p → IsName name → unresolved_of (decimal p ++ (codes " " ++ name)) ≡ Some (Unresolved p name)
unfolding unresolved_of
unresolved_again p name h k = followed_again partition_is last_name_is Unresolved p name refl h k

refused_again : (verb : Verb) (reason : Reason) → FitsReason reason
    → refused_of (verb_text verb ++ (codes " " ++ reason_text reason)) ≡ Some (Refused verb reason)
unfolding refused_of
refused_again verb reason h = followed_again verb_is reason_is Refused verb reason tt tt h

pub report_again : (r : Report) → FitsReport r → report_of (report_text r) ≡ Some r
report_again (Own ranges fence) h = at_own (ranges_text ranges ++ (codes " " ++ optional_text fence)) ∙ own_again ranges fence h.0 h.1
report_again (Accused who) h = at_accused (who_text who) ∙ accused_again who h
report_again (Discharged who) h = at_discharged (who_text who) ∙ discharged_again who h
report_again (Heir who ripe) h = at_heir (who_text who ++ (codes " " ++ decimal ripe)) ∙ heir_again who ripe h.0 h.1
report_again (TookOver who ranges) h = at_tookover (who_text who ++ (codes " " ++ ranges_text ranges)) ∙ tookover_again who ranges h.0 h.1
report_again (Gave who n ranges) h = at_gave (flight_text (who, (n, ranges))) ∙ made_again flight_is gave_made (who, (n, ranges)) (h.0, (h.1, h.2))
report_again (Took who n ranges) h = at_took (flight_text (who, (n, ranges))) ∙ made_again flight_is took_made (who, (n, ranges)) (h.0, (h.1, h.2))
report_again (Returned who n ranges) h = at_returned (flight_text (who, (n, ranges))) ∙ made_again flight_is returned_made (who, (n, ranges)) (h.0, (h.1, h.2))
report_again (LeftRing why) h = at_left (why_text why) ∙ made_again why_is LeftRing why tt
report_again Stopped h = at_stopped
report_again (Found key who) h = at_found (point_text key.0 ++ (codes " " ++ who_text who)) ∙ found_again key who h.0 h.1
report_again (Nowhere key) h = at_nowhere (point_text key.0) ∙ made_again last_point_is nowhere_made key.0 h
report_again (Promised p e) h = at_promised (in_epoch_text (p, e)) ∙ made_again in_epoch_is promised_made (p, e) h
report_again (Adopted p e n) h = at_adopted (entry_text (p, (e, n))) ∙ made_again entry_is adopted_made (p, (e, n)) (h.0, (h.1, h.2))
report_again (Accepted p e n) h = at_accepted (entry_text (p, (e, n))) ∙ made_again entry_is accepted_made (p, (e, n)) (h.0, (h.1, h.2))
report_again (IsPrimary p e) h = at_primary (in_epoch_text (p, e)) ∙ made_again in_epoch_is primary_made (p, e) h
report_again (Committed p e n) h = at_committed (entry_text (p, (e, n))) ∙ made_again entry_is committed_made (p, (e, n)) (h.0, (h.1, h.2))
report_again (Configured p e) h = at_configured (in_epoch_text (p, e)) ∙ made_again in_epoch_is configured_made (p, e) h
report_again (Superseded p e) h = at_superseded (in_epoch_text (p, e)) ∙ made_again in_epoch_is superseded_made (p, e) h
report_again (UnitList partitions) h = at_units (partitions_text partitions) ∙ made_again partitions_are UnitList partitions h
report_again (Resolved p name value) h = at_resolved (named_text (p, (name, value))) ∙ made_again named_is resolved_made (p, (name, value)) (h.0, (h.1, h.2))
report_again (Unresolved p name) h = at_unresolved (decimal p ++ (codes " " ++ name)) ∙ unresolved_again p name h.0 h.1
report_again (NameList p names) h = at_names (decimal p ++ names_text names) ∙ name_list_again p names h.0 (h.1, h.2)
report_again (Refused verb reason) h = at_refused (verb_text verb ++ (codes " " ++ reason_text reason)) ∙ refused_again verb reason h

abbrev Told : Type 0
Told = Head × Report

pub line_found : ReportReadIsSpelled
unfolding line_of
line_found line head r e =
    let told : Told = (head, r) in
    let h = bind_some (head_at line) (λ x. report_of x.1 >>= λ y. Some (both x.0 y)) told e in
    let w = bind_some (report_of h.0.1) (λ y. Some (both h.0.0 y)) told h.2 in
    let first = head_found line h.0 h.1 in
    let words = report_found h.0.1 w.0 w.1 in
    let read : Told = (h.0.0, w.0) in
    let P : Told → Type 0 = λ t. FitsHead t.0 × FitsReport t.1 × (line ≡ report_words t.0 t.1) in
    subst P {x = read} (some_same read told w.2) (first.0, words.0, first.1 ∙ ap (λ t. head_text h.0.0 ++ (codes " " ++ t)) words.1)

pub line_again : SpelledReportIsRead
unfolding line_of
line_again head r h fits =
    ap (λ (o : Field Head). o >>= λ x. report_of x.1 >>= λ y. Some (both x.0 y)) (head_again head (report_text r) h)
    ∙ ap (λ (o : Option Report). o >>= λ y. Some (both head y)) (report_again r fits)
