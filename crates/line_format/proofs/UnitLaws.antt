-- What a replica or a manager tells of its partition, and of its names, is read exactly where it is spelled.
use Rattle.std.proofs.Common.{ℕ, List, [], ◌++◌, Option, refl}
use Rattle.std.specs.Prelude.{codes, decimal}
use Rattle.ring_points.specs.Limits.{most_name_value}
use Rattle.fabric_terms.specs.declared.report.Report.{Report}
use Rattle.fabric_terms.specs.declared.report.Report.TheVariants.{UnitList, Unresolved, NameList, Refused}
use Rattle.fabric_terms.specs.Ranges.{IsWord, IsEpoch, IsPartition, IsName, IsNameValue, FitsReport}
use Rattle.ring_points.specs.declared.unit.Epoch.{Epoch}
use Rattle.text_fields.specs.Epochs.{epoch_at, epoch_text}
use Rattle.text_fields.specs.Fields.{last, made}
use Rattle.text_fields.specs.Inverses.{IsRest}
use Rattle.text_fields.proofs.EpochLaws.{epoch_is}
use Rattle.text_fields.proofs.FieldLaws.{last_is}
use Rattle.text_fields.proofs.NumberLaws.{word_number_is}
use Rattle.text_fields.proofs.RestLaws.{headed_found, followed_found, both_are, made_found}
use Rattle.line_format.specs.Readers.{ring_report_of, entry_of, adopted_made, accepted_made, committed_made, entry_report_of, in_epoch, promised_made, primary_made, configured_made, superseded_made, manager_report_of, unit_report_of, named_of, resolved_made, name_list_of, unresolved_of, refused_of, plain_report_of, report_of}
use Rattle.line_format.specs.Lists.{partitions_of, names_of}
use Rattle.line_format.specs.Reports.{report_text}
use Rattle.line_format.proofs.CommandLaws.{text_is}
use Rattle.line_format.proofs.CountLaws.{partition_is}
use Rattle.line_format.proofs.ListLaws.{partitions_are, names_are}
use Rattle.line_format.proofs.NameLaws.{name_is, last_name_is}
use Rattle.line_format.proofs.RefusalLaws.{verb_is, reason_is}
use Rattle.line_format.proofs.RingLaws.{IsReport, or_behind, ring_report_found}

pub last_epoch_is : IsRest (last epoch_at) IsEpoch epoch_text
last_epoch_is = last_is epoch_is tt

abbrev FitsEntry : ℕ × (Epoch × ℕ) → Type 0
FitsEntry e = IsPartition e.0 × (IsEpoch e.1.0 × IsWord e.1.1)

abbrev pub entry_text : ℕ × (Epoch × ℕ) → List ℕ
entry_text e = decimal e.0 ++ (codes " " ++ (epoch_text e.1.0 ++ (codes " " ++ decimal e.1.1)))

pub entry_is : IsRest entry_of FitsEntry entry_text
unfolding entry_of
entry_is = both_are partition_is (both_are epoch_is (last_is word_number_is tt) (λ _. refl)) (λ _. refl)

adopted_found : IsReport (codes "adopted ") (made adopted_made entry_of)
adopted_found = made_found entry_is FitsReport report_text (codes "adopted ") adopted_made (λ e h. ((h.0, h.1.0, h.1.1), refl))

accepted_found : IsReport (codes "accepted ") (made accepted_made entry_of)
accepted_found = made_found entry_is FitsReport report_text (codes "accepted ") accepted_made (λ e h. ((h.0, h.1.0, h.1.1), refl))

committed_found : IsReport (codes "committed ") (made committed_made entry_of)
committed_found = made_found entry_is FitsReport report_text (codes "committed ") committed_made (λ e h. ((h.0, h.1.0, h.1.1), refl))

abbrev FitsEpoch : ℕ × Epoch → Type 0
FitsEpoch e = IsPartition e.0 × IsEpoch e.1

abbrev pub in_epoch_text : ℕ × Epoch → List ℕ
in_epoch_text e = decimal e.0 ++ (codes " " ++ epoch_text e.1)

pub in_epoch_is : IsRest in_epoch FitsEpoch in_epoch_text
unfolding in_epoch
in_epoch_is = both_are partition_is last_epoch_is (λ _. refl)

promised_found : IsReport (codes "promised ") (made promised_made in_epoch)
promised_found = made_found in_epoch_is FitsReport report_text (codes "promised ") promised_made (λ e h. (h, refl))

primary_found : IsReport (codes "primary ") (made primary_made in_epoch)
primary_found = made_found in_epoch_is FitsReport report_text (codes "primary ") primary_made (λ e h. (h, refl))

configured_found : IsReport (codes "configured ") (made configured_made in_epoch)
configured_found = made_found in_epoch_is FitsReport report_text (codes "configured ") configured_made (λ e h. (h, refl))

superseded_found : IsReport (codes "superseded ") (made superseded_made in_epoch)
superseded_found = made_found in_epoch_is FitsReport report_text (codes "superseded ") superseded_made (λ e h. (h, refl))

entry_report_found : IsReport [] entry_report_of
unfolding entry_report_of
entry_report_found =
    or_behind (codes "adopted ") (made adopted_made entry_of) _ adopted_found (
    or_behind (codes "accepted ") (made accepted_made entry_of) _ accepted_found (
    or_behind (codes "committed ") (made committed_made entry_of) ring_report_of committed_found ring_report_found
    )
    )

manager_report_found : IsReport [] manager_report_of
unfolding manager_report_of
manager_report_found =
    or_behind (codes "configured ") (made configured_made in_epoch) _ configured_found (
    or_behind (codes "superseded ") (made superseded_made in_epoch) entry_report_of superseded_found entry_report_found
    )

unit_report_found : IsReport [] unit_report_of
unfolding unit_report_of
unit_report_found =
    or_behind (codes "promised ") (made promised_made in_epoch) _ promised_found (
    or_behind (codes "primary ") (made primary_made in_epoch) manager_report_of primary_found manager_report_found
    )

abbrev FitsNamed : ℕ × (List ℕ × List ℕ) → Type 0
FitsNamed r = IsPartition r.0 × (IsName r.1.0 × IsNameValue r.1.1)

abbrev pub named_text : ℕ × (List ℕ × List ℕ) → List ℕ
named_text r = decimal r.0 ++ (codes " " ++ (r.1.0 ++ (codes " " ++ r.1.1)))

pub named_is : IsRest named_of FitsNamed named_text
unfolding named_of
named_is = both_are partition_is (both_are name_is (text_is 1 most_name_value) (λ _. refl)) (λ _. refl)

resolved_found : IsReport (codes "resolved ") (made resolved_made named_of)
resolved_found = made_found named_is FitsReport report_text (codes "resolved ") resolved_made (λ r h. ((h.0, h.1.0, h.1.1), refl))

unresolved_found : IsReport (codes "unresolved ") unresolved_of
unfolding unresolved_of
unresolved_found = followed_found partition_is last_name_is FitsReport report_text (codes "unresolved ") Unresolved (λ p n a b. ((a, b), refl))

units_found : IsReport (codes "units ") (made UnitList partitions_of)
units_found = made_found partitions_are FitsReport report_text (codes "units ") UnitList (λ ps h. (h, refl))

abbrev pub names_behind : ℕ → List ℕ → Option Report
names_behind p = made (NameList p) names_of

names_found : IsReport (codes "names ") name_list_of
unfolding name_list_of
names_found =
    headed_found partition_is FitsReport report_text (codes "names ") names_behind
    (λ p fits. made_found names_are FitsReport report_text (codes "names " ++ decimal p) (NameList p) (λ names h. ((fits, h.0, h.1), refl)))

refused_found : IsReport (codes "refused ") refused_of
unfolding refused_of
refused_found = followed_found verb_is reason_is FitsReport report_text (codes "refused ") Refused (λ v r a b. (b, refl))

plain_report_found : IsReport [] plain_report_of
unfolding plain_report_of
plain_report_found =
    or_behind (codes "unresolved ") unresolved_of _ unresolved_found (
    or_behind (codes "refused ") refused_of unit_report_of refused_found unit_report_found
    )

pub report_found : IsReport [] report_of
unfolding report_of
report_found =
    or_behind (codes "units ") (made UnitList partitions_of) _ units_found (
    or_behind (codes "resolved ") (made resolved_made named_of) _ resolved_found (
    or_behind (codes "names ") name_list_of plain_report_of names_found plain_report_found
    )
    )
