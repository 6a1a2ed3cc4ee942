-- The first word says which report it is.
use Rattle.std.proofs.Common.{◌≡◌, ℕ, List, ◌++◌, Some, refl}
use Rattle.std.specs.Prelude.{codes}
use Rattle.fabric_terms.specs.declared.report.Report.TheVariants.{LeftRing, Stopped, UnitList}
use Rattle.text_fields.specs.Fields.{after_word, last, made}
use Rattle.text_fields.specs.Points.{point_at}
use Rattle.line_format.specs.Refusals.{why_of}
use Rattle.line_format.specs.Readers.{flight_of, gave_made, took_made, returned_made, tookover_of, move_of, accused_of, discharged_of, heir_of, peer_report_of, own_of, found_of, nowhere_made, ring_report_of, entry_of, adopted_made, accepted_made, committed_made, entry_report_of, in_epoch, promised_made, primary_made, configured_made, superseded_made, manager_report_of, unit_report_of, named_of, resolved_made, name_list_of, unresolved_of, refused_of, plain_report_of, report_of}
use Rattle.line_format.specs.Lists.{partitions_of}

pub at_own : (words : List ℕ) → report_of (codes "own " ++ words) ≡ own_of words
unfolding report_of plain_report_of unit_report_of manager_report_of entry_report_of ring_report_of after_word
at_own words = refl

pub at_accused : (words : List ℕ) → report_of (codes "accused " ++ words) ≡ accused_of words
unfolding report_of plain_report_of unit_report_of manager_report_of entry_report_of ring_report_of peer_report_of after_word
at_accused words = refl

pub at_discharged : (words : List ℕ) → report_of (codes "discharged " ++ words) ≡ discharged_of words
unfolding report_of plain_report_of unit_report_of manager_report_of entry_report_of ring_report_of peer_report_of after_word
at_discharged words = refl

pub at_heir : (words : List ℕ) → report_of (codes "heir " ++ words) ≡ heir_of words
unfolding report_of plain_report_of unit_report_of manager_report_of entry_report_of ring_report_of peer_report_of after_word
at_heir words = refl

pub at_left : (words : List ℕ) → report_of (codes "left " ++ words) ≡ made LeftRing why_of words
unfolding report_of plain_report_of unit_report_of manager_report_of entry_report_of ring_report_of after_word
at_left words = refl

pub at_found : (words : List ℕ) → report_of (codes "found " ++ words) ≡ found_of words
unfolding report_of plain_report_of unit_report_of manager_report_of entry_report_of ring_report_of after_word
at_found words = refl

pub at_nowhere : (words : List ℕ) → report_of (codes "nowhere " ++ words) ≡ made nowhere_made (last point_at) words
unfolding report_of plain_report_of unit_report_of manager_report_of entry_report_of ring_report_of after_word
at_nowhere words = refl

pub at_tookover : (words : List ℕ) → report_of (codes "tookover " ++ words) ≡ tookover_of words
unfolding report_of plain_report_of unit_report_of manager_report_of entry_report_of ring_report_of peer_report_of move_of after_word
at_tookover words = refl

pub at_gave : (words : List ℕ) → report_of (codes "gave " ++ words) ≡ made gave_made flight_of words
unfolding report_of plain_report_of unit_report_of manager_report_of entry_report_of ring_report_of peer_report_of move_of after_word
at_gave words = refl

pub at_took : (words : List ℕ) → report_of (codes "took " ++ words) ≡ made took_made flight_of words
unfolding report_of plain_report_of unit_report_of manager_report_of entry_report_of ring_report_of peer_report_of move_of after_word
at_took words = refl

pub at_returned : (words : List ℕ) → report_of (codes "returned " ++ words) ≡ made returned_made flight_of words
unfolding report_of plain_report_of unit_report_of manager_report_of entry_report_of ring_report_of peer_report_of move_of after_word
at_returned words = refl

pub at_promised : (words : List ℕ) → report_of (codes "promised " ++ words) ≡ made promised_made in_epoch words
unfolding report_of plain_report_of unit_report_of after_word
at_promised words = refl

pub at_primary : (words : List ℕ) → report_of (codes "primary " ++ words) ≡ made primary_made in_epoch words
unfolding report_of plain_report_of unit_report_of after_word
at_primary words = refl

pub at_configured : (words : List ℕ) → report_of (codes "configured " ++ words) ≡ made configured_made in_epoch words
unfolding report_of plain_report_of unit_report_of manager_report_of after_word
at_configured words = refl

pub at_superseded : (words : List ℕ) → report_of (codes "superseded " ++ words) ≡ made superseded_made in_epoch words
unfolding report_of plain_report_of unit_report_of manager_report_of after_word
at_superseded words = refl

pub at_adopted : (words : List ℕ) → report_of (codes "adopted " ++ words) ≡ made adopted_made entry_of words
unfolding report_of plain_report_of unit_report_of manager_report_of entry_report_of after_word
at_adopted words = refl

pub at_accepted : (words : List ℕ) → report_of (codes "accepted " ++ words) ≡ made accepted_made entry_of words
unfolding report_of plain_report_of unit_report_of manager_report_of entry_report_of after_word
at_accepted words = refl

pub at_committed : (words : List ℕ) → report_of (codes "committed " ++ words) ≡ made committed_made entry_of words
unfolding report_of plain_report_of unit_report_of manager_report_of entry_report_of after_word
at_committed words = refl

pub at_units : (words : List ℕ) → report_of (codes "units " ++ words) ≡ made UnitList partitions_of words
unfolding report_of after_word
at_units words = refl

pub at_resolved : (words : List ℕ) → report_of (codes "resolved " ++ words) ≡ made resolved_made named_of words
unfolding report_of after_word
at_resolved words = refl

pub at_names : (words : List ℕ) → report_of (codes "names " ++ words) ≡ name_list_of words
unfolding report_of after_word
at_names words = refl

pub at_unresolved : (words : List ℕ) → report_of (codes "unresolved " ++ words) ≡ unresolved_of words
unfolding report_of plain_report_of after_word
at_unresolved words = refl

pub at_refused : (words : List ℕ) → report_of (codes "refused " ++ words) ≡ refused_of words
unfolding report_of plain_report_of after_word
at_refused words = refl

pub at_stopped : report_of (codes "stopped") ≡ Some Stopped
unfolding report_of plain_report_of unit_report_of manager_report_of entry_report_of ring_report_of after_word
at_stopped = refl
