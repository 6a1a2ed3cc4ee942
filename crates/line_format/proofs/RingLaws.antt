-- What a node tells of the ring is read exactly where it is spelled.
use Rattle.std.proofs.Common.{ℕ, List, [], ◌++◌, Option, refl}
use Rattle.std.specs.Prelude.{codes, decimal}
use Rattle.fabric_terms.specs.declared.report.Report.{Report}
use Rattle.fabric_terms.specs.declared.report.Report.TheVariants.{Own, Accused, Discharged, Heir, TookOver, LeftRing, Stopped}
use Rattle.fabric_terms.specs.Ranges.{IsWord, IsWho, AreRanges, FitsReport}
use Rattle.ring_points.specs.declared.interval.Interval.{Interval}
use Rattle.ring_points.specs.declared.who.Who.{Who}
use Rattle.text_fields.specs.Fields.{whole_of, last, made, behind, nothing}
use Rattle.text_fields.specs.Instances.{who_at, who_text}
use Rattle.text_fields.specs.Intervals.{ranges_at, ranges_text}
use Rattle.text_fields.specs.Inverses.{IsRest}
use Rattle.text_fields.specs.Points.{point_at}
use Rattle.text_fields.proofs.FieldLaws.{last_is}
use Rattle.text_fields.proofs.InstanceLaws.{who_is}
use Rattle.text_fields.proofs.IntervalLaws.{ranges_is}
use Rattle.text_fields.proofs.NumberLaws.{word_number_is, long_is, optional_is}
use Rattle.text_fields.proofs.PointLaws.{point_is, last_point_is}
use Rattle.text_fields.proofs.RestLaws.{IsSpelled, found_behind, found_nothing, whole_found, followed_found, both_are, made_found}
use Rattle.line_format.specs.Refusals.{why_of}
use Rattle.line_format.specs.Readers.{flight_of, gave_made, took_made, returned_made, tookover_of, move_of, accused_of, discharged_of, heir_of, peer_report_of, own_of, found_of, found_made, nowhere_made, ring_report_of}
use Rattle.line_format.specs.Reports.{report_text}
use Rattle.line_format.proofs.RefusalLaws.{why_is}

abbrev pub IsReport : List ℕ → (List ℕ → Option Report) → Type 0
IsReport word reader = IsSpelled FitsReport report_text word reader

-- behind the word, or by the other reader
abbrev pub or_behind : (word : List ℕ) (reader other : List ℕ → Option Report) → IsReport word reader → IsReport [] other
    → IsReport [] (behind word reader other)
or_behind = found_behind FitsReport report_text []

pub last_who_is : IsRest (last who_at) IsWho who_text
last_who_is = last_is who_is tt

pub last_ranges_is : IsRest (last ranges_at) AreRanges ranges_text
last_ranges_is = last_is ranges_is tt

abbrev FitsFlight : Who × (ℕ × List Interval) → Type 0
FitsFlight f = IsWho f.0 × (IsWord f.1.0 × AreRanges f.1.1)

abbrev pub flight_text : Who × (ℕ × List Interval) → List ℕ
flight_text f = who_text f.0 ++ (codes " " ++ (decimal f.1.0 ++ (codes " " ++ ranges_text f.1.1)))

pub flight_is : IsRest flight_of FitsFlight flight_text
unfolding flight_of
flight_is = both_are who_is (both_are word_number_is last_ranges_is (λ _. refl)) (λ _. refl)

tookover_found : IsReport (codes "tookover ") tookover_of
unfolding tookover_of
tookover_found = followed_found who_is last_ranges_is FitsReport report_text (codes "tookover ") TookOver (λ w r a b. ((a, b), refl))

gave_found : IsReport (codes "gave ") (made gave_made flight_of)
gave_found = made_found flight_is FitsReport report_text (codes "gave ") gave_made (λ f h. ((h.0, h.1.0, h.1.1), refl))

took_found : IsReport (codes "took ") (made took_made flight_of)
took_found = made_found flight_is FitsReport report_text (codes "took ") took_made (λ f h. ((h.0, h.1.0, h.1.1), refl))

returned_found : IsReport (codes "returned ") (made returned_made flight_of)
returned_found = made_found flight_is FitsReport report_text (codes "returned ") returned_made (λ f h. ((h.0, h.1.0, h.1.1), refl))

move_found : IsReport [] move_of
unfolding move_of
move_found =
    or_behind (codes "tookover ") tookover_of _ tookover_found (
    or_behind (codes "gave ") (made gave_made flight_of) _ gave_found (
    or_behind (codes "took ") (made took_made flight_of) _ took_found (
    or_behind (codes "returned ") (made returned_made flight_of) nothing returned_found (found_nothing FitsReport report_text [])
    )
    )
    )

own_found : IsReport (codes "own ") own_of
unfolding own_of
own_found = followed_found ranges_is (last_is optional_is tt) FitsReport report_text (codes "own ") Own (λ r f a b. ((a, b), refl))

accused_found : IsReport (codes "accused ") accused_of
unfolding accused_of
accused_found = made_found last_who_is FitsReport report_text (codes "accused ") Accused (λ w h. (h, refl))

discharged_found : IsReport (codes "discharged ") discharged_of
unfolding discharged_of
discharged_found = made_found last_who_is FitsReport report_text (codes "discharged ") Discharged (λ w h. (h, refl))

heir_found : IsReport (codes "heir ") heir_of
unfolding heir_of
heir_found = followed_found who_is (last_is long_is tt) FitsReport report_text (codes "heir ") Heir (λ w r a b. ((a, b), refl))

left_found : IsReport (codes "left ") (made LeftRing why_of)
left_found = made_found why_is FitsReport report_text (codes "left ") LeftRing (λ w h. (tt, refl))

stopped_found : IsReport (codes "stopped") (whole_of Stopped)
stopped_found = whole_found FitsReport report_text (codes "stopped") Stopped tt refl

found_found : IsReport (codes "found ") found_of
unfolding found_of
found_found = followed_found point_is last_who_is FitsReport report_text (codes "found ") found_made (λ p w a b. ((a, b), refl))

nowhere_found : IsReport (codes "nowhere ") (made nowhere_made (last point_at))
nowhere_found = made_found last_point_is FitsReport report_text (codes "nowhere ") nowhere_made (λ p h. (h, refl))

peer_report_found : IsReport [] peer_report_of
unfolding peer_report_of
peer_report_found =
    or_behind (codes "accused ") accused_of _ accused_found (
    or_behind (codes "discharged ") discharged_of _ discharged_found (
    or_behind (codes "heir ") heir_of move_of heir_found move_found
    )
    )

pub ring_report_found : IsReport [] ring_report_of
unfolding ring_report_of
ring_report_found =
    or_behind (codes "own ") own_of _ own_found (
    or_behind (codes "left ") (made LeftRing why_of) _ left_found (
    or_behind (codes "stopped") (whole_of Stopped) _ stopped_found (
    or_behind (codes "found ") found_of _ found_found (
    or_behind (codes "nowhere ") (made nowhere_made (last point_at)) peer_report_of nowhere_found peer_report_found
    )
    )
    )
    )
