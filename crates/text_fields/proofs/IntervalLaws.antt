-- Intervals and ranges are read exactly where they are spelled.
use Rattle.std.proofs.Common.{◌≡◌, ℕ, ◌+◌, ◌^◌, ◌≤◌, ◌<◌, true, cond, ⊎_elim, List, [], ◌∷◌, ◌++◌, length, All, None, Some, arith, refl, ap, subst, ◌∙◌, ◌-◌}
use Rattle.std.specs.Prelude.{codes}
use Rattle.std.proofs.lemmas.List.Elements.{All-nil, All-cons}
use Rattle.std.proofs.lemmas.Bool.Decides.{nat_tests}
use Rattle.ring_points.specs.Limits.{most_intervals}
use Rattle.ring_points.specs.declared.interval.Interval.{Interval}
use Rattle.ring_points.specs.Ranges.{is_proper, fits, rises_from}
use Rattle.fabric_terms.specs.Ranges.{IsPoint, IsSpan, AreRanges}
use Rattle.text_fields.specs.Fields.{◌>>=◌, Field}
use Rattle.text_fields.specs.Inverses.{IsField, IsRest, EndsAnyhow, EndsList}
use Rattle.text_fields.specs.Intervals.{interval_made, interval_at, is_rising, span_of, interval_text, ranges_at, ranges_text}
use Rattle.text_fields.specs.Lists.{list_at}
use Rattle.text_fields.specs.Points.{point_at}
use Rattle.text_fields.proofs.FieldLaws.{both_true, bind_some, last_is, made_at_is, pair_is}
use Rattle.text_fields.proofs.ListLaws.{EndsWith, no_comma, list_is}
use Rattle.text_fields.proofs.Numbers.{chosen, some_same, none_found, within, not_above}
use Rattle.text_fields.proofs.PointLaws.{point_is}
use Rattle.text_fields.proofs.RestLaws.{such_that_is, refit}

abbrev IsInterval : Interval → Type 0
IsInterval i = IsPoint i.lo × IsPoint i.hi

pub interval_is : IsField interval_at IsInterval interval_text EndsAnyhow
unfolding interval_at
interval_is =
    made_at_is (pair_is point_is (codes "-") point_is (λ _. tt)) interval_made IsInterval interval_text
    (λ i h. (h, refl))
    (λ i h. ((i.lo, i.hi), h, refl))

pub span_is : IsRest span_of IsSpan interval_text
span_is =
    refit (such_that_is (last_is interval_is tt) is_rising)
    (λ i h. (h.0.0, h.0.1, within i.lo i.hi h.1))
    (λ i h. ((h.0, h.1), not_above i.lo i.hi h.2))

ends : EndsWith EndsAnyhow EndsList
ends = record { last = λ rest h. tt; no_comma = no_comma; comma = λ rest. tt }

no_dash : (rest : List ℕ) → interval_at (codes "-" ++ rest) ≡ None
unfolding interval_at point_at
no_dash rest = refl

-- the intervals of a range set are of points
rising_points : (low : ℕ) (ranges : List Interval) → rises_from low ranges ≡ true → All IsInterval ranges
rising_points low [] h = All-nil IsInterval
rising_points low (i ∷ is) h =
    let rising : (i.lo ≤ i.hi) × (i.hi < 2 ^ 64) × (rises_from (i.hi + 2) is ≡ true) = grind (arith, nat_tests) in
    All-cons IsInterval i is (omega (arith, rising.0, rising.1), rising.1) (rising_points (i.hi + 2) is rising.2)

AreIntervals : List Interval → Type 0
AreIntervals ranges = (length ranges ≤ most_intervals) × All IsInterval ranges

proper_intervals : (ranges : List Interval) → AreRanges ranges → AreIntervals ranges
unfolding AreIntervals
proper_intervals ranges h =
    let parts = both_true (fits ranges) (rises_from 0 ranges) h in
    (within (length ranges) most_intervals parts.0, rising_points 0 ranges parts.1)

intervals_are : IsField (list_at interval_at (most_intervals - 1)) AreIntervals ranges_text EndsList
unfolding AreIntervals
intervals_are = list_is interval_is ends no_dash (most_intervals - 1)

pub ranges_is : IsField ranges_at AreRanges ranges_text EndsList
unfolding ranges_at
ranges_is = record {
  found = λ bytes f e.
      let a = bind_some (list_at interval_at (most_intervals - 1) bytes) (λ x. cond (is_proper x.0) (Some x) None) f e in
      let r = intervals_are.found bytes a.0 a.1 in
      let P : List Interval × List ℕ → Type 0 = λ q. AreRanges q.0 × (bytes ≡ ranges_text q.0 ++ q.1) in
      ⊎_elim (λ yes. subst P (some_same a.0 f yes.1) (yes.0, r.1)) (λ no. absurd (none_found f no.1)) (chosen (is_proper a.0.0) (Some a.0) None (Some f) a.2);
  again = λ x rest h end.
      let read : List Interval × List ℕ = (x, rest) in
      ap (λ (o : Field (List Interval)). o >>= λ x. cond (is_proper x.0) (Some x) None) (intervals_are.again x rest (proper_intervals x h) end)
      ∙ ap (λ b. cond b (Some read) None) h;
}
