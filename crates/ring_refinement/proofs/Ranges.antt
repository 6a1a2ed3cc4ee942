-- Lists of intervals as sets of points: what a token's calls do to its image.
use Rattle.std.proofs.Common.{◌≡◌, ℕ, ◌+◌, List, Option, Some, None, IsTrue, refl, ap, ◌∙◌}
use Rattle.ring_points.specs.declared.interval.Interval.{Interval}
use Rattle.ring_points.specs.Ranges.{rises_from}
use Rattle.ring_points.specs.Sets.{union_of, minus_of, meet_of}
use Rattle.ring_points.proofs.Cuts.{in_ranges-minus_of, rises_from-minus_of}
use Rattle.ring_points.proofs.Joins.{in_ranges-union_of, rises_from-union_of}
use Rattle.ring_points.proofs.Meets.{in_ranges-meet_of, rises_from-meet_of}
use Rattle.token_core.specs.Tokens as token
use Rattle.token_core.specs.Tokens.{Freeze}
use Rattle.token_core.specs.Laws.{IsRising}
use Rattle.ring_rules.specs.Rings.{Slots}
use Rattle.ring_rules.specs.Slots.{slot_at}
use Rattle.ring_machine.specs.Points.{union, meet, minus}
use Rattle.ring_machine.specs.Tokens as machine
use Rattle.ring_machine.specs.Effects.{enlarged}
use Rattle.ring_refinement.specs.Images.{points_of, number_of, freeze_of, token_of}

abbrev pub Rises : List Interval → Type 0
Rises is = IsTrue (rises_from 0 is)

pub union_is : (is js : List Interval) → Rises is → Rises js → points_of (union_of is js) ≡ union (points_of is) (points_of js)
union_is is js h k = λ j p. in_ranges-union_of p 0 0 is js h k j

pub minus_is : (is js : List Interval) → Rises is → Rises js → points_of (minus_of is js) ≡ minus (points_of is) (points_of js)
minus_is is js h k = λ j p. in_ranges-minus_of p 0 0 is js h k j

pub meet_is : (is js : List Interval) → points_of (meet_of is js) ≡ meet (points_of is) (points_of js)
meet_is is js = λ j p. in_ranges-meet_of p is js j

pub frozen_part_is : (slots : Slots) (o : Option Freeze) → points_of (token.frozen_part o) ≡ machine.frozen (freeze_of slots o)
frozen_part_is slots None = refl
frozen_part_is slots (Some z) = refl

module _ (slots : Slots) (t : token.Token) (h : IsRising t) where
  pub announced_is : points_of (token.announced t) ≡ machine.announced (token_of slots t)
  announced_is = minus_is t.ranges (token.frozen_part t.freeze) h.ranges h.part ∙ ap (λ q. minus (points_of t.ranges) q) (frozen_part_is slots t.freeze)

  pub announced_rises : Rises (token.announced t)
  announced_rises = rises_from-minus_of 0 0 t.ranges (token.frozen_part t.freeze) h.ranges h.part

  -- more is owned
  pub gained_is : (part : List Interval) → Rises part → token_of slots (token.gained t part) ≡ enlarged (token_of slots t) (points_of part)
  gained_is part k =
      let e = union_is t.ranges part h.ranges k in
      λ j. record { ranges = e j; version = t.version + 1; freeze = freeze_of slots t.freeze; next_flight = t.next_flight }

  pub gained_rises : (part : List Interval) → Rises part → IsRising (token.gained t part)
  gained_rises part k = record { ranges = rises_from-union_of 0 0 t.ranges part h.ranges k; part = h.part }

  -- a part is frozen for place i
  pub frozen_is : (part : List Interval) (i : ℕ) → token_of slots (token.frozen t part i) ≡
      record (token_of slots t) {
        version = t.version + 1;
        freeze = Some (record { part = meet (points_of t.ranges) (points_of part); number = number_of (slot_at i slots); version = t.version + 1 });
      }
  frozen_is part i =
      let e = meet_is t.ranges part in
      λ j. record {
        ranges = points_of t.ranges;
        version = t.version + 1;
        freeze = Some (record { part = e j; number = number_of (slot_at i slots); version = t.version + 1 });
        next_flight = t.next_flight;
      }

  pub frozen_rises : (part : List Interval) (i : ℕ) → Rises part → IsRising (token.frozen t part i)
  frozen_rises part i k = record { ranges = h.ranges; part = rises_from-meet_of 0 0 t.ranges part h.ranges k }

  -- a frozen part is given
  pub given_is : (z : Freeze) → Rises z.part → token_of slots (token.given t z) ≡
      record (token_of slots t) { ranges = minus (points_of t.ranges) (points_of z.part); freeze = None; next_flight = t.next_flight + 1 }
  given_is z k =
      let e = minus_is t.ranges z.part h.ranges k in
      λ j. record { ranges = e j; version = t.version; freeze = None; next_flight = t.next_flight + 1 }

  pub given_rises : (z : Freeze) → Rises z.part → IsRising (token.given t z)
  given_rises z k = record { ranges = rises_from-minus_of 0 0 t.ranges z.part h.ranges k; part = refl }

  pub unfrozen_rises : IsRising (token.unfrozen t)
  unfrozen_rises = record { ranges = h.ranges; part = refl }

  -- of what is inherited nothing is owned
  pub inherited_rises : (held flight : List Interval) → Rises held → Rises flight → Rises (token.inherited t held flight)
  inherited_rises held flight k l = rises_from-minus_of 0 0 (union_of held flight) t.ranges (rises_from-union_of 0 0 held flight k l) h.ranges

  pub inherited_is : (held flight : List Interval) → Rises held → Rises flight →
      points_of (token.inherited t held flight) ≡ minus (union (points_of held) (points_of flight)) (points_of t.ranges)
  inherited_is held flight k l =
      minus_is (union_of held flight) t.ranges (rises_from-union_of 0 0 held flight k l) h.ranges ∙ ap (λ q. minus q (points_of t.ranges)) (union_is held flight k l)
