-- The calls on a token keep it in range.
use Rattle.std.proofs.Common.{◌≡◌, ℕ, Bool, true, false, List, [], ◌∷◌, Option, Some, None, IsTrue, refl, sym, subst}
use Rattle.std.specs.Prelude.{◌==◌}
use Rattle.std.proofs.lemmas.Bool.{and_parts, and_from}
use Rattle.ring_points.specs.declared.interval.Interval.{Interval}
use Rattle.ring_points.specs.Ranges.{fits, is_proper, rises_from}
use Rattle.ring_points.specs.Sets.{union_of, minus_of, meet_of}
use Rattle.ring_points.proofs.Cuts.{rises_from-minus_of}
use Rattle.ring_points.proofs.Joins.{rises_from-union_of}
use Rattle.ring_points.proofs.Meets.{rises_from-meet_of}
use Rattle.ring_rules.specs.Deeds.{undone, undone_at, undone_if}
use Rattle.ring_rules.specs.Renewals.{may_freeze, owns_none}
use Rattle.fabric_terms.specs.Fields.{is_part, is_some}
use Rattle.token_core.specs.Calls.{is_empty}
use Rattle.token_core.specs.Tokens.{Freeze, Token, announced, can_freeze, can_gain, frozen, frozen_part, gained, given, inherited, unfrozen}
use Rattle.frames_fit.specs.InRange.{FreezeInRange, TokenInRange}
use Rattle.frames_fit.proofs.Places.{is_frozen_in}

abbrev pub Rises : List Interval → Type 0
Rises is = IsTrue (rises_from 0 is)

-- Lists.

pub proper_from : (is : List Interval) → IsTrue (fits is) → Rises is → IsTrue (is_proper is)
proper_from is h k = and_from (fits is) (rises_from 0 is) h k

pub proper_rises : (is : List Interval) → IsTrue (is_proper is) → Rises is
proper_rises is h = (and_parts (fits is) (rises_from 0 is) h).1

pub part_rises : (is : List Interval) → IsTrue (is_part is) → Rises is
part_rises is h = proper_rises is (and_parts (is_proper is) (is_some is) h).0

-- a list that is not empty
some_from : (is : List Interval) → is_empty is ≡ false → IsTrue (is_some is)
some_from [] h = absurd (cc (h))
some_from (i ∷ is) h = refl

-- Calls.

freeze_rises : (o : Option Freeze) → FreezeInRange o → Rises (frozen_part o)
freeze_rises None h = refl
freeze_rises (Some z) h = part_rises z.part h

module _ (t : Token) (h : TokenInRange t) where
  pub owned_rises : Rises t.ranges
  owned_rises = proper_rises t.ranges h.ranges

  pub announced_proper : IsTrue (is_proper (announced t))
  announced_proper =
      proper_from (announced t) h.announced (rises_from-minus_of 0 0 t.ranges (frozen_part t.freeze) owned_rises (freeze_rises t.freeze h.freeze))

  pub gained_in_range : (part : List Interval) → Rises part → IsTrue (can_gain t part) → TokenInRange (gained t part)
  gained_in_range part k fit =
      let fits_both = and_parts (fits (gained t part).ranges) (fits (announced (gained t part))) fit in
      record {
        ranges = proper_from (union_of t.ranges part) fits_both.0 (rises_from-union_of 0 0 t.ranges part owned_rises k);
        announced = fits_both.1;
        freeze = h.freeze;
      }

  pub frozen_in_range : (part : List Interval) (i : ℕ) → Rises part → owns_none t part ≡ false → IsTrue (may_freeze t part) → TokenInRange (frozen t part i)
  frozen_in_range part i k some fit =
      let can : IsTrue (can_freeze t part) = (and_parts (fits part) (can_freeze t part) fit).1 in
      let fits_both = and_parts (fits (meet_of t.ranges part)) (fits (minus_of t.ranges (meet_of t.ranges part))) can in
      record {
        ranges = h.ranges;
        announced = fits_both.1;
        freeze =
            and_from (is_proper (meet_of t.ranges part)) (is_some (meet_of t.ranges part))
            (proper_from (meet_of t.ranges part) fits_both.0 (rises_from-meet_of 0 0 t.ranges part owned_rises k)) (some_from (meet_of t.ranges part) some);
      }

  pub unfrozen_in_range : TokenInRange (unfrozen t)
  unfrozen_in_range = record { ranges = h.ranges; announced = (and_parts (fits t.ranges) (rises_from 0 t.ranges) h.ranges).0; freeze = tt }

  pub given_in_range : (z : Freeze) → t.freeze ≡ Some z → TokenInRange (given t z)
  given_in_range z e =
      let left : IsTrue (is_proper (minus_of t.ranges z.part)) =
      subst (λ (o : Option Freeze). IsTrue (is_proper (minus_of t.ranges (frozen_part o)))) e announced_proper in
      record { ranges = left; announced = (and_parts (fits (minus_of t.ranges z.part)) (rises_from 0 (minus_of t.ranges z.part)) left).0; freeze = tt }

  pub inherited_rises : (held flight : List Interval) → Rises held → Rises flight → Rises (inherited t held flight)
  inherited_rises held flight k l = rises_from-minus_of 0 0 (union_of held flight) t.ranges (rises_from-union_of 0 0 held flight k l) owned_rises

-- A freeze that is undone.

-- no part is frozen for the place any more
pub undone_not_in : (i : ℕ) (t : Token) → is_frozen_in i (undone i t).freeze ≡ false
undone_not_in i t = at t.freeze refl
  where
    by_place : (z : Freeze) (b : Bool) → t.freeze ≡ Some z → (z.slot == i) ≡ b → is_frozen_in i (undone_if t b).freeze ≡ false
    by_place z true e k = refl
    by_place z false e k = subst (λ (o : Option Freeze). is_frozen_in i o ≡ false) (sym e) k

    at : (o : Option Freeze) → t.freeze ≡ o → is_frozen_in i (undone_at i t o).freeze ≡ false
    at None e = subst (λ (o : Option Freeze). is_frozen_in i o ≡ false) (sym e) refl
    at (Some z) e = by_place z (z.slot == i) e refl
