-- The lines that a report ends with: where the points are that nobody holds.
use Rattle.std.specs.Prelude.{◌≡◌, ℕ, ◌<◌, ◌^◌, Bool, true, not, ◌&&◌, List, [], ◌∷◌, ◌++◌, length, IsTrue, codes, decimal}
use Rattle.std.specs.List.{All, list_all, list_any, flat_map}
use Rattle.ring_points.specs.declared.interval.Interval.{Interval}
use Rattle.ring_points.specs.declared.who.Who.{Who}
use Rattle.ring_points.specs.Ranges.{in_ranges, rises_from}
use Rattle.ring_points.specs.Whos.{same_who}
use Rattle.fabric_terms.specs.Places.{Place, With, Flying}
use Rattle.text_fields.specs.Texts.{spaced}
use Rattle.text_fields.specs.Instances.{who_text}
use Rattle.text_fields.specs.Intervals.{ranges_text}
use Rattle.point_places.specs.declared.unheld.Holder.{Holder}
use Rattle.point_places.specs.Order.{is_before, is_same}

-- a holder of that name holds the point
abbrev pub held_by : List Holder → Who → ℕ → Bool
held_by holders w p = list_any (λ h. same_who h.who w && in_ranges p h.ranges) holders

-- each point in flight is told, and each that is with an instance which does not hold it
abbrev pub is_told : (Who → ℕ → Bool) → Place → ℕ → Bool
is_told held (With w) p = not (held w p)
is_told held (Flying giver number receiver) p = true

pub record Line : Type 0 where
  pub place : Place
  pub ranges : List Interval

-- the told points of a place, of which there are some, in rising intervals with a missing point between neighbours
pub record IsLine (place : ℕ → Place) (held : Who → ℕ → Bool) (line : Line) : Type 0 where
  pub some : 0 < length line.ranges
  pub apart : IsTrue (rises_from 0 line.ranges)
  pub points : (p : ℕ) → p < 2 ^ 64 → in_ranges p line.ranges ≡ (is_same line.place (place p) && is_told held line.place p)

-- each line comes before all later ones
abbrev pub lines_rise : List Line → Bool
lines_rise [] = true
lines_rise (l ∷ ls) = list_all (λ m. is_before l.place m.place) ls && lines_rise ls

-- one of the lines is of this place
abbrev pub has_line : Place → List Line → Bool
has_line place lines = list_any (λ l. is_same place l.place) lines

-- the lines for these places and holders: rising, each with all its points, and every point that is told has one
pub record AreLines (place : ℕ → Place) (held : Who → ℕ → Bool) (lines : List Line) : Type 0 where
  pub rise : IsTrue (lines_rise lines)
  pub each : All (IsLine place held) lines
  pub every : (p : ℕ) → p < 2 ^ 64 → IsTrue (is_told held (place p) p) → IsTrue (has_line (place p) lines)

-- the instance and its points; or the flight and its points
abbrev pub place_text : Place → List Interval → List ℕ
place_text (With w) ranges = spaced (codes "unheld" ∷ who_text w ∷ ranges_text ranges ∷ [])
place_text (Flying giver number receiver) ranges =
    spaced (codes "flight" ∷ who_text giver ∷ decimal number ∷ who_text receiver ∷ ranges_text ranges ∷ [])

abbrev pub line_text : Line → List ℕ
line_text line = place_text line.place line.ranges ++ codes "\n"

-- the text of the lines for these places and holders
pub record IsText (place : ℕ → Place) (held : Who → ℕ → Bool) (text : List ℕ) : Type 0 where
  pub lines : List Line
  pub told : AreLines place held lines
  pub spelled : text ≡ flat_map line_text lines

-- that text stands behind what was there
pub record IsAppended (place : ℕ → Place) (held : Who → ℕ → Bool) (before after : List ℕ) : Type 0 where
  pub text : List ℕ
  pub is_text : IsText place held text
  pub behind : after ≡ before ++ text
