-- What clap makes of four words at most, behind `--`.
use Rattle.std.proofs.Common.{◌≡◌, ◌≤◌, true, List, [], ◌∷◌, arith, refl, codes, length}
use Rattle.std.specs.Prelude.{slice_get}
use Rattle.clap.specs.Words.{Row, Text, first_of, is_simple, matches_of, takes}
use Rattle.clap.proofs.OnLiterals.{clap_on_literals}
use Rattle.fabric_top.specs.Splits.{fabric_app, line_of}

pub is_plain : is_simple fabric_app ≡ true
unfolding clap_on_literals
is_plain = refl

pub taken : (ws : List Text) → length ws ≤ 4 → takes fabric_app (line_of ws) ≡ true
unfolding clap_on_literals
taken [] few = refl
taken (a ∷ []) few = refl
taken (a ∷ b ∷ []) few = refl
taken (a ∷ b ∷ c ∷ []) few = refl
taken (a ∷ b ∷ c ∷ d ∷ []) few = refl
taken (a ∷ b ∷ c ∷ d ∷ e ∷ ws) few = absurd (omega arith)

-- each word is the value of its place
pub record Found (ws : List Text) (rows : List Row) : Type 0 where
  pub command : first_of (codes "command") rows ≡ slice_get ws 0
  pub first : first_of (codes "first") rows ≡ slice_get ws 1
  pub second : first_of (codes "second") rows ≡ slice_get ws 2
  pub third : first_of (codes "third") rows ≡ slice_get ws 3

pub found : (ws : List Text) → length ws ≤ 4 → Found ws (matches_of fabric_app (line_of ws))
unfolding clap_on_literals
found [] few = record { command = refl; first = refl; second = refl; third = refl }
found (a ∷ []) few = record { command = refl; first = refl; second = refl; third = refl }
found (a ∷ b ∷ []) few = record { command = refl; first = refl; second = refl; third = refl }
found (a ∷ b ∷ c ∷ []) few = record { command = refl; first = refl; second = refl; third = refl }
found (a ∷ b ∷ c ∷ d ∷ []) few = record { command = refl; first = refl; second = refl; third = refl }
found (a ∷ b ∷ c ∷ d ∷ e ∷ ws) few = absurd (omega arith)
