-- The verdict on a run, as a line.
use Rattle.std.specs.Prelude.{ℕ, List, [], ◌∷◌, ◌++◌, Option, Some, None, codes, decimal}
use Rattle.ring_points.specs.declared.point.Point.{Point}
use Rattle.ring_points.specs.declared.unit.Epoch.{Epoch}
use Rattle.ring_points.specs.declared.who.Who.{Who}
use Rattle.run_audit.specs.declared.breach.Breach.{Breach}
use Rattle.run_audit.specs.declared.breach.Breach.TheVariants.{Ring, Early, Primary, Older}
use Rattle.text_fields.specs.Epochs.{epoch_text}
use Rattle.text_fields.specs.Instances.{who_text}
use Rattle.text_fields.specs.Points.{point_text}
use Rattle.text_fields.specs.Texts.{spaced}

abbrev pub ring_text : Point → Who → Who → List ℕ
ring_text point a b = spaced (codes "ring" ∷ point_text point.0 ∷ who_text a ∷ who_text b ∷ [])

abbrev pub early_text : Who → Point → List ℕ
early_text victim point = spaced (codes "early" ∷ who_text victim ∷ point_text point.0 ∷ [])

abbrev pub primary_text : ℕ → Epoch → ℕ → ℕ → List ℕ
primary_text partition epoch a b = spaced (codes "primary" ∷ decimal partition ∷ epoch_text epoch ∷ decimal a ∷ decimal b ∷ [])

abbrev pub older_text : ℕ → ℕ → Epoch → Epoch → List ℕ
older_text node partition had got = spaced (codes "older" ∷ decimal node ∷ decimal partition ∷ epoch_text had ∷ epoch_text got ∷ [])

abbrev pub breach_text : Breach → List ℕ
breach_text (Ring line point a b) = spaced (codes "breach" ∷ decimal line ∷ ring_text point a b ∷ [])
breach_text (Early line victim point) = spaced (codes "breach" ∷ decimal line ∷ early_text victim point ∷ [])
breach_text (Primary line partition epoch a b) = spaced (codes "breach" ∷ decimal line ∷ primary_text partition epoch a b ∷ [])
breach_text (Older line node partition had got) = spaced (codes "breach" ∷ decimal line ∷ older_text node partition had got ∷ [])

-- of a run of so many moments
abbrev pub verdict_line : Option Breach → ℕ → List ℕ
verdict_line None moments = codes "safe " ++ (decimal moments ++ codes "\n")
verdict_line (Some b) moments = breach_text b ++ codes "\n"
