-- The lists of partitions and of names in a report.
use Rattle.std.specs.Prelude.{ℕ, ◌-◌, List, [], ◌∷◌, ◌++◌, length, Option, Some, codes, decimal}
use Rattle.ring_points.specs.Limits.{most_listed_names}
use Rattle.text_fields.specs.Fields.{last, behind, nothing}
use Rattle.text_fields.specs.Lists.{list_at, some_at}
use Rattle.text_fields.specs.Texts.{listed}
use Rattle.line_format.specs.Commands.{partition_at}
use Rattle.line_format.specs.Names.{name_at, as_they_are}

-- any number of partitions, with commas, or a dash
unfoldable pub partitions_of : List ℕ → Option (List ℕ)
partitions_of bytes = last (list_at partition_at (length bytes)) bytes

abbrev pub partitions_text : List ℕ → List ℕ
partitions_text partitions = listed decimal partitions

-- nothing, or a blank and some names with commas
unfoldable pub names_of : List ℕ → Option (List (List ℕ))
names_of [] = Some []
names_of (b ∷ bs) = behind (codes " ") (last (some_at name_at (most_listed_names - 1))) nothing (b ∷ bs)

abbrev pub names_text : List (List ℕ) → List ℕ
names_text [] = []
names_text (name ∷ names) = codes " " ++ listed as_they_are (name ∷ names)
