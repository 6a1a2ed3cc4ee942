-- Epochs: the number of data losses, a point and the number of configurations.
use Rattle.std.specs.Prelude.{ℕ, List, ◌++◌, codes, decimal}
use Rattle.ring_points.specs.Limits.{most_counter}
use Rattle.ring_points.specs.declared.unit.Epoch.{Epoch}
use Rattle.text_fields.specs.Fields.{Field, made_at, pair_at}
use Rattle.text_fields.specs.Numbers.{number_in}

abbrev pub epoch_made : ℕ × ℕ → Epoch
epoch_made e = record { data_loss = e.0; configuration = e.1 }

abbrev pub epoch_at : List ℕ → Field Epoch
epoch_at = made_at epoch_made (pair_at (number_in 0 most_counter) (codes ".") (number_in 0 most_counter))

abbrev pub epoch_text : Epoch → List ℕ
epoch_text e = decimal e.data_loss ++ (codes "." ++ decimal e.configuration)
