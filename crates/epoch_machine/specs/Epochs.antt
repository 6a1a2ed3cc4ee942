-- Epochs as numbers, in the order of epochs: what the machine counts with.
use Rattle.std.specs.Prelude.{ℕ, ◌+◌, ◌*◌}
use Rattle.ring_points.specs.declared.unit.Epoch.{Epoch}

-- it keeps the order, as long as configuration numbers are below 2^32
abbrev pub number_of : Epoch → ℕ
number_of e = e.data_loss * 4294967296 + e.configuration
