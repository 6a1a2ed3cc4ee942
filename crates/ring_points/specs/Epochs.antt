-- The order of epochs.
use Rattle.std.specs.Prelude.{Bool, ◌&&◌, ◌||◌, ◌==◌, nat_lt}
use Rattle.ring_points.specs.declared.unit.Epoch.{Epoch}

-- a is below b: by the data loss number, then by the configuration number
abbrev pub is_older : Epoch → Epoch → Bool
is_older a b = nat_lt a.data_loss b.data_loss || (a.data_loss == b.data_loss && nat_lt a.configuration b.configuration)

abbrev pub same_epoch : Epoch → Epoch → Bool
same_epoch a b = a.data_loss == b.data_loss && a.configuration == b.configuration
