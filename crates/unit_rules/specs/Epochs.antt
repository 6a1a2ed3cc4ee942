-- The epochs of configurations and of logs.
use Rattle.std.specs.Prelude.{ℕ, ◌+◌, Bool, ◌&&◌, ◌||◌, nat_lt}
use Rattle.ring_points.specs.declared.unit.Epoch.{Epoch}
use Rattle.ring_points.specs.Epochs.{is_older, same_epoch}
use Rattle.token_core.specs.Tokens.{last_number}

-- the epoch of the next configuration
abbrev pub next_epoch : Epoch → Epoch
next_epoch e = record { data_loss = e.data_loss; configuration = e.configuration + 1 }

-- the first epoch after a loss of data
abbrev pub epoch_after_loss : Epoch → Epoch
epoch_after_loss e = record { data_loss = e.data_loss + 1; configuration = 1 }

-- a number of the epoch is past the last one
abbrev pub is_past_end : Epoch → Bool
is_past_end e = nat_lt last_number e.data_loss || nat_lt last_number e.configuration

-- a log of epoch a with its last entry at `last` comes before one of epoch b with its last entry at `other`
abbrev pub is_behind : Epoch → ℕ → Epoch → ℕ → Bool
is_behind a last b other = is_older a b || (same_epoch a b && nat_lt last other)
