-- Epochs by their numbers, and what of them is fixed for the machine.
use Rattle.std.specs.Prelude.{◌≡◌, ℕ, ◌-◌, ◌/◌, ◌<◌}
use Rattle.ring_points.specs.declared.unit.Epoch.{Epoch}
use Rattle.epoch_machine.specs.Epochs.{number_of}
use Rattle.epoch_machine.specs.Settings.{Settings}
use Rattle.unit_rules.specs.Polls.{arbiters_to}

-- the number is that of the epoch
pub record IsNumber (n : ℕ) (e : Epoch) : Type 0 where
  pub small : e.configuration < 4294967296
  pub is : n ≡ number_of e

-- and but for the epoch before all others, configurations are counted from 1
pub record IsEpoch (n : ℕ) (e : Epoch) : Type 0 where
  pub number : IsNumber n e
  pub open number use *
  pub some : 0 < n → 0 < e.configuration

-- an epoch that a configuration can have
pub record IsReal (e : Epoch) : Type 0 where
  pub small : e.configuration < 4294967296
  pub some : 0 < e.configuration

-- the data loss number of an epoch, by its number
abbrev pub loss_of : ℕ → ℕ
loss_of n = (n - 1) / 4294967296

-- the machine of so many arbitrators
abbrev pub settings_to : ℕ → Settings
settings_to arbitrators = record { arbiters = arbiters_to arbitrators; data_loss = loss_of }
