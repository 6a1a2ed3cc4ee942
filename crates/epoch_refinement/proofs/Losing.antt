-- The data loss number rises with the epoch, and the first configuration of one opens it.
use Rattle.std.proofs.Common.{◌≡◌, ℕ, ◌<◌, arith}
use Rattle.ring_points.specs.declared.unit.Epoch.{Epoch}
use Rattle.epoch_machine.specs.Settings.{IsSound, Opens}
use Rattle.epoch_refinement.specs.Epochs.{IsEpoch, settings_to}

pub settings_sound : (k : ℕ) → IsSound (settings_to k)
settings_sound k = record { rises = λ e f le. omega arith }

pub first_opens : (k n : ℕ) (e : Epoch) → IsEpoch n e → e.configuration ≡ 1 → 0 < e.data_loss → Opens (settings_to k) n
first_opens k n e is one some f same = let i = is.is in let s = is.small in omega arith
