-- The invariant: what holds of the world after every valid history. Each group takes what it reads, so that a deed that
-- changes nothing of it leaves it as it is.
use Rattle.epoch_machine.specs.Settings.{Settings}
use Rattle.epoch_machine.specs.World.{World}
use Rattle.epoch_machine.specs.SoundRegisters.{SoundRegisters, AllAsked}
use Rattle.epoch_machine.specs.SoundAttempts.{SoundAttempts}
use Rattle.epoch_machine.specs.SoundPlans.{SoundPlans, SoundStages}
use Rattle.epoch_machine.specs.SoundLogs.{SoundLogs, SoundPromises}
use Rattle.epoch_machine.specs.SoundSayings.{SoundSayings}
use Rattle.epoch_machine.specs.SoundCopies.{SoundCopies}
use Rattle.epoch_machine.specs.SoundRoles.{SoundRoles}
use Rattle.epoch_machine.specs.SoundReports.{SoundReports}

-- all groups together
pub record Invariant (c : Settings) (w : World) : Type 0 where
  pub registers : SoundRegisters w.prepared w.preparer w.done w.answers w.kept
  pub all_asked : AllAsked w.done w.answers w.attempts w.asked
  pub attempts : SoundAttempts c w.prepared w.answers w.ballots w.attempts
  pub plans : SoundPlans c w.attempts w.promises w.plans w.ballots
  pub stages : SoundStages c w.plans w.ballots w.syncs w.adopted w.asked w.kept w.active
  pub logs : SoundLogs w.promised w.joined w.log w.written w.syncs w.active
  pub promises : SoundPromises w.promised w.joined w.log w.written w.syncs w.promises
  pub sayings : SoundSayings w.joined w.log w.promises w.adopted w.appended
  pub copies : SoundCopies w.promised w.collected w.written w.syncs w.pieces w.appends
  pub roles : SoundRoles w.promised w.joined w.log w.active w.role w.told
  pub reports : SoundReports w.promised w.active w.written w.appended w.told
