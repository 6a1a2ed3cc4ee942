-- Where nothing was done, who has recorded nothing shows the machines.
use Rattle.std.proofs.Common.{ℕ, refl, arith}
use Rattle.replica_core.specs.Replicas.{first_epoch}
use Rattle.epoch_machine.specs.World.{empty_world}
use Rattle.unit_rules.specs.ReplicaStates.{first_state}
use Rattle.epoch_refinement.specs.Epochs.{IsEpoch}
use Rattle.epoch_refinement.specs.Laws.{BeginningsAreShown}
use Rattle.epoch_refinement.specs.ReplicaStates.{ShowsReplicaState}
use Rattle.epoch_refinement.proofs.Promising.{numbered_none}

is_first : IsEpoch 0 first_epoch
is_first = record { number = record { small = omega arith; is = refl }; some = λ lt. absurd (omega arith) }

state_shows : (p node : ℕ) → ShowsReplicaState empty_world p node (first_state p)
state_shows p node = record {
  partition = refl;
  promised = is_first;
  joined = is_first;
  log = refl;
  room = omega arith;
  collected = λ lt. refl;
  taken = λ t i. absurd (cc (i));
  reached = λ t n i. absurd (cc (i));
  numbered = numbered_none;
  numbered_collected = numbered_none;
  idle = λ h. refl;
  progress = λ l i. absurd (cc (i));
}

pub beginnings_lem : BeginningsAreShown
beginnings_lem k x = (
  record {
    states = λ p. state_shows p x.actor;
    managers = λ p. record { small = omega arith; idle = λ h t m. absurd m; busy = λ r i. absurd (cc (i)) };
    states_rise = refl;
    reconfigs_rise = refl;
  },
  λ p. record { nothing = λ h. refl; prepared = λ q i. absurd (cc (i)); votes = λ v m. absurd m; done = tt },
)
