-- What holds of a log still holds as more is synced and written.
use Rattle.std.proofs.Common.{ℕ, List, inl, inr}
use Rattle.fabric_lemmas.specs.Members.{IsMember}
use Rattle.epoch_machine.specs.Logs.{Prefix, Entry}
use Rattle.epoch_machine.specs.Plans.{Plan}
use Rattle.epoch_machine.specs.World.{whole}
use Rattle.epoch_machine.specs.SoundLogs.{SoundLog}
use Rattle.epoch_machine.proofs.Prefixes.{prefix_trans, prefix_under}

pub whole_grown : {written more : ℕ → List Entry} → ((e : ℕ) → Prefix (written e) (more e)) → (p : Plan) → Prefix (whole written p) (whole more p)
whole_grown grows p = prefix_under p.base (grows p.epoch)

pub sound_log_grown : {syncs others : List Plan} {written more : ℕ → List Entry} → ((p : Plan) → IsMember p syncs → IsMember p others) →
    ((e : ℕ) → Prefix (written e) (more e)) → (joined : ℕ) (log : List Entry) → SoundLog syncs written joined log → SoundLog others more joined log
sound_log_grown keeps grows joined log (inl none) = inl none
sound_log_grown keeps grows joined log (inr l) = inr (record {
  plan = l.plan;
  synced = keeps l.plan l.synced;
  epoch_is = l.epoch_is;
  begins = l.begins;
  within = prefix_trans l.within (whole_grown grows l.plan);
})
