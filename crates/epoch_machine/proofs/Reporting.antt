-- Reports that are of another kind than what a fact is about.
use Rattle.std.proofs.Common.{◌≡◌, ℕ, List, ◌∷◌, ◌⊎◌, inl, inr, ◌≤◌}
use Rattle.fabric_lemmas.specs.Members.{IsMember}
use Rattle.epoch_machine.specs.Logs.{Entry}
use Rattle.epoch_machine.specs.Settings.{Settings}
use Rattle.epoch_machine.specs.Plans.{Plan, Role}
use Rattle.epoch_machine.specs.World.{Report, World, TellsPromised, TellsAccepted, TellsCommitted}
use Rattle.epoch_machine.specs.SoundRoles.{SoundRole}
use Rattle.epoch_machine.specs.Invariant.{Invariant}
use Rattle.epoch_machine.proofs.Members.{not_new}

-- a role stays sound by a report that is no Committed
pub role_told : {active : List Plan} {told : List Report} {node promised joined : ℕ} {log : List Entry} {r : Role} (report : Report) →
    ((x e k : ℕ) (l : List Entry) → TellsCommitted x e k l ≡ report → ⊥) → SoundRole active told node promised joined log r →
    SoundRole active (report ∷ told) node promised joined log r
role_told {told = told} report other s = record {
  activated = s.activated;
  primary = s.primary;
  promised_is = s.promised_is;
  joined_is = s.joined_is;
  base = s.base;
  floor = s.floor;
  reported = s.reported;
  within = s.within;
  covers = λ x e k l m. s.covers x e k l (not_new (TellsCommitted x e k l) report told (other x e k l) m);
}

module _ {c : Settings} {w : World} (inv : Invariant c w) where
  -- a report that is no promise and no write
  module _ (report : Report) (no_promise : (n e : ℕ) → TellsPromised n e ≡ report → ⊥) (no_write : (n e : ℕ) → TellsAccepted n e ≡ report → ⊥) where
    pub other_below : (n f : ℕ) → IsMember (TellsPromised n f) (report ∷ w.told) ⊎ IsMember (TellsAccepted n f) (report ∷ w.told) → f ≤ w.promised n
    other_below n f (inl m) = inv.reports.below n f (inl (not_new (TellsPromised n f) report w.told (no_promise n f) m))
    other_below n f (inr m) = inv.reports.below n f (inr (not_new (TellsAccepted n f) report w.told (no_write n f) m))
