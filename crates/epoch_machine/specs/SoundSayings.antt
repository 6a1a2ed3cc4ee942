-- What holds of that which replicas said of their logs.
use Rattle.std.specs.Prelude.{◌≡◌, ℕ, ◌<◌, ◌≤◌, List, length, ◌⊎◌}
use Rattle.fabric_lemmas.specs.Members.{IsMember}
use Rattle.epoch_machine.specs.Logs.{Entry}
use Rattle.epoch_machine.specs.Messages.{Promised, Adopted, Appended}

-- a log that was joined in an epoch, and once had so many entries, or a later one
abbrev pub Reached : ℕ → ℕ → ℕ → List Entry → Type 0
Reached epoch last joined log = (epoch < joined) ⊎ ((epoch ≡ joined) × (last ≤ length log))

-- what replicas said stays true, and is known to each promise for a higher epoch, of before or after
pub record SoundSayings (joined : ℕ → ℕ) (log : ℕ → List Entry) (promises : List Promised) (adopted : List Adopted) (appended : List Appended) :
    Type 0 where
  pub adopted_now : (d : Adopted) → IsMember d adopted → d.epoch ≤ joined d.node
  pub adopted_before : (d : Adopted) (r : Promised) → IsMember d adopted → IsMember r promises → d.node ≡ r.node → d.epoch < r.epoch → d.epoch ≤ r.joined
  pub appended_now : (d : Appended) → IsMember d appended → Reached d.epoch d.last (joined d.node) (log d.node)
  pub appended_before : (d : Appended) (r : Promised) → IsMember d appended → IsMember r promises → d.node ≡ r.node → d.epoch < r.epoch →
      Reached d.epoch d.last r.joined r.log
