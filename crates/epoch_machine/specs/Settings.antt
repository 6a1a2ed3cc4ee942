-- What is fixed over a history: who arbitrates, and how epochs are told apart by data loss.
use Rattle.std.specs.Prelude.{◌≡◌, ℕ, ◌≤◌, List}

-- the arbitrators by their numbers, and the data loss number of each epoch
pub record Settings : Type 0 where
  pub arbiters : List ℕ
  pub data_loss : ℕ → ℕ

-- what the laws ask of the settings: a higher epoch has no lower data loss number
pub record IsSound (c : Settings) : Type 0 where
  pub rises : (e f : ℕ) → e ≤ f → c.data_loss e ≤ c.data_loss f

-- the epoch is the first one of its data loss number
abbrev pub Opens : Settings → ℕ → Type 0
Opens c epoch = (e : ℕ) → c.data_loss e ≡ c.data_loss epoch → epoch ≤ e
