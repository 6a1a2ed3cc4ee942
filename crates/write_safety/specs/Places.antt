-- Where what is kept of a partition and data loss number stands in a book.
use Rattle.std.specs.Prelude.{◌≡◌, ℕ, ◌≤◌, true, false, List, ◌∷◌, ◌++◌, length, take, drop, Result, Ok, Err}
use Rattle.std.specs.List.{All}
use Rattle.write_safety.specs.Books.{KeptLog, comes_before, is_of, precedes}

-- all at former places come before it, and none from this place on does
pub record Parts (partition data_loss : ℕ) (logs : List KeptLog) (place : ℕ) : Type 0 where
  pub within : place ≤ length logs
  pub below : All (λ l. comes_before partition data_loss l ≡ true) (take place logs)
  pub above : All (λ l. comes_before partition data_loss l ≡ false) (drop place logs)

-- it stands at this place
pub record IsAt (partition data_loss : ℕ) (logs : List KeptLog) (place : ℕ) : Type 0 where
  pub front : List KeptLog
  pub log : KeptLog
  pub back : List KeptLog
  pub split : logs ≡ front ++ (log ∷ back)
  pub here : length front ≡ place
  pub is : is_of partition data_loss log ≡ true
  pub others : All (λ l. is_of partition data_loss l ≡ false) front

-- it is not there, and would stand at this place
pub record IsGap (partition data_loss : ℕ) (logs : List KeptLog) (place : ℕ) : Type 0 where
  pub front : List KeptLog
  pub back : List KeptLog
  pub split : logs ≡ front ++ back
  pub here : length front ≡ place
  pub below : All (λ l. comes_before partition data_loss l ≡ true) front
  pub above : All (λ l. precedes partition data_loss l.partition l.data_loss ≡ true) back

abbrev pub Finds : ℕ → ℕ → List KeptLog → Result ℕ ℕ → Type 0
Finds partition data_loss logs (Ok place) = IsAt partition data_loss logs place
Finds partition data_loss logs (Err place) = IsGap partition data_loss logs place
