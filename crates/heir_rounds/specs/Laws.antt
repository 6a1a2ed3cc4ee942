-- Whom arbitrators keep of the rounds about one victim, and tallies that are told it.
use Rattle.std.specs.Prelude.{◌≡◌, ℕ, zero, suc, ◌+◌, ◌<◌, ◌≤◌, Bool, true, false, List, [], ◌∷◌, Option, Some, None, if◌then◌else◌}
use Rattle.std.specs.List.{AllByRecursion}
use Rattle.ring_points.specs.declared.who.Who.{Who}
use Rattle.ring_points.specs.Whos.{same_who}
use Rattle.arbiter_quorum.specs.Tallies.{is_majority}
use Rattle.heir_rounds.specs.declared.verdict.RoundVerdict.TheVariants.{Won}
use Rattle.heir_rounds.specs.Rounds.{RoundTally, no_rounds, round_noted, round_verdict}

-- whom an arbitrator keeps of a round for good, if it keeps somebody
abbrev pub Keeping : Type 0
Keeping = (arbitrator round : ℕ) → Option Who

abbrev pub is_kept : Who → Option Who → Bool
is_kept who None = false
is_kept who (Some kept) = same_who kept who

-- how many of 1 to n pass
abbrev pub count_to : (ℕ → Bool) → ℕ → ℕ
count_to passes zero = 0
count_to passes (suc n) = (if passes (suc n) then 1 else 0) + count_to passes n

-- how many of the arbitrators 1 to n keep it of the round
abbrev pub keepers : Keeping → ℕ → ℕ → Who → ℕ
keepers kept n round who = count_to (λ a. is_kept who (kept a round)) n

-- a majority of the arbitrators keep it of one round
pub record IsHeir (kept : Keeping) (n : ℕ) (who : Who) : Type 0 where
  pub round : ℕ
  pub counted : 1 ≤ round
  pub most : is_majority n (keepers kept n round who) ≡ true

-- whom an arbitrator keeps of a round, as a tally is told it
pub record RoundAnswer : Type 0 where
  pub round : ℕ
  pub arbitrator : ℕ
  pub who : Who

-- it is what one of the arbitrators 1 to n keeps
pub record IsGiven (kept : Keeping) (n : ℕ) (answer : RoundAnswer) : Type 0 where
  pub from : 1 ≤ answer.arbitrator
  pub to : answer.arbitrator ≤ n
  pub is : kept answer.arbitrator answer.round ≡ Some answer.who

-- a tally after these answers, the newest first
abbrev pub told : RoundTally → List RoundAnswer → RoundTally
told t [] = t
told t (answer ∷ before) = round_noted (told t before) answer.round answer.arbitrator answer.who

-- by answers that arbitrators gave, the instance's tally came to the round
pub record CameTo (kept : Keeping) (n : ℕ) (who : Who) (round : ℕ) : Type 0 where
  pub limit : ℕ
  pub answers : List RoundAnswer
  pub given : AllByRecursion (IsGiven kept n) answers
  pub came : (told (no_rounds who n limit) answers).round ≡ round

-- by answers that arbitrators gave, the instance's tally is won
pub record Wins (kept : Keeping) (n : ℕ) (who : Who) : Type 0 where
  pub limit : ℕ
  pub newest : RoundAnswer
  pub before : List RoundAnswer
  pub given : AllByRecursion (IsGiven kept n) (newest ∷ before)
  pub won : round_verdict (told (no_rounds who n limit) before) newest.round newest.arbitrator newest.who ≡ Won

-- whoever is kept of a later round had come to it by its own tally
abbrev pub ClaimsInOrder : Keeping → ℕ → Type 0
ClaimsInOrder kept n = (arbitrator round : ℕ) (who : Who) → 1 < round → kept arbitrator round ≡ Some who → CameTo kept n who round

-- no two instances are heirs, whatever the rounds
abbrev pub OneHeir : Type 0
OneHeir = (kept : Keeping) (n : ℕ) (x y : Who) → ClaimsInOrder kept n → IsHeir kept n x → IsHeir kept n y → x ≡ y

-- the instance whose tally is won is heir
abbrev pub WinnerIsHeir : Type 0
WinnerIsHeir = (kept : Keeping) (n : ℕ) (who : Who) → Wins kept n who → IsHeir kept n who

-- no two instances' tallies about one victim are won
abbrev pub OneWinner : Type 0
OneWinner = (kept : Keeping) (n : ℕ) (x y : Who) → Wins kept n x → Wins kept n y → x ≡ y
