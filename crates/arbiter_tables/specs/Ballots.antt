-- The table of votes as a list of configurations.
use Rattle.std.specs.Prelude.{◌≡◌, ℕ, Bool, ◌&&◌, ◌==◌, List, [], ◌∷◌, Option, find}
use Rattle.ring_points.specs.declared.unit.Config.{Config}
use Rattle.ring_points.specs.declared.unit.Epoch.{Epoch}
use Rattle.ring_points.specs.Epochs.{same_epoch}
use Rattle.arbiter_tables.specs.declared.ballot.Ballot.{Ballot}

abbrev pub ballot_of : ℕ → Epoch → Ballot
ballot_of partition epoch = record { partition = partition; data_loss = epoch.data_loss; configuration = epoch.configuration }

-- a vote of this epoch of this partition
abbrev pub is_vote_of : ℕ → Epoch → Config → Bool
is_vote_of partition epoch vote = vote.partition == partition && same_epoch vote.epoch epoch

-- the first vote of the epoch
abbrev pub first_vote : ℕ → Epoch → List Config → Option Config
first_vote partition epoch votes = find (λ vote. is_vote_of partition epoch vote) votes

-- the votes, in the order of the table
abbrev pub votes_of : List (Ballot × Config) → List Config
votes_of [] = []
votes_of (e ∷ es) = e.1 ∷ votes_of es

-- each vote stands under its own epoch of its own partition
abbrev pub AreFiled : List (Ballot × Config) → Type 0
AreFiled [] = Unit {0}
AreFiled (e ∷ es) = (e.0 ≡ ballot_of e.1.partition e.1.epoch) × AreFiled es
