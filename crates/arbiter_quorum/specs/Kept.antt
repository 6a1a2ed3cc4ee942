-- The votes of a tally as pairs of an arbitrator and what it kept.
use Rattle.std.specs.Prelude.{ℕ, List, map}
use Rattle.ring_points.specs.declared.unit.Config.{Config}
use Rattle.arbiter_quorum.specs.declared.votes.Vote.{Vote}

abbrev pub pair : Vote → ℕ × Config
pair vote = (vote.arbitrator, vote.kept)

abbrev pub pairs : List Vote → List (ℕ × Config)
pairs votes = map pair votes
