-- The limits of replicas that this crate owns.
use Rattle.std.specs.Prelude.{ℕ}

-- the other members of a configuration: those of which a primary knows, and to which a firing sends
abbrev pub most_peers : ℕ
most_peers = 6
