-- The limits of devices.
use Rattle.std.specs.Prelude.{ℕ}

-- bytes of a datagram that links hand over
abbrev pub most_datagram : ℕ
most_datagram = 1500
