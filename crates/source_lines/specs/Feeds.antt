-- Line feeds in bytes.
use Rattle.std.specs.Prelude.{◌≡◌, ℕ, ◌==◌, List, position, None}

-- no byte is a line feed
abbrev pub HasNoFeed : List ℕ → Type 0
HasNoFeed bytes = position (λ b. b == 10) bytes ≡ None
