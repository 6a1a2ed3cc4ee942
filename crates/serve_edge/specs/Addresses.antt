-- The addresses that a start takes, and how one that it refuses is shown.
use Rattle.std.specs.Prelude.{◌≡◌, ◌≢◌, ◌⊎◌, ℕ, Bool, ◌&&◌, List, length, nat_lt, nat_le, codes, Option, Some, None, if◌then◌else◌}
use Rattle.std.specs.List.{list_all}
use Rattle.std.specs.Net.Grammar.{IsSocketText}
use Rattle.std.specs.Net.Socket.{socket_port}
use Rattle.std.specs.declared.net.SocketAddr.{SocketAddr}

-- the address that the text is, with a port above 0; None where the text is no address, or one whose port is 0
abbrev pub ReadsAddress : List ℕ → Option SocketAddr → Type 0
ReadsAddress text (Some address) = IsSocketText text address × (socket_port address ≢ 0)
ReadsAddress text None =
    ((address : SocketAddr) → ¬ (IsSocketText text address))
    ⊎ ((address : SocketAddr) × IsSocketText text address × (socket_port address ≡ 0))

-- the visible signs, from `!` to `~`
abbrev pub is_visible : ℕ → Bool
is_visible b = nat_le 33 b && nat_le b 126

-- the most bytes of a text that is shown
abbrev pub most_shown : ℕ
most_shown = 100

abbrev pub is_shown : List ℕ → Bool
is_shown text = nat_lt 0 (length text) && nat_le (length text) most_shown && list_all is_visible text

-- a refused text as it is shown
abbrev pub shown : List ℕ → List ℕ
shown text = if is_shown text then text else codes "-"
