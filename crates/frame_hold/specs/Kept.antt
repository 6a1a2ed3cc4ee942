-- The frames that wait, the oldest first.
use Rattle.std.specs.Prelude.{ℕ, Bool, not, ◌&&◌, ◌==◌, List, [], ◌∷◌, ◌++◌, filter, length, nat_lt, if◌then◌else◌}
use Rattle.std.specs.List.{list_any}
use Rattle.std.specs.Str.{bytes_eq}
use Rattle.edge_io.specs.declared.datagram.Datagram.{Datagram}
use Rattle.frame_hold.specs.declared.holding.Owed.{Owed}
use Rattle.frame_hold.specs.Waits.{frame_waits}

-- frames that wait
abbrev pub most_held : ℕ
most_held = 4096

-- the same bytes from the same actor to the same address
abbrev pub is_equal : Datagram → Datagram → Bool
is_equal a b = a.from == b.from && bytes_eq a.to b.to && bytes_eq a.bytes b.bytes

abbrev pub is_held : Datagram → List Datagram → Bool
is_held d held = list_any (λ other. is_equal other d) held

-- one more waits, if no equal one does and if there is room
abbrev pub held_with : Datagram → List Datagram → List Datagram
held_with d held =
    if is_held d held then held else (if nat_lt (length held) most_held then held ++ d ∷ [] else held)

-- it is the actor's, and waits for nothing any more
abbrev pub is_free : ℕ → List Owed → Datagram → Bool
is_free actor owed d = d.from == actor && not (frame_waits owed d.bytes)

-- what the actor may send
abbrev pub free_of : ℕ → List Owed → List Datagram → List Datagram
free_of actor owed held = filter (is_free actor owed) held

-- what stays
abbrev pub held_of : ℕ → List Owed → List Datagram → List Datagram
held_of actor owed held = filter (λ d. not (is_free actor owed d)) held
