-- Which clients watch.
use Rattle.std.specs.Prelude.{ℕ, ◌==◌, Bool, not, List, [], ◌∷◌, ◌++◌, filter, length, nat_lt, if◌then◌else◌}
use Rattle.client_sessions.specs.declared.watchers.Watcher.{Watcher}

-- clients that watch at most
abbrev pub most_watchers : ℕ
most_watchers = 64

abbrev pub is_by : ℕ → Watcher → Bool
is_by client w = w.client == client

-- those of other clients
abbrev pub by_others : ℕ → List Watcher → List Watcher
by_others client ws = filter (λ w. not (is_by client w)) ws

-- a client begins to watch, or changes what it hears
abbrev pub with_watcher : List Watcher → Watcher → List Watcher
with_watcher ws w = by_others w.client ws ++ w ∷ []

-- fewer others watch than may
abbrev pub has_place : List Watcher → ℕ → Bool
has_place ws client = nat_lt (length (by_others client ws)) most_watchers

abbrev pub watched : List Watcher → Watcher → List Watcher
watched ws w = if has_place ws w.client then with_watcher ws w else ws
