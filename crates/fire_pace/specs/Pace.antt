-- When the next firing of a node is due, in ticks. The steps of the node are a list, the newest first.
use Rattle.std.specs.Prelude.{ℕ, ◌+◌, ◌-◌, ◌*◌, ◌/◌, ◌^◌, ◌==◌, min, max, Bool, false, not, ◌&&◌, if◌then◌else◌, List, [], ◌∷◌, Option, Some, None}
use Rattle.fire_pace.specs.News.{Step, is_news, is_firing}

-- the least wait between two firings
abbrev pub pace : ℕ → ℕ
pace lease = max 1 (min 5 (lease / 8))

-- what is left of the lease: of the time until the node must have heard an answer, if it has a fence
abbrev pub left_of : ℕ → ℕ → Option ℕ → ℕ → ℕ
left_of lease answer None reading = lease
left_of lease answer (Some fence) reading = min lease (fence - answer - reading)

-- the reading of the last firing
abbrev pub last_firing : List Step → Option ℕ
last_firing [] = None
last_firing (s ∷ before) = if is_firing s.input then Some s.reading else last_firing before

-- the reading of the last news
abbrev pub last_news : List Step → Option ℕ
last_news [] = None
last_news (s ∷ before) = if is_news s.input s.told then Some s.reading else last_news before

abbrev pub is_at : Option ℕ → ℕ → Bool
is_at None reading = false
is_at (Some it) reading = it == reading

-- a firing in a turn without news: all steps of a turn have its reading
abbrev pub is_quiet_firing : Step → List Step → Bool
is_quiet_firing s before = is_firing s.input && not (is_at (last_news before) s.reading)

-- how many firings came in turns without news since the last news
abbrev pub quiet_firings : List Step → ℕ
quiet_firings [] = 0
quiet_firings (s ∷ before) =
    if is_news s.input s.told
    then 0
    else if is_quiet_firing s before then quiet_firings before + 1 else quiet_firings before

-- the pace after news; each firing in a turn without news doubles it, up to an eighth of what is left
abbrev pub wait_of : ℕ → ℕ → ℕ → ℕ
wait_of lease left quiet = min (pace lease * 2 ^ quiet) (max (pace lease) (left / 8))

-- so long after the last firing; the first one is due at once
abbrev pub due_from : Option ℕ → ℕ → ℕ
due_from None wait = 0
due_from (Some last) wait = last + wait

abbrev pub due_after : List Step → ℕ → ℕ → ℕ
due_after steps lease left = due_from (last_firing steps) (wait_of lease left (quiet_firings steps))

-- more doublings make no wait longer: a pace doubled as often is above each lease
abbrev pub kept_doublings : ℕ
kept_doublings = 30

-- what a node keeps of its steps
pub record Pace : Type 0 where
  pub fired : Option ℕ
  pub news : Option ℕ
  pub doublings : ℕ

abbrev pub pace_after : List Step → Pace
pace_after steps = record {
  fired = last_firing steps;
  news = last_news steps;
  doublings = min (quiet_firings steps) kept_doublings;
}
