-- The ends of sessions, and functions that are changed at one place.
use Rattle.std.specs.Prelude.{ℕ, Bool, cond, ◌&&◌, ◌==◌}
use Rattle.ring_points.specs.declared.who.Who.{Who}
use Rattle.ring_points.specs.Whos.{same_who, node_instance}

-- one side of a session: an instance, and its own number of the session
pub record End : Type 0 where
  pub who : Who
  pub number : ℕ

abbrev pub end_of : Who → ℕ → End
end_of who number = record { who = who; number = number }

abbrev pub same_end : End → End → Bool
same_end e f = same_who e.who f.who && e.number == f.number

-- the end that a Hello is sent to: whichever instance of the node runs
abbrev pub any_of : ℕ → End
any_of node = end_of (node_instance node 0) 0

-- the function with another value at one instance
abbrev pub updated : {A : Type 0} → (Who → A) → Who → A → Who → A
updated f x value y = cond (same_who x y) value (f y)

-- the function with another value at one number
abbrev pub replaced : {A : Type 0} → (ℕ → A) → ℕ → A → ℕ → A
replaced f m value n = cond (m == n) value (f n)
