-- How the words are split into a command and its values.
use Rattle.std.specs.Prelude.{◌≡◌, ◌≤◌, ℕ, List, ◌∷◌, length, codes, option_map, slice_get}
use Rattle.clap.specs.Words.{App, new_app, new_rule, with_rule}
use Rattle.fabric_top.specs.declared.split.Split.{Split}

-- the command line: a command, and three values at most
abbrev pub fabric_app : App
fabric_app = with_rule (with_rule (with_rule (with_rule (new_app (codes "fabric")) (new_rule (codes "command"))) (new_rule (codes "first"))) (new_rule (codes "second"))) (new_rule (codes "third"))

-- the program's name, a mark behind which no word is an option, and the words
abbrev pub line_of : List (List ℕ) → List (List ℕ)
line_of words = codes "fabric" ∷ codes "--" ∷ words

-- each word is at its place, and there are four at most
pub record IsSplit (words : List (List ℕ)) (s : Split) : Type 0 where
  pub few : length words ≤ 4
  pub command : option_map (λ w. w.now) s.command ≡ slice_get words 0
  pub first : option_map (λ w. w.now) s.first ≡ slice_get words 1
  pub second : option_map (λ w. w.now) s.second ≡ slice_get words 2
  pub third : option_map (λ w. w.now) s.third ≡ slice_get words 3
