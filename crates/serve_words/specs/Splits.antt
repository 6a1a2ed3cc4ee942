-- How the first words are split into a command and its values.
use Rattle.std.specs.Prelude.{◌≡◌, Bool, true, false, not, List, [], ◌∷◌, codes, option_map, slice_get, take, if◌then◌else◌}
use Rattle.std.specs.Str.{bytes_eq}
use Rattle.clap.specs.Words.{App, new_app, new_rule, with_rule}
use Rattle.serve_words.specs.Options.{Text}
use Rattle.serve_words.specs.declared.split.Split.{Split}

-- a command line that has its words alone, and not the program's name
abbrev pub bare_app : Text → App
bare_app name = record { top = record (new_app name).top { no_binary_name = true }; subs = [] }

-- the command line: a command, and two values at most
abbrev pub fabricd_app : App
fabricd_app = with_rule (with_rule (with_rule (bare_app (codes "fabricd")) (new_rule (codes "command"))) (new_rule (codes "first"))) (new_rule (codes "second"))

-- the second value is split too: a line of `ask` may say anything, so it is not
abbrev pub has_second : List Text → Bool
has_second [] = true
has_second (command ∷ values) = not (bytes_eq command (codes "ask"))

-- a command by itself, or no words
abbrev pub is_short : List Text → Bool
is_short (command ∷ first ∷ values) = false
is_short _ = true

-- the words that are split: what stands further behind are options, lines or folders
abbrev pub front : List Text → List Text
front words = take (if has_second words then 3 else 2) words

-- each word that is split is at its place
pub record IsSplit (words : List Text) (s : Split) : Type 0 where
  pub command : option_map (λ w. w.now) s.command ≡ slice_get words 0
  pub first : option_map (λ w. w.now) s.first ≡ slice_get words 1
  pub second : has_second words ≡ true → option_map (λ w. w.now) s.second ≡ slice_get words 2
