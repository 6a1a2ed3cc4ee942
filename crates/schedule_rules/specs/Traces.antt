-- What `trace` writes.
use Rattle.std.specs.Prelude.{ℕ, List, [], ◌∷◌, ◌++◌, codes, decimal}
use Rattle.ring_points.specs.declared.who.Who.{Who}
use Rattle.fabric_terms.specs.Runs.{Clocks, Moment}
use Rattle.text_fields.specs.Instances.{who_text}
use Rattle.schedule_rules.specs.Output.{entry_lines}

-- the first line of a transcript
abbrev pub transcript : List ℕ
transcript = codes "transcript 0\n"

-- a running instance with its reading, behind a blank
abbrev pub clock_word : Who × ℕ → List ℕ
clock_word clock = codes " " ++ (who_text clock.0 ++ (codes ":" ++ decimal clock.1))

abbrev pub clock_words : Clocks → List ℕ
clock_words [] = []
clock_words (clock ∷ clocks) = clock_word clock ++ clock_words clocks

-- the running instances with their readings after the event of a line
abbrev pub clocks_line : ℕ → Clocks → List ℕ
clocks_line line clocks = decimal line ++ (codes " clocks" ++ (clock_words clocks ++ codes "\n"))

-- the group of a moment: its clocks, and what was told
abbrev pub group : Moment → List ℕ
group m = clocks_line m.line m.clocks ++ entry_lines m.line m.time m.entry
