use Rattle.std.proofs.Common.{◌≡◌, ◌++◌, drop}
use Rattle.schedule_rules.specs.Traces.{clock_words}
use Rattle.text_fields.specs.Texts.{Keeps}
use Rattle.schedule_replay.proofs.clocks.push_clock_words.Given as goal

-- what is written and the words that are left are all words, and what stood first stands first still
abbrev pub invariant-loop-who : goal.invariant-loop-who
invariant-loop-who l =
    (l.text.items ++ clock_words (drop l.who-index l.clocks) ≡ l.fn.text.items ++ clock_words l.clocks)
    × Keeps l.fn.text.items l.text.items
