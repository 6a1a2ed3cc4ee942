use Rattle.std.proofs.Common.{◌≡◌, ◌++◌, drop, map, string_bytes}
use Rattle.fabric_top.specs.Splits.{line_of}
use Rattle.fabric_top.proofs.split.line_of.Given as goal

-- what stands in the line and the words that are left are all words
abbrev pub invariant-loop-word : goal.invariant-loop-word
invariant-loop-word l = map (λ w. w.now) l.line.items ++ map string_bytes (drop l.word-index l.words) ≡ line_of (map string_bytes l.words)
