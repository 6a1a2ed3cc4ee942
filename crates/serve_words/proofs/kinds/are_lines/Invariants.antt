use Rattle.std.proofs.Common.{◌≡◌, drop, map, string_bytes}
use Rattle.std.specs.List.{list_all}
use Rattle.serve_words.specs.Options.{is_line}
use Rattle.serve_words.proofs.kinds.are_lines.Given as goal

-- what is left decides
abbrev pub invariant-loop-word : goal.invariant-loop-word
invariant-loop-word l = list_all is_line (map string_bytes (drop l.word-index l.words)) ≡ list_all is_line (map string_bytes l.words)
