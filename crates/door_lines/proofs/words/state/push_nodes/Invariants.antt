use Rattle.std.proofs.Common.{◌≡◌, ◌++◌, drop}
use Rattle.std.specs.Prelude.{codes, decimal}
use Rattle.std.specs.List.{flat_map}
use Rattle.text_fields.specs.Texts.{Keeps, listed}
use Rattle.door_lines.proofs.words.state.push_nodes.Given as goal

-- what is written so far, and what is left to write
abbrev pub invariant-loop-n : goal.invariant-loop-n
invariant-loop-n l =
    (l.into.items ++ flat_map (λ n. codes "," ++ decimal n) (drop l.n-index l.more) ≡ l.fn.into.items ++ listed decimal l.nodes)
    × Keeps l.fn.into.items l.into.items
