use Rattle.std.proofs.Common.{ℕ, ◌-◌, ◌++◌, length, length-drop, length-take, take, arith, ap, ◌∙◌}
use Rattle.source_lines.proofs.Pieces.{read_piece}
use Rattle.source_lines.proofs.piece.read_behind.Goals as goal

pub returns-clause-bytes : goal.returns-clause-bytes
returns-clause-bytes g c bytes e =
    let read = c.in_ok-count.ensures.bytes bytes e in
    let all = length c.args.room.now - c.args.end in (
      read_piece c.args.end all c.in_ok-count.count c.args.room.now c.read.new.into (omega arith) (omega (arith, c.read.auto.into, length-drop {A = ℕ}, length-take {A = ℕ})) (omega (arith, c.in_ok-count.ensures.count, length-drop {A = ℕ}, length-take {A = ℕ})) ∙ ap (λ t. take c.args.end c.args.room.now ++ t) read.same,
      read.rest,
      λ none. read.at_end none (omega (arith, c.read.auto.into, length-drop {A = ℕ}, length-take {A = ℕ})),
    )
