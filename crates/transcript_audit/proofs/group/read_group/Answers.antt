use Rattle.std.proofs.Common.{ℕ, length, refl, sym, ap, ◌∙◌}
use Rattle.std.proofs.lemmas.Bool.{eqb-true}
use Rattle.line_format.specs.Lines.{lines_of}
use Rattle.transcript_audit.specs.Places.{group_in}
use Rattle.transcript_audit.proofs.Telling.{bad_read, is_seen, none_begins, not_shown}
use Rattle.transcript_audit.proofs.group.read_group.Goals as goal

pub returns-then-is_empty : goal.returns-then-is_empty
returns-then-is_empty c = λ g e. absurd (none_begins c.args.bytes.now g (eqb-true (length c.args.bytes.now) 0 (sym c.if-is_empty.ensures)) e)

pub returns-in-Err-BadLine : goal.returns-in-Err-BadLine
returns-in-Err-BadLine c = λ g e.
    absurd
    (not_shown c.cut_line.result.0.now (lines_of c.cut_line.result.1.now) g (bad_read {X = ℕ} (λ n. (n, c.read_clocks.new.clocks.items)) c.in-Err-BadLine.field-0 _ c.in-Err-BadLine.field-0-is c.in-Err-BadLine.ensures) (ap group_in (sym c.cut_line.ensures.lines) ∙ e))

pub returns : goal.returns
returns c = λ g e.
    is_seen c.cut_line.result.0.now (lines_of c.cut_line.result.1.now) c.in-Ok.number c.read_clocks.new.clocks.items g c.entry_of.result
    (record { line = c.in-Ok.number; clocks = c.read_clocks.new.clocks; entry = c.entry_of.result }) c.in-Ok.ensures (ap group_in (sym c.cut_line.ensures.lines) ∙ e)
    (λ h who reports. c.entry_of.ensures _ (c.in_ok-told.ensures h who reports)) refl refl refl
