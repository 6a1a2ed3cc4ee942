use Rattle.std.proofs.Common.{◌≡◌, Some, ap, sym, ◌∙◌, refl}
use Rattle.std.specs.List.{position}
use Rattle.source_lines.proofs.Cuts.{is_feed}
use Rattle.source_lines.proofs.Taking.{line_to, taken_to}
use Rattle.source_lines.proofs.Wholes.{whole_to}
use Rattle.source_lines.proofs.reader.LineReader.next.Goals as goal

pub returns-in-Some-clause-taken : goal.returns-in-Some-clause-taken
returns-in-Some-clause-taken g c bytes e =
    let found : position is_feed c.args.self.now.waiting ≡ Some c.in-Some.i = ap (position is_feed) (sym c.waiting.ensures) ∙ sym c.in-Some.ensures in (
      bytes,
      e,
      taken_to c.take_to.result c.in-Some.i c.args.most _ c.args.self.now c.take_to.new.self bytes found c.take_to.ensures refl,
      whole_to c.take_to.result c.in-Some.i c.args.most _ c.args.self.now c.take_to.new.self bytes found c.take_to.ensures refl,
    )

pub returns-in-Some-clause-line : goal.returns-in-Some-clause-line
returns-in-Some-clause-line g c =
    line_to c.take_to.result c.in-Some.i c.args.most c.args.self.now c.take_to.new.self (ap (position is_feed) (sym c.waiting.ensures) ∙ sym c.in-Some.ensures) c.take_to.ensures
