use Rattle.std.proofs.Common.{ℕ, ◌+◌, List, [], ◌∷◌, Ok, ap, arith, sym, subst, ◌∙◌}
use Rattle.source_lines.specs.Lines.{most_line}
use Rattle.source_lines.specs.Reading.{IsLineOf, TakesOf}
use Rattle.source_lines.specs.declared.next_line.NextLine.{NextLine}
use Rattle.turn_rules.specs.declared.order.Order.{Order}
use Rattle.turn_plans.specs.Reading.{AreTaken, TakesLine}
use Rattle.turn_plans.proofs.Along.{Along, along_first, along_next, at_end, at_long, at_refused}
use Rattle.turn_plans.proofs.Judging.{Given, judge}
use Rattle.turn_plans.proofs.Taken.{none_taken}
use Rattle.turn_plans.proofs.orders.take_lines.Goals as goal

pub lines-init : goal.lines-init
lines-init g c = record {
  along =
      let given : Given = record { crew = c.args.given.now.crew; config = c.args.given.now.config.now; actors = c.args.given.now.actors.now; turns = c.args.given.now.turns } in
      subst (λ (os : List Order). Along given c.args.reader.now.waiting (g.S.Source.left c.args.source.now) os 1 2 c.args.reader.now.waiting (g.S.Source.left c.args.source.now)) (sym c.new-orders.ensures)
      (along_first given c.args.reader.now.waiting (g.S.Source.left c.args.source.now));
  bounded = omega arith;
  taken = subst (λ (os : List Order). AreTaken os 1) (sym c.new-orders.ensures) none_taken;
  later = omega arith;
}

pub returns-in-Ok-End-clause-read : goal.returns-in-Ok-End-clause-read
returns-in-Ok-End-clause-read g c =
    let given : Given = record { crew = c.args.given.now.crew; config = c.args.given.now.config.now; actors = c.args.given.now.actors.now; turns = c.args.given.now.turns } in
    let taken = subst (λ (k : NextLine). TakesOf (Ok k) most_line c.lines.reader (g.S.Source.left c.lines.source) c.next.new.self (g.S.Source.left c.next.new.source)) c.in-Ok-End.field-0-is c.in-Ok-End.ensures.taken in
    at_end given c.args.reader.now.waiting (g.S.Source.left c.args.source.now) c.lines.orders c.lines.least c.lines.number c.lines.reader (g.S.Source.left c.lines.source) c.lines.invariant.along c.next.new.self (g.S.Source.left c.next.new.source) taken

pub returns-in-Ok-TooLong-clause-read : goal.returns-in-Ok-TooLong-clause-read
returns-in-Ok-TooLong-clause-read g c =
    let given : Given = record { crew = c.args.given.now.crew; config = c.args.given.now.config.now; actors = c.args.given.now.actors.now; turns = c.args.given.now.turns } in
    let taken = subst (λ (k : NextLine). TakesOf (Ok k) most_line c.lines.reader (g.S.Source.left c.lines.source) c.next.new.self (g.S.Source.left c.next.new.source)) c.in-Ok-TooLong.field-0-is c.in-Ok-TooLong.ensures.taken in
    at_long given c.args.reader.now.waiting (g.S.Source.left c.args.source.now) c.lines.orders c.lines.least c.lines.number c.lines.reader (g.S.Source.left c.lines.source) c.lines.invariant.along c.next.new.self (g.S.Source.left c.next.new.source) taken

pub returns-in-Ok-Some-clause-read : goal.returns-in-Ok-Some-clause-read
returns-in-Ok-Some-clause-read g c =
    let given : Given = record { crew = c.args.given.now.crew; config = c.args.given.now.config.now; actors = c.args.given.now.actors.now; turns = c.args.given.now.turns } in
    let taken = subst (λ (k : NextLine). TakesOf (Ok k) most_line c.lines.reader (g.S.Source.left c.lines.source) c.next.new.self (g.S.Source.left c.next.new.source)) c.in-Ok-Line.field-0-is c.in-Ok-Line.ensures.taken in
    let line = subst (λ (k : NextLine). IsLineOf (Ok k) most_line c.next.new.self.line) c.in-Ok-Line.field-0-is c.in-Ok-Line.ensures.line in
    at_refused given c.args.reader.now.waiting (g.S.Source.left c.args.source.now) c.lines.orders c.lines.least c.lines.number c.lines.reader (g.S.Source.left c.lines.source) c.lines.invariant.along c.next.new.self (g.S.Source.left c.next.new.source) taken line.0
    c.in-Ok-Some.refusal
    (λ ls. ap (λ l. judge given c.lines.orders c.lines.least c.lines.number (l ∷ ls)) (sym c.line-line.ensures)
    ∙ subst (λ r. TakesLine c.lines.number (judge given c.lines.orders c.lines.least c.lines.number (c.line-line.result.now ∷ ls)) (judge given c.take_line.new.orders c.take_line.new.least (c.lines.number + 1) ls) r) c.in-Ok-Some.field-0-is (c.in-Ok-Some.ensures.judged ls))

pub lines-preserved : goal.lines-preserved
lines-preserved g c =
    let given : Given = record { crew = c.args.given.now.crew; config = c.args.given.now.config.now; actors = c.args.given.now.actors.now; turns = c.args.given.now.turns } in
    let taken = subst (λ (k : NextLine). TakesOf (Ok k) most_line c.lines.reader (g.S.Source.left c.lines.source) c.next.new.self (g.S.Source.left c.next.new.source)) c.in-Ok-Line.field-0-is c.in-Ok-Line.ensures.taken in
    let line = subst (λ (k : NextLine). IsLineOf (Ok k) most_line c.next.new.self.line) c.in-Ok-Line.field-0-is c.in-Ok-Line.ensures.line in
    let takes = λ (ls : List (List ℕ)). subst (λ r. TakesLine c.lines.number (judge given c.lines.orders c.lines.least c.lines.number (c.line-line.result.now ∷ ls)) (judge given c.take_line.new.orders c.take_line.new.least (c.lines.number + 1) ls) r) c.in-Ok-None.field-0-is (c.in-Ok-None.ensures.judged ls) in
    record {
      along =
          along_next given c.args.reader.now.waiting (g.S.Source.left c.args.source.now) c.lines.orders c.lines.least c.lines.number c.lines.reader (g.S.Source.left c.lines.source) c.lines.invariant.along c.next.new.self (g.S.Source.left c.next.new.source) taken line.0
          c.take_line.new.orders c.take_line.new.least
          (λ ls. ap (λ l. judge given c.lines.orders c.lines.least c.lines.number (l ∷ ls)) (sym c.line-line.ensures) ∙ (takes ls).0);
      bounded = let most = (takes []).1 in omega (arith, most);
      taken = c.in-Ok-None.ensures.taken;
      later = omega (arith, c.lines.invariant.later, c.next.ensures.cause.later);
    }
