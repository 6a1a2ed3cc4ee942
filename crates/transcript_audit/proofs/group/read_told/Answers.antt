use Rattle.std.proofs.Common.{◌≡◌, length, refl, sym, ap, ◌∙◌, subst, arith}
use Rattle.std.proofs.lemmas.Bool.Decides.{nat_tests}
use Rattle.line_format.specs.Lines.{lines_of}
use Rattle.transcript_audit.specs.Places.{goes_on, grows, GoesOn, TellsAs}
use Rattle.transcript_audit.proofs.Telling.{goes_further, goes_no_further, told_all}
use Rattle.transcript_audit.proofs.group.read_told.Goals as goal

pub loop-rest-init : goal.loop-rest-init
loop-rest-init c = λ g who reports. (g, record { who = sym who; reports = c.new.ensures.items ∙ sym reports }, refl)

pub loop-rest-preserved : goal.loop-rest-preserved
loop-rest-preserved c = λ g who reports.
    let h = c.loop-rest.invariant g who reports in
    let goes = subst (λ b. GoesOn (goes_on c.cut_line.result.0.now) c.take_line.new.told b h.0) c.if-not-goes_on.false (c.in_ok-goes_on.ensures h.0 h.1) in
    let k = goes_further c.cut_line.result.0.now (lines_of c.cut_line.result.1.now) c.take_line.new.told h.0 goes in
    (k.0, k.1, k.2 ∙ ap (λ ls. grows ls h.0) (sym c.cut_line.ensures.lines) ∙ h.2)

pub returns-then-not-goes_on : goal.returns-then-not-goes_on
returns-then-not-goes_on c = λ g who reports.
    let h = c.loop-rest.invariant g who reports in
    let goes = subst (λ b. GoesOn (goes_on c.cut_line.result.0.now) c.take_line.new.told b h.0) c.if-not-goes_on.true (c.in_ok-goes_on.ensures h.0 h.1) in
    subst (λ x. TellsAs c.take_line.new.told x) (ap (λ ls. grows ls h.0) (sym c.cut_line.ensures.lines) ∙ h.2)
    (goes_no_further c.cut_line.result.0.now (lines_of c.cut_line.result.1.now) c.take_line.new.told h.0 goes)

pub returns : goal.returns
returns c = λ g who reports.
    let h = c.loop-rest.invariant g who reports in
    let none : length c.loop-rest.rest.now ≡ 0 = grind (arith, nat_tests) in
    told_all c.loop-rest.rest.now h.0 _ c.loop-rest.told none h.1 h.2
