use Rattle.std.proofs.Common.{◌∙◌, sym}
use Rattle.fabric_top.proofs.Values.{of_none, of_one, of_two, of_three, of_four}
use Rattle.fabric_top.proofs.read.form_in.Goals as goal

pub returns-in_err-command-clause-form : goal.returns-in_err-command-clause-form
returns-in_err-command-clause-form c words split =
    c.from_residual.ensures ∙ sym (of_none words c.args.split.now split c.in_err-command.was)

pub returns-in-None-default-default-clause-form : goal.returns-in-None-default-default-clause-form
returns-in-None-default-default-clause-form c words split =
    let k = c.in-None-default-default in
    c.one_word.ensures.form ∙ sym (of_one words c.args.split.now c.in_ok-command.command split c.in_ok-command.was k.is-0)

pub returns-in-Some-None-default-clause-form : goal.returns-in-Some-None-default-clause-form
returns-in-Some-None-default-clause-form c words split =
    let k = c.in-Some-None-default in
    c.two_words.ensures.form ∙ sym (of_two words c.args.split.now c.in_ok-command.command k.first split c.in_ok-command.was k.is-0 k.is-1)

pub returns-in-Some-Some-None-clause-form : goal.returns-in-Some-Some-None-clause-form
returns-in-Some-Some-None-clause-form c words split =
    let k = c.in-Some-Some-None in
    c.three_words.ensures.form ∙ sym (of_three words c.args.split.now c.in_ok-command.command k.first k.second split c.in_ok-command.was k.is-0 k.is-1 k.is-2)

pub returns-in-Some-Some-Some-clause-form : goal.returns-in-Some-Some-Some-clause-form
returns-in-Some-Some-Some-clause-form c words split =
    let k = c.in-Some-Some-Some in
    c.four_words.ensures.form ∙ sym (of_four words c.args.split.now c.in_ok-command.command k.first k.second k.third split c.in_ok-command.was k.is-0 k.is-1 k.is-2)
