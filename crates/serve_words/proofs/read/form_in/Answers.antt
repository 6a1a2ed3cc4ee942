use Rattle.std.proofs.Common.{◌∙◌, ap, sym, drop, map, option_map, string_bytes}
use Rattle.serve_words.specs.Forms.{plain, with_values}
use Rattle.serve_words.proofs.Forms.{of_more, of_none, of_one}
use Rattle.serve_words.proofs.read.form_in.Goals as goal

pub returns-in_err-command : goal.returns-in_err-command
returns-in_err-command c =
    ap (option_map plain) c.from_residual.ensures ∙ sym (of_none (map string_bytes c.args.words.now) c.args.split.now c.requires c.in_err-command.was)

pub returns-in-None : goal.returns-in-None
returns-in-None c =
    c.one_word.ensures ∙ sym (of_one (map string_bytes c.args.words.now) c.args.split.now c.in_ok-command.command c.requires c.in_ok-command.was c.in-None.is)

pub returns-in-Some : goal.returns-in-Some
returns-in-Some c =
    let command = c.in_ok-command.command in
    let first = c.in-Some.first in
    c.with_values.ensures
    ∙ (ap (λ values. with_values command.now first.now (drop 1 values)) c.behind.ensures
    ∙ sym (of_more (map string_bytes c.args.words.now) c.args.split.now command first c.requires c.in_ok-command.was c.in-Some.is))
